-- A match is a cut of the text.
use Rattle.std.proofs.Common.{◌≡◌, ℕ, true, false, List, [], ◌∷◌, ◌++◌, refl, sym, ap, ◌∙◌, inl, inr}
use Rattle.std.specs.List.{concat}
use Rattle.std.proofs.lemmas.Bool.{cases_Bool, false≢true}
use Rattle.gufi_glob.specs.Parts.{Part, any_text, one_byte, byte_in}
use Rattle.gufi_glob.specs.Patterns.{matches, is_among}
use Rattle.gufi_glob.specs.Cuts.{fits, Fitting, none, more, IsCut}
use Rattle.gufi_glob.proofs.Matching.{matches_some_end, ends_here, ends_later, or_cases, taken, not_taken}

-- a text whose end matches
record SomeEnd (parts : List Part) (text : List ℕ) : Type 0 where
  front : List ℕ
  back : List ℕ
  whole : front ++ back ≡ text
  matched : matches parts back ≡ true

some_end : (parts : List Part) (text : List ℕ) → matches_some_end parts text ≡ true → SomeEnd parts text
some_end parts [] e =
    elim (or_cases (matches parts []) false e) [
      | inl here ↦ record { front = []; back = []; whole = refl; matched = here }
      | inr later ↦ absurd (false≢true later)
    ]
some_end parts (b ∷ text) e =
    elim (or_cases (matches parts (b ∷ text)) (matches_some_end parts text) e) [
      | inl here ↦ record { front = []; back = b ∷ text; whole = refl; matched = here }
      | inr later ↦ let end = some_end parts text later in record { front = b ∷ end.front; back = end.back; whole = ap (λ l. b ∷ l) end.whole; matched = end.matched }
    ]

one_more : {part : Part} {parts : List Part} {text rest : List ℕ} (piece : List ℕ) → fits part piece ≡ true → piece ++ rest ≡ text → ((pieces : List (List ℕ)) × IsCut parts rest pieces)
    → (pieces : List (List ℕ)) × IsCut (part ∷ parts) text pieces
one_more piece fit whole cut = (piece ∷ cut.0, record { whole = ap (λ l. piece ++ l) cut.1.whole ∙ whole; fitting = more fit cut.1.fitting })

pub cut_of_match : (parts : List Part) (text : List ℕ) → matches parts text ≡ true → (pieces : List (List ℕ)) × IsCut parts text pieces
cut_of_match [] [] e = ([], record { whole = refl; fitting = none })
cut_of_match [] (b ∷ text) e = absurd (false≢true e)
cut_of_match (any_text ∷ parts) text e =
    let end = some_end parts text e in one_more end.front refl end.whole (cut_of_match parts end.back end.matched)
cut_of_match (one_byte ∷ parts) [] e = absurd (false≢true e)
cut_of_match (one_byte ∷ parts) (b ∷ text) e = one_more (b ∷ []) refl refl (cut_of_match parts text e)
cut_of_match (byte_in complement ranges ∷ parts) [] e = absurd (false≢true e)
cut_of_match (byte_in complement ranges ∷ parts) (b ∷ text) e =
    elim (cases_Bool (is_among complement ranges b)) [
      | inl own ↦ one_more (b ∷ []) own refl (cut_of_match parts text (sym (taken (byte_in complement ranges) parts b text own) ∙ e))
      | inr other ↦ absurd (false≢true (sym (not_taken (byte_in complement ranges) parts b text refl other) ∙ e))
    ]

ends_behind : (parts : List Part) (front back : List ℕ) → matches parts back ≡ true → matches_some_end parts (front ++ back) ≡ true
ends_behind parts [] back e = ends_here parts back e
ends_behind parts (b ∷ front) back e = ends_later parts b (front ++ back) (ends_behind parts front back e)

front_matches : (part : Part) (parts : List Part) (piece rest : List ℕ) → fits part piece ≡ true → matches parts rest ≡ true → matches (part ∷ parts) (piece ++ rest) ≡ true
front_matches any_text parts piece rest fit e = ends_behind parts piece rest e
front_matches one_byte parts [] rest fit e = absurd (false≢true fit)
front_matches one_byte parts (b ∷ []) rest fit e = e
front_matches one_byte parts (b ∷ c ∷ piece) rest fit e = absurd (false≢true fit)
front_matches (byte_in complement ranges) parts [] rest fit e = absurd (false≢true fit)
front_matches (byte_in complement ranges) parts (b ∷ []) rest fit e = taken (byte_in complement ranges) parts b rest fit ∙ e
front_matches (byte_in complement ranges) parts (b ∷ c ∷ piece) rest fit e = absurd (false≢true fit)

fitting_matches : {parts : List Part} {pieces : List (List ℕ)} → Fitting parts pieces → matches parts (concat pieces) ≡ true
fitting_matches none = refl
fitting_matches (more {part} {piece} {parts} {pieces} fit rest) = front_matches part parts piece (concat pieces) fit (fitting_matches rest)

pub match_of_cut : (parts : List Part) (text : List ℕ) (pieces : List (List ℕ)) → IsCut parts text pieces → matches parts text ≡ true
match_of_cut parts text pieces cut = ap (matches parts) (sym cut.whole) ∙ fitting_matches cut.fitting
