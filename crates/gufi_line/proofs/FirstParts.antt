-- The first part of a text ends at the first delimiter.
use Rattle.std.proofs.Common.{◌≡◌, ℕ, ◌+◌, ◌<◌, ◌≤◌, Bool, true, false, not, cond, eqb, ltb, List, [], ◌∷◌, length, get_or, take, drop, Option, Some, None, refl, sym, ap, ◌∙◌, arith}
use Rattle.std.specs.List.{position, position_or_len, onto_first}
use Rattle.std.proofs.lemmas.Bool.{ltb-true, ltb-false, true≢false, false≢true, cond-true, not-true}
use Rattle.std.proofs.lemmas.List.Sums.{prefix_len_passes}
use Rattle.std.proofs.lemmas.List.Splits.{slice_split_first}
use Rattle.std.proofs.lemmas.List.Quantifiers.{position-Some}
use Rattle.memchr.specs.Find.{IsFirstByte, is_byte}
use Rattle.memchr.proofs.lemmas.ValueLemmas.{IsFirstByte-value}
use Rattle.gufi_base.specs.Basics.{split}

abbrev is_end : ℕ → ℕ → Bool
is_end s b = eqb b s

pub split_here : (s : ℕ) (text : List ℕ) (at : ℕ) → Some at ≡ position (λ b. eqb b s) text → split s text ≡ take at text ∷ split s (drop (at + 1) text)
split_here s text at e = by (ltb (position_or_len (is_end s) text) (length text)) refl e
  where
    by : (b : Bool) → ltb (position_or_len (is_end s) text) (length text) ≡ b → Some at ≡ cond b (Some (position_or_len (is_end s) text)) None → split s text ≡ take at text ∷ split s (drop (at + 1) text)
    by true within e =
        let is : position_or_len (is_end s) text ≡ at = cc in
        slice_split_first (is_end s) text 0 (ltb-true _ _ within) ∙ ap (λ n. take n text ∷ split s (drop (n + 1) text)) is
    by false past e = absurd cc

no_end : (s : ℕ) (text : List ℕ) → length text ≤ position_or_len (is_end s) text → split s text ≡ text ∷ []
no_end s [] h = refl
no_end s (b ∷ text) h = by (eqb b s) (no_end s text) h
  where
    by : (t : Bool) → (length text ≤ position_or_len (is_end s) text → split s text ≡ text ∷ []) → length (b ∷ text) ≤ cond (not t) (1 + position_or_len (is_end s) text) 0
        → cond t ([] ∷ split s text) (onto_first b (split s text)) ≡ (b ∷ text) ∷ []
    by true rest h = absurd (omega arith)
    by false rest h = ap (onto_first b) (rest (omega arith))

pub split_whole : (s : ℕ) (text : List ℕ) → None ≡ position (λ b. eqb b s) text → split s text ≡ text ∷ []
split_whole s text e = by (ltb (position_or_len (is_end s) text) (length text)) refl e
  where
    by : (b : Bool) → ltb (position_or_len (is_end s) text) (length text) ≡ b → None ≡ cond b (Some (position_or_len (is_end s) text)) None → split s text ≡ text ∷ []
    by true within e = absurd cc
    by false past e = no_end s text (ltb-false _ _ past)

-- the parts that are left behind the first
pub parts_left : (s : ℕ) (text : List ℕ) (at : ℕ) (done : Bool) (parts : List (List ℕ)) → done ≡ false → cond done [] (split s text) ≡ parts → Some at ≡ position (λ b. eqb b s) text
    → parts ≡ take at text ∷ cond done [] (split s (drop (at + 1) text))
parts_left s text at true parts open_still is e = absurd (true≢false open_still)
parts_left s text at false parts open_still is e = sym is ∙ split_here s text at e

pub part_left : (s : ℕ) (text : List ℕ) (done : Bool) (parts : List (List ℕ)) → done ≡ false → cond done [] (split s text) ≡ parts → None ≡ position (λ b. eqb b s) text → parts ≡ text ∷ []
part_left s text true parts open_still is e = absurd (true≢false open_still)
part_left s text false parts open_still is e = sym is ∙ split_whole s text e

none_pass : (s : ℕ) (text : List ℕ) → length text ≤ position_or_len (is_end s) text → (k : ℕ) → k < length text → eqb (get_or text k 0) s ≡ false
none_pass s text h k lt = not-true _ (prefix_len_passes (λ b. not (eqb b s)) text k 0 (omega arith))

pub first_byte : (s : ℕ) (text : List ℕ) → IsFirstByte (is_byte s) text (position (is_end s) text)
first_byte s text = by (ltb (position_or_len (is_end s) text) (length text)) refl
  where
    by : (b : Bool) → ltb (position_or_len (is_end s) text) (length text) ≡ b → IsFirstByte (is_byte s) text (cond b (Some (position_or_len (is_end s) text)) None)
    by true within =
        let h = position-Some (is_end s) text (position_or_len (is_end s) text) 0 (cond-true _ _ _ within) in
        (record { low = omega arith; high = h.0; before = λ k low below pass. false≢true (sym (h.2 k below) ∙ pass) }, h.1)
    by false past = λ k low lt pass. false≢true (sym (none_pass s text (ltb-false _ _ past) k lt) ∙ pass)

-- the first place of the delimiter is the position
pub first_place : (s : ℕ) (text : List ℕ) (r : Option ℕ) → IsFirstByte (is_byte s) text r → r ≡ position (λ b. eqb b s) text
first_place s text r h = IsFirstByte-value (is_byte s) text r h ∙ sym (IsFirstByte-value (is_byte s) text (position (is_end s) text) (first_byte s text))
