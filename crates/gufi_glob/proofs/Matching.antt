-- Why a try that fails need not begin before the last `*`.
use Rattle.std.proofs.Common.{◌≡◌, ℕ, Bool, true, false, List, [], ◌∷◌, refl, sym, ap, ◌∙◌, inl, inr}
use Rattle.std.specs.Prelude.{◌||◌, ◌⊎◌}
use Rattle.std.specs.List.{list_any}
use Rattle.std.proofs.lemmas.Bool.{cases_Bool, false≢true}
use Rattle.gufi_glob.specs.Parts.{Part, any_text, one_byte, byte_in}
use Rattle.gufi_glob.specs.Patterns.{matches, suffixes, is_among}
use Rattle.gufi_glob.specs.declared.part.Part.{Part as Kept}
use Rattle.gufi_glob.specs.KeptParts.{takes, is_any_text, part_of, parts_of}

-- some end of the text matches
abbrev pub matches_some_end : List Part → List ℕ → Bool
matches_some_end parts text = list_any (matches parts) (suffixes text)

or_right : (a b : Bool) → b ≡ true → (a || b) ≡ true
or_right true b e = refl
or_right false b e = e

or_again : (a b : Bool) → ((a || b) || b) ≡ (a || b)
or_again true b = refl
or_again false true = refl
or_again false false = refl

pub ends_here : (parts : List Part) (text : List ℕ) → matches parts text ≡ true → matches_some_end parts text ≡ true
ends_here parts [] e = rw e refl
ends_here parts (b ∷ text) e = rw e refl

pub ends_later : (parts : List Part) (b : ℕ) (text : List ℕ) → matches_some_end parts text ≡ true → matches_some_end parts (b ∷ text) ≡ true
ends_later parts b text e = or_right (matches parts (b ∷ text)) (matches_some_end parts text) e

-- two stars are one
pub star_twice : (parts : List Part) (text : List ℕ) → matches_some_end (any_text ∷ parts) text ≡ matches_some_end parts text
star_twice parts [] = or_again (matches parts []) false
star_twice parts (b ∷ text) =
    ap (λ x. matches_some_end parts (b ∷ text) || x) (star_twice parts text) ∙ or_again (matches parts (b ∷ text)) (matches_some_end parts text)

abbrev pub if_so : Bool → Bool → Bool
if_so p x = elim p [ true ↦ x | false ↦ false ]

if_so-true : (p x : Bool) → p ≡ true → if_so p x ≡ x
if_so-true true x e = refl
if_so-true false x e = absurd (false≢true e)

if_so-false : (p x : Bool) → p ≡ false → if_so p x ≡ false
if_so-false true x e = absurd (false≢true (sym e))
if_so-false false x e = refl

-- a part that takes its byte leaves the others
pub taken : (part : Part) (parts : List Part) (b : ℕ) (text : List ℕ) → takes part b ≡ true → matches (part ∷ parts) (b ∷ text) ≡ matches parts text
taken any_text parts b text e = absurd (false≢true e)
taken one_byte parts b text e = refl
taken (byte_in complement ranges) parts b text e = if_so-true (is_among complement ranges b) (matches parts text) e

-- a part of one byte that doesn't take it
pub not_taken : (part : Part) (parts : List Part) (b : ℕ) (text : List ℕ) → is_any_text part ≡ false → takes part b ≡ false → matches (part ∷ parts) (b ∷ text) ≡ false
not_taken any_text parts b text single e = absurd (false≢true (sym single))
not_taken one_byte parts b text single e = absurd (false≢true (sym e))
not_taken (byte_in complement ranges) parts b text single e = if_so-false (is_among complement ranges b) (matches parts text) e

one_step : (part : Part) (parts : List Part) (b : ℕ) (text : List ℕ) → is_any_text part ≡ false → matches (part ∷ parts) (b ∷ text) ≡ true → matches parts text ≡ true
one_step part parts b text single e =
    elim (cases_Bool (takes part b)) [
      | inl own ↦ sym (taken part parts b text own) ∙ e
      | inr other ↦ absurd (false≢true (sym (not_taken part parts b text single other) ∙ e))
    ]

no_bytes : (part : Part) (parts : List Part) → is_any_text part ≡ false → matches (part ∷ parts) [] ≡ false
no_bytes any_text parts single = absurd (false≢true (sym single))
no_bytes one_byte parts single = refl
no_bytes (byte_in complement ranges) parts single = refl

pub or_cases : (a b : Bool) → (a || b) ≡ true → (a ≡ true) ⊎ (b ≡ true)
or_cases true b e = inl refl
or_cases false b e = inr e

single_ends : (part : Part) (parts : List Part) (text : List ℕ) → is_any_text part ≡ false → matches_some_end (part ∷ parts) text ≡ true → matches_some_end parts text ≡ true
single_ends part parts [] single e = absurd (false≢true (sym (rw (no_bytes part parts single) refl) ∙ e))
single_ends part parts (b ∷ text) single e =
    elim (or_cases (matches (part ∷ parts) (b ∷ text)) (matches_some_end (part ∷ parts) text) e) [
      | inl here ↦ ends_later parts b text (ends_here parts text (one_step part parts b text single here))
      | inr later ↦ ends_later parts b text (single_ends part parts text single later)
    ]

-- where some end matches, what is left of it matches some end of what is left
pub single_later : (part : Part) (parts : List Part) (b : ℕ) (text : List ℕ) → is_any_text part ≡ false → matches_some_end (part ∷ parts) (b ∷ text) ≡ true → matches_some_end parts text ≡ true
single_later part parts b text single e =
    elim (or_cases (matches (part ∷ parts) (b ∷ text)) (matches_some_end (part ∷ parts) text) e) [
      | inl here ↦ ends_here parts text (one_step part parts b text single here)
      | inr later ↦ single_ends part parts text single later
    ]

takes_single : (part : Part) (b : ℕ) → takes part b ≡ true → is_any_text part ≡ false
takes_single any_text b e = absurd (false≢true e)
takes_single one_byte b e = refl
takes_single (byte_in complement ranges) b e = refl

-- A try: whether some end of the text matches the parts is whether some end of `begin` matches `from`, which is
-- whether what is left matches what is still wanted, unless a later place is needed.
pub record Trying (parts : List Part) (text : List ℕ) (from : List Part) (begin : List ℕ) (wanted : List Part) (left : List ℕ) : Type 0 where
  pub whole : matches_some_end parts text ≡ matches_some_end from begin
  pub now : matches from begin ≡ matches wanted left
  pub later : matches_some_end from begin ≡ true → matches_some_end wanted left ≡ true

pub trying_first : (parts : List Part) (text : List ℕ) → Trying parts text parts text parts text
trying_first parts text = record { whole = refl; now = refl; later = λ e. e }

same_truth : (a b : Bool) → (a ≡ true → b ≡ true) → (b ≡ true → a ≡ true) → a ≡ b
same_truth true b there back = sym (there refl)
same_truth false true there back = back refl
same_truth false false there back = refl

pub trying_star : {parts from rest : List Part} {text begin left : List ℕ} → Trying parts text from begin (any_text ∷ rest) left → Trying parts text rest left rest left
trying_star {parts} {from} {rest} {text} {begin} {left} t = record {
  whole =
      t.whole
      ∙ same_truth (matches_some_end from begin) (matches_some_end rest left)
      (λ e. sym (star_twice rest left) ∙ t.later e)
      (λ e. ends_here from begin (t.now ∙ e));
  now = refl;
  later = λ e. e;
}

pub trying_single : {parts from rest : List Part} {text begin behind : List ℕ} {part : Part} {b : ℕ} → takes part b ≡ true → Trying parts text from begin (part ∷ rest) (b ∷ behind) → Trying parts text from begin rest behind
trying_single {rest} {behind} {part} {b} e t = record {
  whole = t.whole;
  now = t.now ∙ taken part rest b behind e;
  later = λ some. single_later part rest b behind (takes_single part b e) (t.later some);
}

pub trying_again : {parts from wanted : List Part} {text left next : List ℕ} {c : ℕ} → matches wanted left ≡ false → Trying parts text from (c ∷ next) wanted left → Trying parts text from next from next
trying_again {from} {next} fails t = record {
  whole = t.whole ∙ ap (λ x. x || matches_some_end from next) (t.now ∙ fails);
  now = refl;
  later = λ e. e;
}

or_false : (a : Bool) → (a || false) ≡ a
or_false true = refl
or_false false = refl

pub trying_done : {parts from wanted : List Part} {text begin : List ℕ} → Trying parts text from begin wanted [] → matches_some_end parts text ≡ matches wanted []
trying_done {parts} {from} {wanted} {text} {begin} t =
    t.whole
    ∙ same_truth (matches_some_end from begin) (matches wanted [])
    (λ e. sym (or_false (matches wanted [])) ∙ t.later e)
    (λ e. ends_here from begin (t.now ∙ e))

-- ---- the same of what the program keeps

is_star : (part : Part) → is_any_text part ≡ true → part ≡ any_text
is_star any_text e = refl
is_star one_byte e = absurd (false≢true e)
is_star (byte_in complement ranges) e = absurd (false≢true e)

star_before : {parts from rest : List Part} {text begin left : List ℕ} (part : Part) → is_any_text part ≡ true → Trying parts text from begin (part ∷ rest) left → Trying parts text rest left rest left
star_before any_text e t = trying_star t
star_before one_byte e t = absurd (false≢true e)
star_before (byte_in complement ranges) e t = absurd (false≢true e)

pub star_kept : {parts from : List Part} {text begin left : List ℕ} {wanted others : List Kept} {first : Kept} → wanted ≡ first ∷ others → is_any_text (part_of first) ≡ true
    → Trying parts text from begin (parts_of wanted) left → Trying parts text (parts_of others) left (parts_of others) left
star_kept {first} cut e t = star_before (part_of first) e (rw cut at t)

pub single_kept : {parts from : List Part} {text begin left behind : List ℕ} {wanted others : List Kept} {first : Kept} {b : ℕ} → wanted ≡ first ∷ others → left ≡ b ∷ behind → takes (part_of first) b ≡ true
    → Trying parts text from begin (parts_of wanted) left → Trying parts text from begin (parts_of others) behind
single_kept cut bytes e t = trying_single e (rw (cut, bytes) at t)

-- what is wanted doesn't match a text with a first byte
pub fails_kept : (wanted others : List Kept) (first : Kept) (left behind : List ℕ) (b : ℕ) → wanted ≡ first ∷ others → left ≡ b ∷ behind → is_any_text (part_of first) ≡ false → takes (part_of first) b ≡ false
    → matches (parts_of wanted) left ≡ false
fails_kept wanted others first left behind b cut bytes single e = rw (cut, bytes) (not_taken (part_of first) (parts_of others) b behind single e)

pub fails_done : (wanted : List Kept) (left behind : List ℕ) (b : ℕ) → wanted ≡ [] → left ≡ b ∷ behind → matches (parts_of wanted) left ≡ false
fails_done wanted left behind b cut bytes = rw (cut, bytes) refl

pub again_kept : {parts from wanted : List Part} {text begin left next : List ℕ} {c : ℕ} → matches wanted left ≡ false → begin ≡ c ∷ next → Trying parts text from begin wanted left → Trying parts text from next from next
again_kept fails bytes t = trying_again fails (rw bytes at t)

pub done_kept : {parts from wanted : List Part} {text begin left : List ℕ} → left ≡ [] → Trying parts text from begin wanted left → matches_some_end parts text ≡ matches wanted []
done_kept bytes t = trying_done (rw bytes at t)

pub none_kept : {parts from wanted : List Part} {text begin left : List ℕ} → matches wanted left ≡ false → begin ≡ [] → Trying parts text from begin wanted left → matches_some_end parts text ≡ false
none_kept {from} {wanted} {left} fails bytes t =
    let now : matches from [] ≡ matches wanted left = rw bytes at t.now in
    t.whole ∙ rw bytes (ap (λ x. x || false) (now ∙ fails))
