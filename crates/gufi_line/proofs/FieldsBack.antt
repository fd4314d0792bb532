-- Fields joined by the delimiter are split again: plain bytes, as digits, signs and slashes, delimit nothing.
use Rattle.std.proofs.Common.{◌≡◌, ℕ, Bool, true, not, ◌&&◌, ◌||◌, eqb, leb, List, [], ◌∷◌, ◌++◌, refl, sym, ap, ◌∙◌, ⊎_elim}
use Rattle.std.specs.List.{join_with_byte, list_all}
use Rattle.std.proofs.lemmas.Bool.{eqb-true, and_parts, and_from, or_cases, or_from, not-true, not_from_false, cases_Bool, false≢true}
use Rattle.std.proofs.lemmas.List.Folds.{list_all-append}
use Rattle.gufi_base.specs.Basics.{split}
use Rattle.gufi_base.specs.Delimiters.{is_letter_or_digit, is_delimiter, may_delimit}
use Rattle.gufi_base.proofs.Parts.{has_no, split_first, split_one}

-- a letter, a digit or one of "/-."
abbrev pub is_plain : ℕ → Bool
is_plain b = is_letter_or_digit b || (eqb b 47 || eqb b 45 || eqb b 46)

-- a plain byte is no delimiter
abbrev is_sign : ℕ → Bool
is_sign b = eqb b 47 || eqb b 45 || eqb b 46

plain_delimits : (b : ℕ) → is_plain b ≡ true → may_delimit b ≡ true → ⊥
plain_delimits b plain may = ⊎_elim (printable b plain) (control b plain) (or_cases (is_delimiter b) (eqb b 0x1E) may)
  where
    printable : (b : ℕ) → is_plain b ≡ true → is_delimiter b ≡ true → ⊥
    printable b plain h =
        let both = and_parts (leb 32 b && leb b 126 && not (is_letter_or_digit b)) (not (is_sign b)) h in
        let inner = and_parts (leb 32 b && leb b 126) (not (is_letter_or_digit b)) both.0 in
        false≢true (sym (or_from (is_letter_or_digit b) (is_sign b) (not-true _ inner.1) (not-true _ both.1)) ∙ plain)

    control : (b : ℕ) → is_plain b ≡ true → eqb b 0x1E ≡ true → ⊥
    control b plain h = false≢true (ap is_plain (sym (eqb-true b 0x1E h)) ∙ plain)

pub plain_apart : (delim b : ℕ) → may_delimit delim ≡ true → is_plain b ≡ true → not (eqb b delim) ≡ true
plain_apart delim b may plain = ⊎_elim same (λ e. not_from_false _ e) (cases_Bool (eqb b delim))
  where
    same : eqb b delim ≡ true → not (eqb b delim) ≡ true
    same e = absurd (plain_delimits b plain (ap may_delimit (eqb-true b delim e) ∙ may))

plain_no_newline : (b : ℕ) → is_plain b ≡ true → not (eqb b 10) ≡ true
plain_no_newline b plain = ⊎_elim same (λ e. not_from_false _ e) (cases_Bool (eqb b 10))
  where
    same : eqb b 10 ≡ true → not (eqb b 10) ≡ true
    same e = absurd (false≢true (ap is_plain (sym (eqb-true b 10 e)) ∙ plain))

-- neither a delimiter nor a newline stands there
pub record IsField (delim : ℕ) (field : List ℕ) : Type 0 where
  pub apart : has_no delim field ≡ true
  pub line : has_no 10 field ≡ true

pub plain_field : (delim : ℕ) → may_delimit delim ≡ true → (field : List ℕ) → list_all is_plain field ≡ true → IsField delim field
plain_field delim may [] h = record { apart = refl; line = refl }
plain_field delim may (b ∷ field) h =
    let both = and_parts (is_plain b) (list_all is_plain field) h in
    let rest = plain_field delim may field both.1 in
    record { apart = and_from _ _ (plain_apart delim b may both.0) rest.apart; line = and_from _ _ (plain_no_newline b both.0) rest.line }

pub field_append : (delim : ℕ) (a b : List ℕ) → IsField delim a → IsField delim b → IsField delim (a ++ b)
field_append delim a b h k = record {
  apart = list_all-append (λ x. not (eqb x delim)) a b ∙ and_from _ _ h.apart k.apart;
  line = list_all-append (λ x. not (eqb x 10)) a b ∙ and_from _ _ h.line k.line;
}

unfoldable pub AreFields : ℕ → List (List ℕ) → Type 0
AreFields delim [] = Unit {0}
AreFields delim (field ∷ fields) = IsField delim field × AreFields delim fields

-- parts that hold the byte nowhere, joined by it
pub split_join : (s : ℕ) (part : List ℕ) (parts : List (List ℕ)) → list_all (has_no s) (part ∷ parts) ≡ true → split s (join_with_byte s (part ∷ parts)) ≡ part ∷ parts
split_join s part [] h = split_one s part (and_parts (has_no s part) true h).0
split_join s part (next ∷ parts) h =
    let both = and_parts (has_no s part) (list_all (has_no s) (next ∷ parts)) h in
    split_first s part (join_with_byte s (next ∷ parts)) both.0 ∙ ap (λ (ps : List (List ℕ)). part ∷ ps) (split_join s next parts both.1)

pub all_join : (q : ℕ → Bool) (s : ℕ) → q s ≡ true → (parts : List (List ℕ)) → list_all (list_all q) parts ≡ true → list_all q (join_with_byte s parts) ≡ true
all_join q s own [] h = refl
all_join q s own (part ∷ []) h = (and_parts (list_all q part) true h).0
all_join q s own (part ∷ next ∷ parts) h =
    let both = and_parts (list_all q part) (list_all (list_all q) (next ∷ parts)) h in
    list_all-append q part (s ∷ join_with_byte s (next ∷ parts)) ∙ and_from _ _ both.0 (and_from _ _ own (all_join q s own (next ∷ parts) both.1))

all_apart : (delim : ℕ) (fields : List (List ℕ)) → AreFields delim fields → list_all (has_no delim) fields ≡ true
unfolding AreFields
all_apart delim [] h = refl
all_apart delim (field ∷ fields) h = and_from _ _ h.0.apart (all_apart delim fields h.1)

all_open : (delim : ℕ) (fields : List (List ℕ)) → AreFields delim fields → list_all (has_no 10) fields ≡ true
unfolding AreFields
all_open delim [] h = refl
all_open delim (field ∷ fields) h = and_from _ _ h.0.line (all_open delim fields h.1)

-- the fields of a line
pub split_joined : (delim : ℕ) (field : List ℕ) (fields : List (List ℕ)) → AreFields delim (field ∷ fields) → split delim (join_with_byte delim (field ∷ fields)) ≡ field ∷ fields
split_joined delim field fields h = split_join delim field fields (all_apart delim (field ∷ fields) h)

delim_no_newline : (delim : ℕ) → may_delimit delim ≡ true → not (eqb delim 10) ≡ true
delim_no_newline delim may = ⊎_elim same (λ e. not_from_false _ e) (cases_Bool (eqb delim 10))
  where
    same : eqb delim 10 ≡ true → not (eqb delim 10) ≡ true
    same e = absurd (false≢true (ap may_delimit (sym (eqb-true delim 10 e)) ∙ may))

-- a line holds no newline before its end
pub joined_line : (delim : ℕ) → may_delimit delim ≡ true → (fields : List (List ℕ)) → AreFields delim fields → has_no 10 (join_with_byte delim fields) ≡ true
joined_line delim may fields h = all_join (λ x. not (eqb x 10)) delim (delim_no_newline delim may) fields (all_open delim fields h)
