-- Names in the parts of bytes, and paths kept as texts.
use Rattle.std.proofs.Common.{◌≡◌, ℕ, Bool, true, false, cond, eqb, List, [], ◌∷◌, ◌≤◌, length, refl, sym, ap, subst, ◌∙◌, ⊎_elim}
use Rattle.std.specs.Prelude.{filter, not, ◌||◌, Ok, nat_lt, bytes_eq}
use Rattle.std.specs.List.{onto_first, list_all, list_any}
use Rattle.std.proofs.lemmas.Bool.{cond-false, and_parts, and_from, not_from_false, not-true, or_parts, cases_Bool, false≢true, ltb-false, le-leb}
use Rattle.std.proofs.lemmas.List.{append-nil}
use Rattle.std.proofs.lemmas.Slice.Eq.{bytes_eq-Decides}
use Rattle.gufi_base.specs.Basics.{split, all_but_last}
use Rattle.gufi_base.specs.Limits.{max_name, max_path, max_components}
use Rattle.gufi_base.specs.Names.{dot_dot, is_path_byte, is_name_byte, is_name}
use Rattle.gufi_base.specs.Paths.{Components, is_dropped, kept_parts, read_path}
use Rattle.gufi_base.specs.PathTexts.{closed_names, kept_text, names, IsText}
use Rattle.gufi_base.proofs.Parts.{has_no, front_closed}

not_not : (b : Bool) → not b ≡ false → b ≡ true
not_not true e = refl
not_not false e = cc

neither : (a b : Bool) → a ≡ false → b ≡ false → (a || b) ≡ false
neither true b p q = cc
neither false b p q = q

-- a text without the byte goes on without it
pub no_slash : (name : List ℕ) → list_all is_name_byte name ≡ true → has_no 47 name ≡ true
no_slash [] h = refl
no_slash (b ∷ name) h =
    let both = and_parts _ _ h in
    and_from _ _ (and_parts _ _ both.0).1 (no_slash name both.1)

pub name_bytes : (name : List ℕ) → is_name name ≡ true → list_all is_name_byte name ≡ true
name_bytes name h = (and_parts _ _ (and_parts _ _ h).0).1

pub name_has_no : (name : List ℕ) → is_name name ≡ true → has_no 47 name ≡ true
name_has_no name h = no_slash name (name_bytes name h)

pub no_slashes : (path : Components) → list_all is_name path ≡ true → list_all (has_no 47) path ≡ true
no_slashes [] h = refl
no_slashes (name ∷ path) h =
    let both = and_parts _ _ h in
    and_from _ _ (name_has_no name both.0) (no_slashes path both.1)

-- the names of a kept text are those that it was made of
pub names-kept_text : (path : Components) → list_all is_name path ≡ true → names (kept_text path) ≡ path
names-kept_text path h = ap (λ (t : List ℕ). all_but_last (split 47 t)) (sym (append-nil (closed_names path))) ∙ front_closed 47 path [] (no_slashes path h) refl

pub IsText-kept_text : (path : Components) → list_all is_name path ≡ true → IsText (kept_text path)
IsText-kept_text path h =
    let e = names-kept_text path h in
    record { whole = ap kept_text e; each = ap (list_all is_name) e ∙ h }

-- the same texts have the same names
pub kept_text-injective : (p q : Components) → list_all is_name p ≡ true → list_all is_name q ≡ true → kept_text p ≡ kept_text q → p ≡ q
kept_text-injective p q h k e = sym (names-kept_text p h) ∙ ap names e ∙ names-kept_text q k

clean_cond : (t : Bool) (b : ℕ) (ps : List (List ℕ)) → (t ≡ false → is_name_byte b ≡ true) → list_all (list_all is_name_byte) ps ≡ true → list_all (list_all is_name_byte) (cond t ([] ∷ ps) (onto_first b ps)) ≡ true
clean_cond true b ps h each = each
clean_cond false b [] h each = and_from _ _ (and_from _ _ (h refl) refl) refl
clean_cond false b (p ∷ ps) h each =
    let both = and_parts _ _ each in
    and_from _ _ (and_from _ _ (h refl) both.0) both.1

-- the parts of bytes that have no bad one have bytes of names alone
clean_parts : (bytes : List ℕ) → list_any (λ b. not (is_path_byte b)) bytes ≡ false → list_all (list_all is_name_byte) (split 47 bytes) ≡ true
clean_parts [] h = refl
clean_parts (b ∷ bytes) h =
    let both = or_parts _ _ h in
    clean_cond (eqb b 47) b (split 47 bytes) (λ e. and_from _ _ (not_not (is_path_byte b) both.0) (not_from_false _ e)) (clean_parts bytes both.1)

other_way : (a b : List ℕ) → bytes_eq a b ≡ false → bytes_eq b a ≡ false
other_way a b e =
    ⊎_elim (λ (t : bytes_eq b a ≡ true). absurd (false≢true (sym e ∙ (bytes_eq-Decides a b).1 (sym ((bytes_eq-Decides b a).0 t))))) (λ f. f) (cases_Bool (bytes_eq b a))

name_from : (part : List ℕ) → not (is_dropped part) ≡ true → list_all is_name_byte part ≡ true → bytes_eq dot_dot part ≡ false → nat_lt max_name (length part) ≡ false → is_name part ≡ true
name_from part kept clean dots long =
    let dropped = or_parts _ _ (not-true _ kept) in
    let short : length part ≤ max_name = ltb-false _ _ long in
    and_from _ _ (and_from _ _ (and_from _ _ (not_from_false _ dropped.0) (le-leb _ _ short)) clean)
    (not_from_false _ (neither _ _ dropped.1 (other_way dot_dot part dots)))

kept_cond : (t : Bool) (part : List ℕ) (kept : Components) → not (is_dropped part) ≡ t → list_all is_name_byte part ≡ true
    → (list_any (bytes_eq dot_dot) kept ≡ false → list_any (λ name. nat_lt max_name (length name)) kept ≡ false → list_all is_name kept ≡ true)
    → list_any (bytes_eq dot_dot) (cond t (part ∷ kept) kept) ≡ false → list_any (λ name. nat_lt max_name (length name)) (cond t (part ∷ kept) kept) ≡ false
    → list_all is_name (cond t (part ∷ kept) kept) ≡ true
kept_cond true part kept e clean rest dots long =
    let a = or_parts _ _ dots in
    let b = or_parts _ _ long in
    and_from _ _ (name_from part e clean a.0 b.0) (rest a.1 b.1)
kept_cond false part kept e clean rest dots long = rest dots long

kept_names : (parts : List (List ℕ)) → list_all (list_all is_name_byte) parts ≡ true
    → list_any (bytes_eq dot_dot) (filter (λ part. not (is_dropped part)) parts) ≡ false → list_any (λ name. nat_lt max_name (length name)) (filter (λ part. not (is_dropped part)) parts) ≡ false
    → list_all is_name (filter (λ part. not (is_dropped part)) parts) ≡ true
kept_names [] clean dots long = refl
kept_names (part ∷ parts) clean dots long =
    let both = and_parts _ _ clean in
    kept_cond (not (is_dropped part)) part (filter (λ part. not (is_dropped part)) parts) refl both.0 (kept_names parts both.1) dots long

-- what is too large in bytes and their parts
abbrev pub is_too_large : List ℕ → Bool
is_too_large bytes = nat_lt max_path (length bytes) || list_any (λ name. nat_lt max_name (length name)) (kept_parts bytes) || nat_lt max_components (length (kept_parts bytes))

-- what was found by one look at the parts
pub large_by_parts : (bytes : List ℕ) (long : Bool) (count : ℕ) → long ≡ list_any (λ name. nat_lt max_name (length name)) (kept_parts bytes) → count ≡ length (kept_parts bytes)
    → (nat_lt max_path (length bytes) || long || nat_lt max_components count) ≡ is_too_large bytes
large_by_parts bytes long count e f = λ i. nat_lt max_path (length bytes) || e i || nat_lt max_components (f i)

-- where no fault holds, the parts are names
pub kept_parts_named : (bytes : List ℕ) → list_any (bytes_eq dot_dot) (kept_parts bytes) ≡ false → list_any (λ b. not (is_path_byte b)) bytes ≡ false → is_too_large bytes ≡ false → list_all is_name (kept_parts bytes) ≡ true
kept_parts_named bytes dots bad large =
    let parts = or_parts _ _ large in
    kept_names (split 47 bytes) (clean_parts bytes bad) dots (or_parts _ _ parts.0).1

pub read_path-ok : (bytes : List ℕ) → list_any (bytes_eq dot_dot) (kept_parts bytes) ≡ false → list_any (λ b. not (is_path_byte b)) bytes ≡ false → is_too_large bytes ≡ false → read_path bytes ≡ Ok (kept_parts bytes)
unfolding read_path
read_path-ok bytes dots bad large =
    cond-false (list_any (bytes_eq dot_dot) (kept_parts bytes)) _ _ dots ∙ cond-false (list_any (λ b. not (is_path_byte b)) bytes) _ _ bad ∙ cond-false (is_too_large bytes) _ _ large

-- the text of a path that is read
pub IsText-read : (bytes text : List ℕ) → list_any (bytes_eq dot_dot) (kept_parts bytes) ≡ false → list_any (λ b. not (is_path_byte b)) bytes ≡ false → is_too_large bytes ≡ false → text ≡ kept_text (kept_parts bytes) → IsText text
IsText-read bytes text dots bad large is = subst IsText (sym is) (IsText-kept_text (kept_parts bytes) (kept_parts_named bytes dots bad large))

pub names-read : (bytes text : List ℕ) → list_any (bytes_eq dot_dot) (kept_parts bytes) ≡ false → list_any (λ b. not (is_path_byte b)) bytes ≡ false → is_too_large bytes ≡ false → text ≡ kept_text (kept_parts bytes) → read_path bytes ≡ Ok (names text)
names-read bytes text dots bad large is =
    read_path-ok bytes dots bad large ∙ ap Ok (sym (names-kept_text (kept_parts bytes) (kept_parts_named bytes dots bad large)) ∙ ap names (sym is))
