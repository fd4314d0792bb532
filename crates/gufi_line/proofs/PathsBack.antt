-- Printed paths are read again, and are fields.
use Rattle.std.proofs.Common.{◌≡◌, ℕ, ◌≤◌, true, false, not, ◌&&◌, ◌||◌, eqb, leb, ltb, List, [], ◌∷◌, ◌++◌, length, refl, sym, ap, ◌∙◌}
use Rattle.std.specs.Prelude.{filter, Ok, bytes_eq}
use Rattle.std.specs.List.{list_all, list_any}
use Rattle.std.proofs.lemmas.Bool.{and_parts, and_from, or_parts, or_from, not-true, not_from_false, not_from_true, cond-true, leb-true, le-ltb, false_from_ne_true, both_ways}
use Rattle.std.proofs.lemmas.List.{append-nil}
use Rattle.std.proofs.lemmas.List.Folds.{list_all-append}
use Rattle.std.proofs.lemmas.Slice.Eq.{bytes_eq-Decides}
use Rattle.gufi_base.specs.Basics.{split, is_empty}
use Rattle.gufi_base.specs.Limits.{max_name, max_path, max_components}
use Rattle.gufi_base.specs.Names.{dot, dot_dot, is_path_byte, is_name_byte, is_name}
use Rattle.gufi_base.specs.Paths.{Components, is_dropped, kept_parts, read_path, slashed_text, path_text, is_too_long}
use Rattle.gufi_base.specs.Delimiters.{may_delimit}
use Rattle.gufi_base.proofs.Parts.{has_no}
use Rattle.gufi_base.proofs.Cuts.{split_behind}
use Rattle.gufi_base.proofs.Names.{name_bytes, name_has_no, read_path-ok, is_too_large}
use Rattle.gufi_line.specs.TraceRows.{holds_byte}
use Rattle.gufi_line.proofs.FieldsBack.{IsField, plain_field, field_append}

-- what a name is
pub record NameParts (name : List ℕ) : Type 0 where
  pub some : is_empty name ≡ false
  pub short : length name ≤ max_name
  pub no_dot : bytes_eq name dot ≡ false
  pub no_dots : bytes_eq name dot_dot ≡ false

pub name_parts : (name : List ℕ) → is_name name ≡ true → NameParts name
name_parts name h =
    let outer = and_parts (not (is_empty name) && leb (length name) max_name && list_all is_name_byte name) (not (bytes_eq name dot || bytes_eq name dot_dot)) h in
    let middle = and_parts (not (is_empty name) && leb (length name) max_name) (list_all is_name_byte name) outer.0 in
    let inner = and_parts (not (is_empty name)) (leb (length name) max_name) middle.0 in
    let dots = or_parts (bytes_eq name dot) (bytes_eq name dot_dot) (not-true _ outer.1) in
    record { some = not-true _ inner.0; short = leb-true _ _ inner.1; no_dot = dots.0; no_dots = dots.1 }

-- the parts between the slashes
split_slashed : (path : Components) → list_all is_name path ≡ true → split 47 (slashed_text path) ≡ [] ∷ path
split_slashed [] h = refl
split_slashed (name ∷ path) h =
    let both = and_parts (is_name name) (list_all is_name path) h in
    ap (λ (ps : List (List ℕ)). [] ∷ ps)
    (split_behind 47 name (slashed_text path) [] path (name_has_no name both.0) (split_slashed path both.1) ∙ ap (λ (n : List ℕ). n ∷ path) (append-nil name))

keep_names : (path : Components) → list_all is_name path ≡ true → filter (λ part. not (is_dropped part)) path ≡ path
keep_names [] h = refl
keep_names (name ∷ path) h =
    let both = and_parts (is_name name) (list_all is_name path) h in
    let parts = name_parts name both.0 in
    cond-true (not (is_dropped name)) _ _ (not_from_false _ (or_from _ _ parts.some parts.no_dot)) ∙ ap (λ (ps : Components). name ∷ ps) (keep_names path both.1)

kept_parts-path_text : (path : Components) → list_all is_name path ≡ true → kept_parts (path_text path) ≡ path
kept_parts-path_text [] h = refl
kept_parts-path_text (name ∷ path) h = ap (filter (λ part. not (is_dropped part))) (split_slashed (name ∷ path) h) ∙ keep_names (name ∷ path) h

no_dot_dot : (path : Components) → list_all is_name path ≡ true → list_any (bytes_eq dot_dot) path ≡ false
no_dot_dot [] h = refl
no_dot_dot (name ∷ path) h =
    let both = and_parts (is_name name) (list_all is_name path) h in
    or_from (bytes_eq dot_dot name) (list_any (bytes_eq dot_dot) path)
    (false_from_ne_true _ (λ e.
    let same : dot_dot ≡ name = (bytes_eq-Decides dot_dot name).0 e in
    both_ways (bytes_eq name dot_dot) (name_parts name both.0).no_dots (ap (λ (n : List ℕ). bytes_eq n dot_dot) (sym same))))
    (no_dot_dot path both.1)

no_long_name : (path : Components) → list_all is_name path ≡ true → list_any (λ name. ltb max_name (length name)) path ≡ false
no_long_name [] h = refl
no_long_name (name ∷ path) h =
    let both = and_parts (is_name name) (list_all is_name path) h in
    or_from _ _ (le-ltb max_name (length name) (name_parts name both.0).short) (no_long_name path both.1)

path_bytes : (name : List ℕ) → list_all is_name_byte name ≡ true → list_all is_path_byte name ≡ true
path_bytes [] h = refl
path_bytes (b ∷ name) h =
    let both = and_parts (is_name_byte b) (list_all is_name_byte name) h in
    and_from _ _ (and_parts (is_path_byte b) (not (eqb b 47)) both.0).0 (path_bytes name both.1)

slashed_bytes : (path : Components) → list_all is_name path ≡ true → list_all is_path_byte (slashed_text path) ≡ true
slashed_bytes [] h = refl
slashed_bytes (name ∷ path) h =
    let both = and_parts (is_name name) (list_all is_name path) h in
    list_all-append is_path_byte name (slashed_text path) ∙ and_from _ _ (path_bytes name (name_bytes name both.0)) (slashed_bytes path both.1)

none_bad : (bytes : List ℕ) → list_all is_path_byte bytes ≡ true → list_any (λ b. not (is_path_byte b)) bytes ≡ false
none_bad [] h = refl
none_bad (b ∷ bytes) h =
    let both = and_parts (is_path_byte b) (list_all is_path_byte bytes) h in
    or_from _ _ (not_from_true _ both.0) (none_bad bytes both.1)

text_bytes : (path : Components) → list_all is_name path ≡ true → list_all is_path_byte (path_text path) ≡ true
text_bytes [] h = refl
text_bytes (name ∷ path) h = slashed_bytes (name ∷ path) h

pub read_path-path_text : (path : Components) → list_all is_name path ≡ true → is_too_long path ≡ false → read_path (path_text path) ≡ Ok path
read_path-path_text path named short =
    let kept = kept_parts-path_text path named in
    let bounds = or_parts (ltb max_components (length path)) (ltb max_path (length (path_text path))) short in
    let large : is_too_large (path_text path) ≡ false = or_from _ _ (or_from _ _ bounds.1 (ap (list_any (λ name. ltb max_name (length name))) kept ∙ no_long_name path named)) (ap (λ (p : Components). ltb max_components (length p)) kept ∙ bounds.0) in
    read_path-ok (path_text path) (ap (list_any (bytes_eq dot_dot)) kept ∙ no_dot_dot path named) (none_bad (path_text path) (text_bytes path named)) large ∙ ap (λ (p : Components). Ok p) kept

-- a path as a field
pub absent : (delim : ℕ) (bytes : List ℕ) → holds_byte delim bytes ≡ false → has_no delim bytes ≡ true
absent delim [] h = refl
absent delim (b ∷ bytes) h =
    let both = or_parts (eqb b delim) (holds_byte delim bytes) h in
    and_from _ _ (not_from_false _ both.0) (absent delim bytes both.1)

pub no_zero : (bytes : List ℕ) → list_all is_path_byte bytes ≡ true → list_any (λ b. eqb b 0) bytes ≡ false
no_zero [] h = refl
no_zero (b ∷ bytes) h =
    let both = and_parts (is_path_byte b) (list_all is_path_byte bytes) h in
    or_from _ _ (not-true _ (and_parts (not (eqb b 0)) (not (eqb b 10)) both.0).0) (no_zero bytes both.1)

pub no_newline : (bytes : List ℕ) → list_all is_path_byte bytes ≡ true → has_no 10 bytes ≡ true
no_newline [] h = refl
no_newline (b ∷ bytes) h =
    let both = and_parts (is_path_byte b) (list_all is_path_byte bytes) h in
    and_from _ _ (and_parts (not (eqb b 0)) (not (eqb b 10)) both.0).1 (no_newline bytes both.1)

slashed_field : (delim : ℕ) → may_delimit delim ≡ true → (path : Components) → list_all is_name path ≡ true → list_any (holds_byte delim) path ≡ false → IsField delim (slashed_text path)
slashed_field delim may [] h k = record { apart = refl; line = refl }
slashed_field delim may (name ∷ path) h k =
    let both = and_parts (is_name name) (list_all is_name path) h in
    let none = or_parts (holds_byte delim name) (list_any (holds_byte delim) path) k in
    let own : IsField delim name = record { apart = absent delim name none.0; line = no_newline name (path_bytes name (name_bytes name both.0)) } in
    field_append delim (47 ∷ []) (name ++ slashed_text path) (plain_field delim may (47 ∷ []) refl) (field_append delim name (slashed_text path) own (slashed_field delim may path both.1 none.1))

pub path_field : (delim : ℕ) → may_delimit delim ≡ true → (path : Components) → list_all is_name path ≡ true → list_any (holds_byte delim) path ≡ false → IsField delim (path_text path)
path_field delim may [] h k = plain_field delim may (47 ∷ []) refl
path_field delim may (name ∷ path) h k = slashed_field delim may (name ∷ path) h k
