-- What is known of a path that is read from bytes, and of the parts of bytes.
use Rattle.std.proofs.Common.{◌≡◌, ℕ, zero, suc, ◌+◌, ◌≤◌, Bool, true, false, not, ◌||◌, cond, eqb, List, [], ◌∷◌, length, refl, ◌∙◌, subst, arith, length-append}
use Rattle.std.specs.Prelude.{nat_lt, filter, bytes_eq, slice_index_or, Ok, Err, ◌==◌}
use Rattle.std.specs.List.{onto_first, list_all, list_any}
use Rattle.std.proofs.lemmas.Bool.{and_parts, and_from, or_parts, not_from_false, ltb-false}
use Rattle.gufi_base.specs.declared.path.PathFault.TheVariants.{DotDot, BadByte, LongName}
use Rattle.gufi_base.specs.Basics.{split, all_but_last}
use Rattle.gufi_base.specs.Limits.{max_path, max_name, max_components}
use Rattle.gufi_base.specs.Names.{dot_dot, is_path_byte, is_name}
use Rattle.gufi_base.specs.Paths.{Components, is_dropped, kept_parts, read_path, slashed_text}
use Rattle.gufi_base.specs.Rows.{are_bytes}
use Rattle.gufi_base.proofs.Names.{kept_parts_named, is_too_large}
use Rattle.gufi_base.proofs.Parts.{has_no}

-- ---- how many bytes parts have, each with a separator

abbrev pub size : List (List ℕ) → ℕ
size [] = 0
size (part ∷ parts) = 1 + length part + size parts

pub slashed_size : (path : Components) → length (slashed_text path) ≡ size path
slashed_size [] = refl
slashed_size (name ∷ path) = length-append (47 ∷ name) (slashed_text path) ∙ omega (arith, slashed_size path)

onto_size : (b : ℕ) (parts : List (List ℕ)) (n : ℕ) → size parts ≡ n + 1 → size (onto_first b parts) ≡ n + 1 + 1
onto_size b [] n e = absurd (omega arith)
onto_size b (part ∷ parts) n e = omega arith

pub split_size : (s : ℕ) (bytes : List ℕ) → size (split s bytes) ≡ length bytes + 1
split_size s [] = refl
split_size s (b ∷ bytes) = by (eqb b s) (split_size s bytes) where
  by : (t : Bool) → size (split s bytes) ≡ length bytes + 1 → size (cond t ([] ∷ split s bytes) (onto_first b (split s bytes))) ≡ length (b ∷ bytes) + 1
  by true e = omega arith
  by false e = onto_size b (split s bytes) (length bytes) e ∙ omega arith

pub filter_size : (p : List ℕ → Bool) (parts : List (List ℕ)) → size (filter p parts) ≤ size parts
filter_size p [] = omega arith
filter_size p (part ∷ parts) = by (p part) (filter_size p parts) where
  by : (t : Bool) → size (filter p parts) ≤ size parts → size (cond t (part ∷ filter p parts) (filter p parts)) ≤ 1 + length part + size parts
  by true h = omega arith
  by false h = omega arith

-- ---- what holds of all bytes, or of all parts

module _ (p : ℕ → Bool) where
  onto_all : (b : ℕ) (parts : List (List ℕ)) → p b ≡ true → list_all (list_all p) parts ≡ true → list_all (list_all p) (onto_first b parts) ≡ true
  onto_all b [] h each = and_from _ _ (and_from _ _ h refl) refl
  onto_all b (part ∷ parts) h each =
      let both = and_parts (list_all p part) (list_all (list_all p) parts) each in
      and_from _ _ (and_from _ _ h both.0) both.1

  pub split_all : (s : ℕ) (bytes : List ℕ) → list_all p bytes ≡ true → list_all (list_all p) (split s bytes) ≡ true
  split_all s [] h = refl
  split_all s (b ∷ bytes) h =
      let both = and_parts (p b) (list_all p bytes) h in
      by (eqb b s) both.0 (split_all s bytes both.1) where
        by : (t : Bool) → p b ≡ true → list_all (list_all p) (split s bytes) ≡ true → list_all (list_all p) (cond t ([] ∷ split s bytes) (onto_first b (split s bytes))) ≡ true
        by true own each = each
        by false own each = onto_all b (split s bytes) own each

-- no part holds the separator
pub split_apart : (s : ℕ) (bytes : List ℕ) → list_all (has_no s) (split s bytes) ≡ true
split_apart s [] = refl
split_apart s (b ∷ bytes) = by (eqb b s) refl (split_apart s bytes) where
  by : (t : Bool) → eqb b s ≡ t → list_all (has_no s) (split s bytes) ≡ true → list_all (has_no s) (cond t ([] ∷ split s bytes) (onto_first b (split s bytes))) ≡ true
  by true e each = each
  by false e each = onto_all (λ c. not (eqb c s)) b (split s bytes) (not_from_false _ e) each

module _ {X : Type 0} (q : X → Bool) where
  pub filter_all : (p : X → Bool) (xs : List X) → list_all q xs ≡ true → list_all q (filter p xs) ≡ true
  filter_all p [] h = refl
  filter_all p (x ∷ xs) h =
      let both = and_parts (q x) (list_all q xs) h in
      by (p x) both.0 (filter_all p xs both.1) where
        by : (t : Bool) → q x ≡ true → list_all q (filter p xs) ≡ true → list_all q (cond t (x ∷ filter p xs) (filter p xs)) ≡ true
        by true own each = and_from _ _ own each
        by false own each = each

  pub front_all : (xs : List X) → list_all q xs ≡ true → list_all q (all_but_last xs) ≡ true
  front_all [] h = refl
  front_all (x ∷ []) h = refl
  front_all (x ∷ y ∷ xs) h =
      let both = and_parts (q x) (list_all q (y ∷ xs)) h in
      and_from _ _ both.0 (front_all (y ∷ xs) both.1)

  pub at_all : (xs : List X) (k : ℕ) (d : X) → list_all q xs ≡ true → q d ≡ true → q (slice_index_or xs k d) ≡ true
  at_all [] k d h e = e
  at_all (x ∷ xs) zero d h e = (and_parts (q x) (list_all q xs) h).0
  at_all (x ∷ xs) (suc k) d h e = at_all xs k d (and_parts (q x) (list_all q xs) h).1 e

pub path_bytes : (bytes : List ℕ) → list_any (λ b. b == 0) bytes ≡ false → has_no 10 bytes ≡ true → list_all is_path_byte bytes ≡ true
path_bytes [] zeros whole = refl
path_bytes (b ∷ bytes) zeros whole =
    let z = or_parts (b == 0) (list_any (λ c. c == 0) bytes) zeros in
    let n = and_parts (not (b == 10)) (has_no 10 bytes) whole in
    and_from _ _ (and_from _ _ (not_from_false _ z.0) n.0) (path_bytes bytes z.1 n.1)

-- ---- a path that is read

pub record IsReadPath (bytes : List ℕ) (path : Components) : Type 0 where
  pub named : list_all is_name path ≡ true
  pub few : length path ≤ max_components
  pub close : size path ≤ max_path + 1
  pub fits : are_bytes bytes ≡ true → list_all are_bytes path ≡ true

faultless : (a b c : Bool) (names path : Components) → cond a (Err DotDot) (cond b (Err BadByte) (cond c (Err LongName) (Ok names))) ≡ Ok path
    → (a ≡ false) × (b ≡ false) × (c ≡ false) × (names ≡ path)
faultless true b c names path e = absurd cc
faultless false true c names path e = absurd cc
faultless false false true names path e = absurd cc
faultless false false false names path e = (refl, refl, refl, cc)

pub path_read : (bytes : List ℕ) (path : Components) → read_path bytes ≡ Ok path → IsReadPath bytes path
unfolding read_path
path_read bytes path e =
    let w = faultless (list_any (bytes_eq dot_dot) (kept_parts bytes)) (list_any (λ b. not (is_path_byte b)) bytes) (is_too_large bytes) (kept_parts bytes) path e in
    let large = or_parts (nat_lt max_path (length bytes) || list_any (λ name. nat_lt max_name (length name)) (kept_parts bytes)) (nat_lt max_components (length (kept_parts bytes))) w.2 in
    let long = or_parts (nat_lt max_path (length bytes)) (list_any (λ name. nat_lt max_name (length name)) (kept_parts bytes)) large.0 in
    let short : length bytes ≤ max_path = ltb-false _ _ long.0 in
    let whole = split_size 47 bytes in
    let kept : size (kept_parts bytes) ≤ size (split 47 bytes) = filter_size (λ part. not (is_dropped part)) (split 47 bytes) in
    subst (IsReadPath bytes) w.3 (record {
      named = kept_parts_named bytes w.0 w.1 w.2;
      few = ltb-false _ _ large.1;
      close = omega arith;
      fits = λ h. filter_all are_bytes (λ part. not (is_dropped part)) (split 47 bytes) (split_all (λ b. nat_lt b 256) 47 bytes h);
    })
