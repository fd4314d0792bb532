-- The rows of a generated trace are written so that they can be read.
use Rattle.std.proofs.Common.{◌≡◌, ℕ, zero, suc, ◌+◌, ◌-◌, ◌*◌, ◌^◌, ◌<◌, ◌≤◌, inl, inr, true, false, not, ◌&&◌, eqb, ltb, List, [], ◌∷◌, ◌++◌, length, map, refl, sym, ap, ◌∙◌, subst, arith, length-append, pos, negsuc}
use Rattle.std.specs.Prelude.{◌%◌, ◌-ℤ◌, decimal, nat_le, slice_index}
use Rattle.std.specs.List.{AllByRecursion, list_all, list_any, flat_map, range_with_len}
use Rattle.std.proofs.lemmas.Bool.{and_parts, and_from, or_from, le-leb, lt-ltb, le-ltb, cond-false, not-true}
use Rattle.std.proofs.lemmas.List.Folds.{list_all-append}
use Rattle.gufi_base.specs.declared.record.Kind.{Kind}
use Rattle.gufi_base.specs.declared.record.Row.{Row}
use Rattle.gufi_base.specs.Limits.{max_dirs}
use Rattle.gufi_base.specs.Delimiters.{may_delimit}
use Rattle.gufi_base.specs.Names.{is_name}
use Rattle.gufi_base.specs.Rows.{are_bytes, fits_i64, fits_types}
use Rattle.gufi_base.specs.Paths.{Components}
use Rattle.gufi_base.proofs.Parts.{has_no}
use Rattle.gufi_tree.specs.Tree.{Directory, dir_row, entry_row, own_rows}
use Rattle.gufi_tree.proofs.Built.{Has, All-from_Has}
use Rattle.gufi_tree.proofs.RowHomes.{Has-flat_map}
use Rattle.gufi_line.specs.TraceRows.{holds_byte}
use Rattle.gufi_line.proofs.FieldsBack.{is_plain, plain_field}
use Rattle.gufi_line.proofs.LinesBack.{IsWritable}
use Rattle.gufi_trace.proofs.ListTexts.{no_list_holds}
use Rattle.gufi_line.proofs.MetaRead.{fits_below}
use Rattle.gufi_gen.specs.Generated.{directory_path, directory_mode, made_meta, made_file, made_dir, made_dirs, made_root}
use Rattle.gufi_gen.proofs.MadeNames.{is_made_name, entry_name, directory_named, path_depth, not_too_long}
use Rattle.gufi_gen.proofs.MadeTrees.{range_found}

Has-map : {X Y : Type 0} (f : X → Y) (xs : List X) (y : Y) → Has (map f xs) y → (x : X) × Has xs x × (f x ≡ y)
Has-map f [] y k = absurd k
Has-map f (x ∷ xs) y (inl e) = (x, inl refl, e)
Has-map f (x ∷ xs) y (inr k) = let w = Has-map f xs y k in (w.0, inr w.1, w.2)

-- ---- paths

made_names : (path : Components) → list_all is_made_name path ≡ true → list_all is_name path ≡ true
made_names [] h = refl
made_names (name ∷ path) h =
    let both = and_parts (is_made_name name) (list_all is_made_name path) h in
    let outer = and_parts (is_name name && nat_le (length name) 21 && are_bytes name) (list_all is_plain name) both.0 in
    let inner = and_parts (is_name name && nat_le (length name) 21) (are_bytes name) outer.0 in
    and_from _ _ (and_parts (is_name name) (nat_le (length name) 21) inner.0).0 (made_names path both.1)

made_bytes : (path : Components) → list_all is_made_name path ≡ true → list_all are_bytes path ≡ true
made_bytes [] h = refl
made_bytes (name ∷ path) h =
    let both = and_parts (is_made_name name) (list_all is_made_name path) h in
    let outer = and_parts (is_name name && nat_le (length name) 21 && are_bytes name) (list_all is_plain name) both.0 in
    and_from _ _ (and_parts (is_name name && nat_le (length name) 21) (are_bytes name) outer.0).1 (made_bytes path both.1)

has_none : (delim : ℕ) (name : List ℕ) → has_no delim name ≡ true → holds_byte delim name ≡ false
has_none delim [] h = refl
has_none delim (b ∷ name) h =
    let both = and_parts (not (eqb b delim)) (has_no delim name) h in
    or_from _ _ (not-true _ both.0) (has_none delim name both.1)

made_apart : (delim : ℕ) → may_delimit delim ≡ true → (path : Components) → list_all is_made_name path ≡ true → list_any (holds_byte delim) path ≡ false
made_apart delim may [] h = refl
made_apart delim may (name ∷ path) h =
    let both = and_parts (is_made_name name) (list_all is_made_name path) h in
    let plain = (and_parts (is_name name && nat_le (length name) 21 && are_bytes name) (list_all is_plain name) both.0).1 in
    or_from _ _ (has_none delim name (plain_field delim may name plain).apart) (made_apart delim may path both.1)

-- ---- records

time_fits : (i : ℕ) → i ≤ max_dirs → fits_i64 (pos 1700000000 -ℤ pos i) ≡ true
time_fits zero h = fits_below 1700000000 (omega arith)
time_fits (suc i) h =
    ap fits_i64 (cond-false (ltb 1700000000 (suc i)) (negsuc (suc i - suc 1700000000)) (pos (1700000000 - suc i)) (le-ltb 1700000000 (suc i) (omega arith)))
    ∙ fits_below (1700000000 - suc i) (omega arith)

meta_fits : (kind : Kind) (i inode mode size : ℕ) → inode < 2 ^ 64 → mode ≤ 4095 → size < 2 ^ 64 → i ≤ max_dirs → fits_types (record { meta = made_meta kind i inode mode size; link = []; xattrs = []; acl = [] }) ≡ true
meta_fits kind i inode mode size a b c few =
    let time = time_fits i few in
    and_from _ _ (and_from _ _ (and_from _ _ (and_from _ _ (and_from _ _ (and_from _ _ (and_from _ _ (and_from _ _ (and_from _ _ (and_from _ _ (and_from _ _ (and_from _ _ (and_from _ _
    (lt-ltb inode (2 ^ 64) a) (lt-ltb mode (2 ^ 16) (omega arith))) refl) (lt-ltb (1000 + i % 7) (2 ^ 32) (omega arith))) (lt-ltb (100 + i % 3) (2 ^ 32) (omega arith)))
    (lt-ltb size (2 ^ 64) c)) refl) refl) time) time) time) refl) refl) refl

mode_small : (k : ℕ) → k < 8 → slice_index (493 ∷ 493 ∷ 488 ∷ 448 ∷ 457 ∷ 493 ∷ 504 ∷ 493 ∷ []) k ≤ 4095
mode_small zero h = omega arith
mode_small (suc zero) h = omega arith
mode_small (suc (suc zero)) h = omega arith
mode_small (suc (suc (suc zero))) h = omega arith
mode_small (suc (suc (suc (suc zero)))) h = omega arith
mode_small (suc (suc (suc (suc (suc zero))))) h = omega arith
mode_small (suc (suc (suc (suc (suc (suc zero)))))) h = omega arith
mode_small (suc (suc (suc (suc (suc (suc (suc zero))))))) h = omega arith
mode_small (suc (suc (suc (suc (suc (suc (suc (suc k)))))))) h = absurd (omega arith)

-- ---- rows

module _ (delim : ℕ) (may : may_delimit delim ≡ true) where
  row_writable : (path : Components) (kind : Kind) (i inode mode size : ℕ) → list_all is_made_name path ≡ true → length path ≤ 7 → inode < 2 ^ 64 → mode ≤ 4095 → size < 2 ^ 64 → i ≤ max_dirs
      → IsWritable made_root delim (record { path = path; rec = record { meta = made_meta kind i inode mode size; link = []; xattrs = []; acl = [] } })
  row_writable path kind i inode mode size named short a b c few = record {
    named = and_from _ _ refl (made_names path named);
    apart = or_from _ _ (has_none delim (103 ∷ []) (plain_field delim may (103 ∷ []) refl).apart) (made_apart delim may path named);
    short = not_too_long path named short;
    rec_apart = no_list_holds delim;
    sound = and_from _ _ (and_from _ _ (and_from _ _ (and_from _ _ (le-leb mode 4095 b) refl) refl) refl) refl;
    fits = meta_fits kind i inode mode size a b c few;
  }

  module _ (i : ℕ) (lt : i < max_dirs) where
    depth : length (directory_path i) ≤ 6
    depth = path_depth 6 i i (omega arith)

    named : list_all is_made_name (directory_path i) ≡ true
    named = directory_named i (omega arith)

    dir_writable : IsWritable made_root delim (dir_row (made_dir i))
    dir_writable =
        let few = depth in
        let mode = mode_small (i % 8) (omega arith) in
        row_writable (directory_path i) _ i (i + 1) (directory_mode i) 4096 named (omega arith) (omega arith) mode (omega arith) (omega arith)

    entry_writable : (j : ℕ) → j < 5 → IsWritable made_root delim (entry_row (directory_path i) (made_file i j))
    entry_writable j few =
        let shallow = depth in
        let whole = length-append (directory_path i) ((102 ∷ decimal j) ∷ []) in
        row_writable (directory_path i ++ (102 ∷ decimal j) ∷ []) _ i (1000000 + 5 * i + j) 420 ((37 * i + 1001 * j) % 5000)
        (list_all-append is_made_name (directory_path i) ((102 ∷ decimal j) ∷ []) ∙ and_from _ _ named (and_from _ _ (entry_name j (omega arith)) refl))
        (omega arith) (omega arith) (omega arith) (omega arith) (omega arith)

    own_writable : (row : Row) → Has (own_rows (made_dir i)) row → IsWritable made_root delim row
    own_writable row (inl e) = subst (IsWritable made_root delim) e dir_writable
    own_writable row (inr k) =
        let w = Has-map (entry_row (directory_path i)) (map (made_file i) (range_with_len 0 (i % 5))) row k in
        let v = range_found (made_file i) 0 (i % 5) w.0 w.1 in
        let high = v.2 in
        subst (IsWritable made_root delim) (ap (entry_row (directory_path i)) v.3 ∙ w.2) (entry_writable v.0 (omega arith))

  pub rows_writable : (n : ℕ) → n ≤ max_dirs → AllByRecursion (IsWritable made_root delim) (flat_map own_rows (made_dirs n))
  rows_writable n few = All-from_Has (IsWritable made_root delim) (flat_map own_rows (made_dirs n)) (λ row k.
      let w = Has-flat_map own_rows (made_dirs n) row k in
      let v = range_found made_dir 0 n w.0 w.1 in
      let high = v.2 in
      own_writable v.0 (omega arith) row (subst (λ (d : Directory). Has (own_rows d) row) (sym v.3) w.2))
