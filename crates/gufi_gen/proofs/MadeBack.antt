-- A generated trace is read, and the root of its tree may be listed.
use Rattle.std.proofs.Common.{◌≡◌, ℕ, zero, suc, ◌+◌, ◌*◌, ◌≤◌, inl, inr, Bool, true, false, ◌||◌, cond, List, [], ◌∷◌, ◌++◌, length, map, reverse, refl, sym, ap, ◌∙◌, subst, arith}
use Rattle.std.specs.Prelude.{◌%◌, ◌==◌, find, Ok, Some}
use Rattle.std.specs.List.{flat_map, range_with_len}
use Rattle.std.specs.List.Sorted.{IsPermutation}
use Rattle.std.proofs.lemmas.Bool.{or_right, false≢true}
use Rattle.std.proofs.lemmas.List.{length-map}
use Rattle.std.proofs.lemmas.List.Sums.{sum_by-cons}
use Rattle.gufi_base.specs.declared.record.Line.{Line}
use Rattle.gufi_base.specs.declared.record.Row.{Row}
use Rattle.gufi_base.specs.Delimiters.{may_delimit}
use Rattle.gufi_base.specs.Limits.{max_dirs}
use Rattle.gufi_base.specs.Paths.{path_eq}
use Rattle.gufi_base.specs.Basics.{result_map_err, ascends}
use Rattle.gufi_base.proofs.Permutations.{IsPermutation-flat_map}
use Rattle.gufi_access.specs.declared.class.Principal.{Principal}
use Rattle.gufi_access.specs.declared.class.Class.{Class}
use Rattle.gufi_access.specs.declared.class.Class.TheVariants.{Owner, Group, Other}
use Rattle.gufi_access.specs.Access.{class_for, class_bits, has_bits, is_granted, can_list}
use Rattle.gufi_tree.specs.Build.{tree_of}
use Rattle.gufi_tree.specs.Gathered.{row_of_line}
use Rattle.gufi_tree.specs.Resolve.{start_at, resolve, is_found}
use Rattle.gufi_tree.specs.Tree.{Directory, dir_row, entry_row, own_rows, entry_cmp, rights_of, is_at, has_dir, entry_count, may_list}
use Rattle.gufi_tree.proofs.Built.{Has, path_eq-Decides, directories_are}
use Rattle.gufi_tree.proofs.Faultless.{none_from_faultless}
use Rattle.gufi_tree.proofs.Shaped.{faultless_from_shape}
use Rattle.gufi_line.specs.LineText.{root_of}
use Rattle.gufi_trace.specs.TraceText.{trace_means, of_tree}
use Rattle.gufi_trace.proofs.RowsBack.{texts_of, taken, lines_back, rows-taken, tree_placed}
use Rattle.gufi_trace.proofs.TraceBack.{root_back, text_lines_back}
use Rattle.gufi_trace.proofs.TreeBack.{All_weaken}
use Rattle.gufi_gen.specs.Generated.{made_file, made_dir, made_dirs, made_root, gen_text}
use Rattle.gufi_gen.specs.MadeTree.{made_tree}
use Rattle.gufi_gen.specs.Laws.{GeneratedTracesAreRead, GeneratedRootsAreListed}
use Rattle.gufi_gen.proofs.MadeNames.{same_directory}
use Rattle.gufi_gen.proofs.MadeRows.{rows_writable}
use Rattle.gufi_gen.proofs.MadeTrees.{dirs_kinded, tree_moved, numbered, made_shape}

-- ---- how many there are

range_length : (a n : ℕ) → length (range_with_len a n) ≡ n
range_length a zero = refl
range_length a (suc n) = let rest = range_length (a + 1) n in omega arith

few_entries : (a n : ℕ) → entry_count (map made_dir (range_with_len a n)) ≤ 4 * n
few_entries a zero = omega arith
few_entries a (suc n) =
    let rest = few_entries (a + 1) n in
    let own = length-map (range_with_len 0 (a % 5)) (made_file a) in
    let few = range_length 0 (a % 5) in
    let count : entry_count (map made_dir (range_with_len a (suc n))) ≡ length (made_dir a).entries + entry_count (map made_dir (range_with_len (a + 1) n)) = sum_by-cons (λ (d : Directory). length d.entries) (made_dir a) (map made_dir (range_with_len (a + 1) n)) in
    omega arith

-- ---- the tree

module _ (n : ℕ) (some : 1 ≤ n) (few : n ≤ max_dirs) where
  made_lines : (lines : List Line) → map row_of_line lines ≡ flat_map own_rows (made_dirs n) → tree_of lines ≡ Ok (made_tree n)
  unfolding tree_of
  made_lines lines is =
      let tree = made_tree n in
      let shape = made_shape n some few in
      let rows : IsPermutation (map row_of_line lines) (flat_map own_rows (made_tree n)) =
      subst (λ (rs : List Row). IsPermutation rs (flat_map own_rows (made_tree n))) (sym is) (IsPermutation-flat_map own_rows (made_dirs n) (made_tree n) (tree_moved n)) in
      let sorted = All_weaken (λ (d : Directory). ascends entry_cmp d.entries) (λ (d : Directory). ascends entry_cmp d.entries ≡ true) (λ d h. h) (made_tree n) shape.entries in
      rw (none_from_faultless lines (faultless_from_shape (made_tree n) shape lines rows)) (ap (λ (ds : List Directory). Ok ds) (directories_are lines (made_tree n) rows shape.kinds shape.order sorted))

made_root_back : (n delim : ℕ) → 1 ≤ n → n ≤ max_dirs → may_delimit delim ≡ true → root_of delim (texts_of made_root delim (flat_map own_rows (made_dirs n))) ≡ made_root
made_root_back zero delim some few may = absurd (omega arith)
made_root_back (suc n) delim some few may =
    let rest = map made_dir (range_with_len 1 n) in
    root_back made_root delim (dir_row (made_dir 0)) (map (entry_row []) (made_dir 0).entries ++ flat_map own_rows rest) may refl (rows_writable delim may (suc n) few).0

pub generated_read : GeneratedTracesAreRead
unfolding trace_means gen_text
generated_read n delim some few may =
    let rows = flat_map own_rows (made_dirs n) in
    let h = rows_writable delim may n few in
    let count = length-map (range_with_len 0 n) made_dir in
    let numbers = range_length 0 n in
    let entries = few_entries 0 n in
    let placed = tree_placed (made_dirs n) [] (dirs_kinded n) (omega arith) (omega arith) in
    let lines = reverse (taken [] rows) in
    let read = text_lines_back (made_dirs n) made_root delim lines may h (made_root_back n delim some few may) (lines_back made_root delim may rows [] h placed) in
    rw read (ap (result_map_err of_tree) (made_lines n some few lines (rows-taken rows [])))

-- ---- the root

all_bits : (c : Class) → has_bits (class_bits c 493) 5 ≡ true
all_bits Owner = refl
all_bits Group = refl
all_bits Other = refl

root_listed : (who : Principal) → may_list who (made_dir 0) ≡ true
unfolding can_list is_granted
root_listed who = or_right (who.uid == 0) (has_bits (class_bits (class_for who (rights_of (made_dir 0).rec)) 493) 5) (all_bits (class_for who (rights_of (made_dir 0).rec)))

start_found : (all : List Directory) (who : Principal) (tree : List Directory) → has_dir tree [] ≡ true → ((d : Directory) → Has tree d → [] ≡ d.path → may_list who d ≡ true) → is_found (start_at all who [] (find (is_at []) tree)) ≡ true
start_found all who [] h f = absurd (false≢true h)
start_found all who (d ∷ ds) h f = by (path_eq [] d.path) refl h (λ rest. start_found all who ds rest (λ e k. f e (inr k))) where
  by : (b : Bool) → path_eq [] d.path ≡ b → (b || has_dir ds []) ≡ true → (has_dir ds [] ≡ true → is_found (start_at all who [] (find (is_at []) ds)) ≡ true)
      → is_found (start_at all who [] (cond b (Some d) (find (is_at []) ds))) ≡ true
  by true e any rest = rw (f d (inl refl) ((path_eq-Decides [] d.path).0 e)) refl
  by false e any rest = rest any

pub roots_listed : GeneratedRootsAreListed
unfolding resolve
roots_listed n who some few = start_found (made_tree n) who (made_tree n) (made_shape n some few).root (λ d k at.
    let w = numbered n some few d k in
    let lt = w.1 in
    let first : 0 ≡ w.0 = same_directory 0 w.0 (omega arith) (omega arith) (at ∙ ap (λ (v : Directory). v.path) (sym w.2)) in
    subst (λ (v : Directory). may_list who v ≡ true) (ap made_dir first ∙ w.2) (root_listed who))
