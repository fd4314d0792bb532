-- What a snapshot knows of the rows of a directory, and of those at and below it.
use Rattle.std.proofs.Common.{◌≡◌, ℕ, ◌<◌, ◌≤◌, ◌^◌, Bool, true, false, cond, List, ◌++◌, map, length, get_or, arith}
use Rattle.std.specs.Prelude.{Result, Ok, Err, OnOk}
use Rattle.std.specs.List.{filter, flat_map}
use Rattle.std.specs.List.Sorted.{IsPermutation}
use Rattle.std.proofs.lemmas.List.Sorted.{IsPermutation-append_right, IsPermutation-map, IsPermutation-sym, length_permutation}
use Rattle.gufi_base.specs.declared.record.Row.{Row}
use Rattle.gufi_base.specs.Paths.{Components, path_eq, is_prefix}
use Rattle.gufi_base.specs.Rows.{row_cmp, home}
use Rattle.gufi_base.proofs.Permutations.{IsPermutation-filter}
use Rattle.gufi_base.proofs.Sorting.{IsPermutation-sort_by}
use Rattle.gufi_tree.specs.Tree.{Directory, own_rows, all_rows, home_rows, subtree_rows, HasTreeShape}
use Rattle.gufi_tree.specs.Places.{path_at}
use Rattle.gufi_tree.proofs.Kids.{rows_under, subtree_rows-under, home_rows-own}
use Rattle.gufi_store.proofs.Entries.{length-filter_le}
use Rattle.gufi_roll.specs.CanRoll.{can_roll}
use Rattle.gufi_sums.specs.declared.summary.Summary.{Summary}
use Rattle.gufi_sums.specs.Total.{IsTotal}
use Rattle.gufi_sums.specs.Laws.{IsTotal-reordered}
use Rattle.gufi_snap.specs.Pieces.{piece}

pub on_ok : {T E : Type 0} (r : Result T E) (P Q : Type 0) → (P → Q) → OnOk r P → OnOk r Q
on_ok (Ok x) P Q f h = f h
on_ok (Err e) P Q f h = tt

-- all rows in path order are as many
pub all_rows-as_many : (tree : List Directory) → length (all_rows tree) ≡ length (flat_map own_rows tree)
all_rows-as_many tree = omega (arith, length_permutation _ _ (IsPermutation-sort_by row_cmp (flat_map own_rows tree)))

pub few_rows : (tree : List Directory) → length (flat_map own_rows tree) < 2 ^ 32 → length (all_rows tree) < 2 ^ 40
few_rows tree few = omega (arith, all_rows-as_many tree)

-- no piece has more rows than there are
pub piece-few : (tree : List Directory) (path : Components) (limit : ℕ) → length (piece tree path limit) ≤ length (all_rows tree)
piece-few tree path limit = by (can_roll tree limit path) where
  by : (b : Bool) → length (cond b (subtree_rows tree path) (home_rows tree path)) ≤ length (all_rows tree)
  by true = length-filter_le (λ row. is_prefix path (home row)) (all_rows tree)
  by false = length-filter_le (λ row. path_eq path (home row)) (all_rows tree)

module _ (tree : List Directory) (shape : HasTreeShape tree) (k : ℕ) (within : k < length tree) where
  -- a directory's rows are its own rows, up to their order
  pub own-length : (d : Directory) → length (home_rows tree (path_at tree k)) ≡ length (own_rows (get_or tree k d))
  own-length d = length_permutation _ _ (IsPermutation-sym _ _ (home_rows-own tree shape k d within))

  pub own-met : (d : Directory) (met : Row → Bool) (shows : Row → Row) (rows : List Row) → IsPermutation (rows ++ filter met (map shows (own_rows (get_or tree k d)))) (rows ++ filter met (map shows (home_rows tree (path_at tree k))))
  own-met d met shows rows = IsPermutation-append_right rows _ _ (IsPermutation-filter met _ _ (IsPermutation-map shows _ _ (IsPermutation-sym _ _ (home_rows-own tree shape k d within))))

module _ (tree : List Directory) (shape : HasTreeShape tree) (path : Components) where
  -- the rows at and below a path are those of the directories there, up to their order
  pub under-length : length (subtree_rows tree path) ≡ length (rows_under tree path)
  under-length = length_permutation _ _ (IsPermutation-sym _ _ (subtree_rows-under tree shape path))

  pub under-met : (met : Row → Bool) (shows : Row → Row) (rows : List Row) → IsPermutation (rows ++ filter met (map shows (rows_under tree path))) (rows ++ filter met (map shows (subtree_rows tree path)))
  under-met met shows rows = IsPermutation-append_right rows _ _ (IsPermutation-filter met _ _ (IsPermutation-map shows _ _ (IsPermutation-sym _ _ (subtree_rows-under tree shape path))))

-- a sum of a directory's own rows is one of its home's, and a sum of the rows of directories below a path one of its subtree's
pub home_total : (tree : List Directory) (k : ℕ) (d : Directory) (sum : Summary) → HasTreeShape tree → k < length tree → IsTotal sum (own_rows (get_or tree k d)) → IsTotal sum (home_rows tree (path_at tree k))
home_total tree k d sum shape within h = IsTotal-reordered sum _ _ (IsPermutation-sym _ _ (home_rows-own tree shape k d within)) h

pub subtree_total : (tree : List Directory) (path : Components) (sum : Summary) → HasTreeShape tree → IsTotal sum (rows_under tree path) → IsTotal sum (subtree_rows tree path)
subtree_total tree path sum shape h = IsTotal-reordered sum _ _ (IsPermutation-sym _ _ (subtree_rows-under tree shape path)) h
