use Rattle.std.proofs.Common.{◌≡◌, ℕ, ◌<◌, length, get_or, is_lt}
use Rattle.std.specs.List.Sorted.{IsSortedBy}
use Rattle.gufi_tree.specs.declared.tree.Stored.{Stored}
use Rattle.gufi_tree.specs.Tree.{entry_cmp}
use Rattle.gufi_tree.proofs.Rearranged.{AreRearranged}
use Rattle.gufi_tree.proofs.sort.sort_entries.Given as goal

abbrev pub invariant-loop-dir : goal.invariant-loop-dir
invariant-loop-dir l = record {
  len : length l.dir-items ≡ length l.fn.stored.items;
  rearranged : AreRearranged l.fn.stored.items l.dir-items;
  sorted : (k : ℕ) (d : Stored) → k < l.dir-index → IsSortedBy (λ x y. is_lt (entry_cmp x y)) (get_or l.dir-items k d).entries.items;
}
