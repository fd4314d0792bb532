use Rattle.std.proofs.Common.{◌≡◌, take}
use Rattle.gufi_tree.specs.Tree.{entry_count}
use Rattle.gufi_info.proofs.census.entry_count.Given as goal

abbrev pub invariant-loop-number : goal.invariant-loop-number
invariant-loop-number l = l.count ≡ entry_count (take l.number l.tree)
