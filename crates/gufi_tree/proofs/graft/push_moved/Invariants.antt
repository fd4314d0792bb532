use Rattle.std.proofs.Common.{◌≡◌, ◌++◌, map, take}
use Rattle.gufi_tree.specs.Graft.{moved}
use Rattle.gufi_tree.proofs.graft.push_moved.Given as goal

abbrev pub invariant-loop-parent : goal.invariant-loop-parent
invariant-loop-parent l = l.parents.items ≡ l.fn.parents.items ++ map (moved l.from l.to) (take l.parent-index l.some)
