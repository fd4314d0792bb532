use Rattle.std.proofs.Common.{◌≡◌, true, take}
use Rattle.std.specs.List.{list_all}
use Rattle.gufi_tree.specs.Tree.{Directory}
use Rattle.gufi_roll.specs.Below.{is_child_flagged}
use Rattle.gufi_roll.proofs.known.are_children_flagged.Given as goal

abbrev pub invariant-loop-child : goal.invariant-loop-child
invariant-loop-child l = (d : Directory) → list_all (is_child_flagged l.tree l.flags l.fn.id.0 d) (take l.child-index l.child-items) ≡ true
