use Rattle.std.proofs.Common.{◌≡◌, ◌+◌, length, take, get_or}
use Rattle.std.specs.List.{list_all, flat_map}
use Rattle.gufi_tree.specs.Tree.{Directory}
use Rattle.gufi_tree.specs.Places.{path_at}
use Rattle.gufi_tree.specs.declared.tree.DirId.{DirId}
use Rattle.gufi_tree.proofs.Kids.{rows_under}
use Rattle.gufi_roll.proofs.Laws.{kid_covered}
use Rattle.gufi_roll.proofs.below.below_of.Given as goal

abbrev pub invariant-loop-child : goal.invariant-loop-child
invariant-loop-child l = record {
  rows : (d : Directory) → l.rows ≡ length (get_or l.tree l.fn.id.0 d).entries + 1 + length (flat_map (λ (v : DirId). rows_under l.tree (path_at l.tree v.0)) (take l.child-index l.children));
  covered : (d : Directory) → l.covered ≡ list_all (kid_covered l.tree l.fn.id.0 d) (take l.child-index l.children);
}
