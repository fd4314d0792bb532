use Rattle.std.proofs.Common.{ℕ, List, Vec, subst}
use Rattle.std.specs.Option.{IfSome}
use Rattle.std.specs.Global.{Global}
use Rattle.std.specs.List.Sorted.{IsPermutation}
use Rattle.gufi_tree.specs.Tree.{Directory}
use Rattle.gufi_tree.specs.Shape.{IsTreeWith}
use Rattle.gufi_tree.proofs.lines.order_closed.Goals as goal

pub returns-in-Some : goal.returns-in-Some
returns-in-Some c = record {
  moved = subst (λ (ds : List Directory). IsPermutation ds c.order_tree.new.dirs) c.in_ok-dirs.ensures c.order_tree.ensures.permutation;
  tree = subst (λ o. IfSome o (λ (parents : Vec ℕ Global). IsTreeWith c.order_tree.new.dirs parents.items)) c.in-Some.is c.in_ok-order_tree.ensures.tree;
}
