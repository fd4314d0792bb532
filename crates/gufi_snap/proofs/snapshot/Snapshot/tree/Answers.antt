use Rattle.std.proofs.Common.{◌<◌, ◌^◌, ◌∙◌, length, ap, subst}
use Rattle.std.specs.List.{flat_map}
use Rattle.gufi_tree.specs.Tree.{own_rows}
use Rattle.gufi_snap.specs.Snap.{Snap}
use Rattle.gufi_snap.proofs.Pieces.{few_rows}
use Rattle.gufi_snap.proofs.snapshot.Snapshot.tree.Goals as goal

pub returns-clause-few : goal.returns-clause-few
returns-clause-few c =
    few_rows c.args.self.now.tree (subst (λ t. length (flat_map own_rows t) < 2 ^ 32) (c.deref.ensures ∙ ap (λ (s : Snap). s.tree) c.self.view_is) c.tree.ensures.few)
