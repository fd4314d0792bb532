use Rattle.gufi_tree.proofs.PairedHeads.{guard_at, head_at}
use Rattle.gufi_tree.proofs.heads.PackedHeads.at.Goals as goal

pub returns-clause-value : goal.returns-clause-value
returns-clause-value c = λ head. head_at _ _ c.self.invariant _ c.self.view_is c.args.place _ _ c.requires c.index.ensures c.index-2.ensures head

pub returns-clause-guard : goal.returns-clause-guard
returns-clause-guard c = guard_at _ _ c.self.invariant _ c.self.view_is c.args.place _ _ c.requires c.index.ensures c.index-2.ensures
