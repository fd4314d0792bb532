use Rattle.std.proofs.Common.{[], ◌∷◌, ap}
use Rattle.gufi_prune.proofs.SidesLemmas.{one_left}
use Rattle.gufi_prune.proofs.sides.formula_of.Goals as goal

pub sides_behind-requires : goal.sides_behind-requires
sides_behind-requires c = (c.requires.0 ∷ [], one_left c.args.hints.now c.requires.0 c.requires.1)

pub newest-requires : goal.newest-requires
newest-requires c = (c.requires.0, [], c.in_ok-stack.ensures (c.requires.0 ∷ []) (one_left c.args.hints.now c.requires.0 c.requires.1))

pub returns : goal.returns
returns c =
    let f = c.requires.0 in
    let behind = c.in_ok-stack.ensures (f ∷ []) (one_left c.args.hints.now f c.requires.1) in
    (f, c.requires.1, ap (λ s. s.holds) (c.newest.ensures f [] behind).1)
