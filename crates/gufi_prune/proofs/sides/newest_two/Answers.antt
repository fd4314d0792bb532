use Rattle.std.proofs.Common.{◌∷◌}
use Rattle.gufi_prune.proofs.sides.newest_two.Goals as goal

-- src/sides.rt: the first one is there
pub newest-first-requires : goal.newest-first-requires
newest-first-requires c = let h = c.requires in (h.0, h.2, (c.newest-second.ensures h.1 (h.0 ∷ h.2) h.3).0)

pub returns : goal.returns
returns c f g fs is =
    let second = c.newest-second.ensures g (f ∷ fs) is in
    let first = c.newest-first.ensures f fs second.0 in
    (first.0, first.1, second.1)
