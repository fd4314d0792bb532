use Rattle.std.proofs.Common.{◌≡◌, take}
use Rattle.std.specs.Prelude.{filter}
use Rattle.gufi_tree.specs.Places.{path_at}
use Rattle.gufi_walk.specs.Walk.{lists_at}
use Rattle.gufi_usage.proofs.near.open_subdirs.Given as goal

abbrev pub invariant-loop-kid : goal.invariant-loop-kid
invariant-loop-kid l = l.kids.items ≡ filter (λ id. lists_at l.snap.tree l.who (path_at l.snap.tree id.0)) (take l.kid-index l.kid-items)
