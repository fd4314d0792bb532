use Rattle.std.proofs.Common.{[], ◌∷◌, refl, sym, subst, arith}
use Rattle.std.proofs.lemmas.List.Sorted.{IsPermutation-refl}
use Rattle.gufi_walk.specs.Chunks.{Hold}
use Rattle.gufi_walk.proofs.task.WalkJob.fresh.Goals as goal

pub returns : goal.returns
returns g c = (
  subst (λ cs. Hold g.Y.Yield.stands_for (c.in_ok-last.last ∷ cs) []) (sym c.new.ensures.items) ([], [], c.in_ok-last.ensures.rows, omega arith, refl, IsPermutation-refl []),
  c.in_ok-tester.ensures,
)
