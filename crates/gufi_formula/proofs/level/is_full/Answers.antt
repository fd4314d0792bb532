use Rattle.gufi_formula.proofs.LevelLemmas.{full_at}
use Rattle.gufi_formula.proofs.level.is_full.Goals as goal

pub returns : goal.returns
returns g c = full_at c.args.level.now c.args.outer.now c.levels.left c.levels.other-index c.levels-test.false c.levels.invariant
