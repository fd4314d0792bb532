use Rattle.std.specs.Cmp.Derive.{both_true}
use Rattle.gufi_sums.specs.Depths.{within_from}
use Rattle.gufi_prune.proofs.questions.select_pruner.Goals as goal

-- the hints may hold where it holds, and no row lies deeper than it allows
pub returns-clause-met : goal.returns-clause-met
returns-clause-met c = λ row depth met.
    rw (c.no_deeper.ensures, c.in_ok-pruner.ensures)
    (both_true (c.in_ok-hints.ensures.sound row depth met) (within_from c.max_depth.result depth (λ most is. c.max_depth.ensures.bounded most is row depth met)))
