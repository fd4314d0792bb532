use Rattle.gufi_walk.proofs.Folds.{folds_hold, kids_reach}
use Rattle.gufi_walk.proofs.laws.folds_hold_the_answer.Goals as goal

pub returns : goal.returns
returns c = record { rows = folds_hold; kids = kids_reach }
