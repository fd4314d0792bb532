use Rattle.std.proofs.Common.{◌≡◌}
use Rattle.gufi_formula.specs.Levels.{negated_formula}
use Rattle.gufi_formula.proofs.level.negated.Given as goal

abbrev pub invariant-nots : goal.invariant-nots
invariant-nots g l = l.negated ≡ negated_formula l.counter l.fn.formula
