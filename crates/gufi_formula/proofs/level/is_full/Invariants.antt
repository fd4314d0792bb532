use Rattle.std.proofs.Common.{◌≡◌, ◌-◌, length, take}
use Rattle.std.specs.List.{sum_by}
use Rattle.gufi_formula.proofs.level.is_full.Given as goal

abbrev pub invariant-levels : goal.invariant-levels
invariant-levels g l = l.left ≡ 64 - length l.outer - l.level.nots - sum_by (λ level. level.nots) (take l.other-index l.outer)
