-- How deep below the start a row may lie that a SELECT chooses.
use Rattle.std.specs.Prelude.{ℕ, zero, suc, ◌+◌, Bool, true, not, ◌&&◌, Option, Some, None, option_and_then, pos, if◌then◌else◌}
use Rattle.std.specs.Ordering.{int_cmp, is_lt}
use Rattle.gufi_base.specs.Limits.{max_components}
use Rattle.gufi_formula.specs.Formulas.{Formula, holds, is_positive}
use Rattle.gufi_select.specs.declared.column.Column.TheVariants.{Level}
use Rattle.gufi_select.specs.declared.operator.Operator.TheVariants.{Equal, Below, AtMost}
use Rattle.gufi_select.specs.declared.condition.Value.TheVariants.{Number}
use Rattle.gufi_select.specs.declared.condition.Condition.{Condition}
use Rattle.gufi_select.specs.declared.condition.Condition.TheVariants.{Compares}
use Rattle.gufi_select.specs.Columns.{Select}

-- false where a comparison of `level` is false of every row that lies deeper
abbrev pub reaches : ℕ → Condition → Bool
reaches deep (Compares Level Equal (Number n)) = is_lt (int_cmp (pos deep) n)
reaches deep (Compares Level AtMost (Number n)) = is_lt (int_cmp (pos deep) n)
reaches deep (Compares Level Below (Number n)) = is_lt (int_cmp (pos (deep + 1)) n)
reaches deep condition = true

-- the first number from one on, of so many, at which the test fails
unfoldable pub first_failure : (ℕ → Bool) → ℕ → ℕ → Option ℕ
first_failure passes at zero = None
first_failure passes at (suc count) = if passes at then first_failure passes (at + 1) count else Some at

-- The least depth below which its comparisons of `level` leave no row; none is told of a condition with a NOT, nor of one that reaches as
-- deep as any path.
abbrev pub condition_depth : Formula Condition → Option ℕ
condition_depth f =
    if is_positive f && not (holds (reaches max_components) f)
    then first_failure (λ deep. holds (reaches deep) f) 0 max_components
    else None

abbrev pub select_depth : Select → Option ℕ
select_depth select = option_and_then condition_depth select.condition
