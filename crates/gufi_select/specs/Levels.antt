-- What stands open in a condition, and how NOT and parentheses change it.
use Rattle.std.specs.Prelude.{nat_le, List, ◌∷◌, Result, Ok, ok_or}
use Rattle.gufi_base.specs.Limits.{max_nesting}
use Rattle.gufi_base.specs.Basics.{◌>>◌, refuse}
use Rattle.gufi_formula.specs.declared.level.Level.{Level}
use Rattle.gufi_formula.specs.Levels.{Levels, new_level, with_not, open_ones, closed_levels}
use Rattle.gufi_select.specs.declared.condition.Condition.{Condition}
use Rattle.gufi_select.specs.declared.fault.SelectKind.{SelectKind}
use Rattle.gufi_select.specs.declared.fault.SelectKind.TheVariants.{Unexpected, TooDeep}

-- "NOT" and "(" count as open
abbrev pub opened : Levels Condition → Levels Condition → Result (Levels Condition) SelectKind
opened s next = refuse (nat_le max_nesting (open_ones s.level s.outer)) TooDeep >> Ok next

abbrev pub negated : Levels Condition → Result (Levels Condition) SelectKind
negated s = opened s (record s { level = with_not s.level })

abbrev pub nested : Levels Condition → Result (Levels Condition) SelectKind
nested s = opened s (record { level = new_level; outer = s.level ∷ s.outer })

abbrev pub closed : Level Condition → List (Level Condition) → Result (Levels Condition) SelectKind
closed inner outer = ok_or (closed_levels inner outer) Unexpected
