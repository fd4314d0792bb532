-- What sums can bound of a SELECT: its comparisons of types, sizes, times of the last change, users and groups, and its table.
use Rattle.std.specs.Prelude.{ℕ, ℤ, pos, ◌+ℤ◌, ◌-ℤ◌, int_lt, Bool, true, false, ◌&&◌, List, [], ◌∷◌, ◌++◌, Option, Some, None, if◌then◌else◌}
use Rattle.gufi_base.specs.Kinds.{read_kind}
use Rattle.gufi_base.specs.declared.record.Kind.{Kind as KindOf}
use Rattle.gufi_base.specs.declared.record.Kind.TheVariants.{Dir}
use Rattle.gufi_base.specs.declared.hint.Hint.{Hint}
use Rattle.gufi_base.specs.declared.hint.Hint.TheVariants as hints
use Rattle.gufi_formula.specs.Formulas.{Formula}
use Rattle.gufi_formula.specs.Hints.{postfix}
use Rattle.gufi_formula.specs.Leaves.{tells}
use Rattle.gufi_formula.specs.Ranges.{sizes_in, uids_in, gids_in, times_in, least_time, greatest_time}
use Rattle.gufi_select.specs.declared.column.Column.{Column}
use Rattle.gufi_select.specs.declared.column.Column.TheVariants.{Kind, Uid, Gid, Size, Mtime}
use Rattle.gufi_select.specs.declared.column.Table.{Table}
use Rattle.gufi_select.specs.declared.column.Table.TheVariants.{Entries, Summary, Rows}
use Rattle.gufi_select.specs.declared.operator.Operator.{Operator}
use Rattle.gufi_select.specs.declared.operator.Operator.TheVariants.{Equal, Unequal, Below, AtMost, Above, AtLeast}
use Rattle.gufi_select.specs.declared.condition.Value.TheVariants.{Text, Number}
use Rattle.gufi_select.specs.declared.condition.Condition.{Condition}
use Rattle.gufi_select.specs.declared.condition.Condition.TheVariants.{Compares, Finds}
use Rattle.gufi_select.specs.declared.hint.Range.{Range}
use Rattle.gufi_select.specs.Columns.{Select}

abbrev pub no_number : Range
no_number = record { first = pos 1; last = pos 0 }

-- The numbers from the least to the greatest that compare so with a number. Of `<>` they are those that `=` excludes.
unfoldable pub ends : ℤ → ℤ → Operator → ℤ → Range
ends least most Equal n = record { first = n; last = n }
ends least most Unequal n = record { first = n; last = n }
ends least most Below n = if int_lt least n then record { first = least; last = n -ℤ pos 1 } else no_number
ends least most AtMost n = record { first = least; last = n }
ends least most Above n = if int_lt n most then record { first = n +ℤ pos 1; last = most } else no_number
ends least most AtLeast n = record { first = n; last = most }

abbrev pub range_of : (ℤ → ℤ → Hint) → Range → Hint
range_of range e = range e.first e.last

abbrev pub number_leaf : Column → Operator → ℤ → Hint
number_leaf Size op n = range_of sizes_in (ends (pos 0) (pos 18446744073709551615) op n)
number_leaf Mtime op n = range_of times_in (ends least_time greatest_time op n)
number_leaf Uid op n = range_of uids_in (ends (pos 0) (pos 4294967295) op n)
number_leaf Gid op n = range_of gids_in (ends (pos 0) (pos 4294967295) op n)
number_leaf column op n = hints.Unknown

abbrev pub kind_leaf : Option KindOf → Hint
kind_leaf None = hints.Unknown
kind_leaf (Some kind) = hints.Kind kind

abbrev pub text_leaf : Column → Operator → List ℕ → Hint
text_leaf Kind Equal text = kind_leaf (read_kind text)
text_leaf Kind Unequal text = kind_leaf (read_kind text)
text_leaf column op text = hints.Unknown

abbrev pub is_unequal : Operator → Bool
is_unequal Unequal = true
is_unequal op = false

-- the test of a condition, which `<>` turns round
abbrev pub leaf_of : Condition → Hint
leaf_of (Compares column op (Number n)) = number_leaf column op n
leaf_of (Compares column op (Text text)) = text_leaf column op text
leaf_of Finds = hints.Unknown

abbrev pub is_turned : Condition → Bool
is_turned (Compares column op literal) = is_unequal op
is_turned Finds = false

abbrev pub condition_hints : Condition → List Hint
condition_hints c = if is_turned c && tells (leaf_of c) then leaf_of c ∷ hints.Not ∷ [] else leaf_of c ∷ []

-- those of the table stand behind those of the condition
abbrev pub hints_in : Table → Option (Formula Condition) → List Hint
hints_in Entries None = hints.Kind Dir ∷ hints.Not ∷ []
hints_in Entries (Some f) = postfix condition_hints f ++ hints.Kind Dir ∷ hints.Not ∷ hints.And ∷ []
hints_in Summary None = hints.Kind Dir ∷ []
hints_in Summary (Some f) = postfix condition_hints f ++ hints.Kind Dir ∷ hints.And ∷ []
hints_in Rows None = hints.SizeIn 0 18446744073709551615 ∷ []
hints_in Rows (Some f) = postfix condition_hints f

abbrev pub select_hints : Select → List Hint
select_hints select = hints_in select.table select.condition
