-- One pass over two lists of rows in path order.
use Rattle.std.specs.Prelude.{ℕ, List, [], ◌∷◌, drop, if◌then◌else◌}
use Rattle.std.specs.declared.cmp.Ordering.{Ordering}
use Rattle.std.specs.declared.cmp.Ordering.TheVariants.{Less, Greater}
use Rattle.gufi_base.specs.declared.record.Row.{Row}
use Rattle.gufi_base.specs.Rows.{row_cmp}
use Rattle.gufi_diff.specs.declared.diff.Passed.{Passed}
use Rattle.gufi_diff.specs.Changes.{change_line, diff_lines}
use Rattle.gufi_diff.specs.Records.{same_record}

-- which list has the row that comes first: Less where it is the first list
abbrev pub first_cmp : List Row → List Row → Ordering
first_cmp [] new = Greater
first_cmp (a ∷ old) [] = Less
first_cmp (a ∷ old) (b ∷ new) = row_cmp a b

-- what is said of a path that both lists have
abbrev pub altered_line : Row → Row → List ℕ
altered_line a b = if same_record a.rec b.rec then [] else change_line (record { sign = 126; path = b.path })

-- the lines of the rows that aren't passed yet
abbrev pub lines_left : List Row → List Row → Passed → List ℕ
lines_left old new passed = diff_lines (drop passed.old old) (drop passed.new new)
