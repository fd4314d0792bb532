-- The lines of a SELECT in the pieces in which they are put.
use Rattle.std.specs.Prelude.{List, ◌∷◌, ℕ, map}
use Rattle.std.specs.List.{join_with_byte}
use Rattle.gufi_select.specs.declared.column.Column.{Column}
use Rattle.gufi_select.specs.Columns.{Seen, value_in, value_text}

abbrev pub column_text : Seen → Column → List ℕ
column_text seen column = value_text (value_in column seen)

-- a column behind a tab
abbrev pub tabbed_text : Seen → Column → List ℕ
tabbed_text seen column = 9 ∷ column_text seen column

abbrev pub columns_text : Seen → List Column → List ℕ
columns_text seen columns = join_with_byte 9 (map (λ column. value_text (value_in column seen)) columns)
