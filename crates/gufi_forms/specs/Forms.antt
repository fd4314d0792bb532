-- How the rows of a query are written.
use Rattle.std.specs.Prelude.{ℕ, true, false, Bool, ◌&&◌, not, List, [], ◌++◌, length, map}
use Rattle.std.specs.List.{flat_map, join_with_byte}
use Rattle.gufi_base.specs.declared.record.Row.{Row}
use Rattle.gufi_base.specs.Basics.{line}
use Rattle.gufi_base.specs.Paths.{Components, is_too_long}
use Rattle.gufi_base.specs.Rows.{depth_below, row_fits_types}
use Rattle.gufi_select.specs.declared.column.Column.{Column}
use Rattle.gufi_select.specs.Columns.{Seen, Select, seen_row, value_in, projected}
use Rattle.gufi_forms.specs.declared.form.Form.{Form}
use Rattle.gufi_forms.specs.declared.form.Form.TheVariants.{Lines, Json}
use Rattle.gufi_forms.specs.Cells.{escaped_value}
use Rattle.gufi_forms.specs.Names.{header_line}
use Rattle.gufi_forms.specs.Objects.{object_text}

-- a tab between two columns
abbrev pub escaped_columns : Seen → List Column → List ℕ
escaped_columns seen columns = join_with_byte 9 (map (λ column. escaped_value (value_in column seen)) columns)

-- the line of a row at its depth
abbrev pub form_line : Form → Select → Row → ℕ → List ℕ
form_line (Lines false header) select row depth = projected select row depth
form_line (Lines true header) select row depth = line (escaped_columns (seen_row row depth) select.columns)
form_line Json select row depth = line (object_text (seen_row row depth) select.columns)

-- the line before all rows, where there is one
abbrev pub form_header : Form → Select → List ℕ
form_header (Lines escape true) select = header_line select.columns
form_header (Lines escape false) select = []
form_header Json select = []

-- the lines of rows, each at its depth below a start
abbrev pub form_lines : Form → Select → Components → List Row → List ℕ
form_lines form select start rows = flat_map (λ row. form_line form select row (depth_below (length start) row)) rows

abbrev pub form_text : Form → Select → Components → List Row → List ℕ
form_text form select start rows = form_header form select ++ form_lines form select start rows

-- a row that an index may hold
abbrev pub is_held : Row → Bool
is_held row = row_fits_types row && not (is_too_long row.path)
