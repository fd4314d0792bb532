-- The lines of rows that are shown.
use Rattle.std.proofs.Common.{◌≡◌, Bool, true, false, List, [], ◌∷◌, ◌++◌, refl, ap}
use Rattle.std.specs.List.{flat_map}
use Rattle.gufi_base.specs.declared.record.Row.{Row}
use Rattle.gufi_base.specs.declared.record.RowRef.{RowRef}
use Rattle.gufi_base.specs.Rows.{Stands}
use Rattle.gufi_users.specs.Entries.{UserTables}
use Rattle.gufi_list.specs.Columns.{shown_line, shown_parts}
use Rattle.gufi_list.specs.Listings.{is_shown, ls_line, ls_text}

row_before : (tables : UserTables) (long all : Bool) (row : Row) (rows : List Row) (b : Bool) → is_shown all row ≡ b
    → flat_map (shown_line tables long all) rows ≡ ls_text rows tables long all → flat_map (shown_line tables long all) (row ∷ rows) ≡ ls_text (row ∷ rows) tables long all
row_before tables long all row rows true is h = rw (is) (ap (λ t. ls_line tables long row ++ t) h)
row_before tables long all row rows false is h = rw (is) h

-- what is printed row by row
pub shown_lines : (tables : UserTables) (long all : Bool) (rows : List Row) → flat_map (shown_line tables long all) rows ≡ ls_text rows tables long all
shown_lines tables long all [] = refl
shown_lines tables long all (row ∷ rows) = row_before tables long all row rows (is_shown all row) refl (shown_lines tables long all rows)

-- what is printed of a row in borrowed parts is that of the row
pub shown_of_parts : (tables : UserTables) (long all : Bool) (ref : RowRef) (row : Row) → Stands ref row → shown_parts tables long all ref ≡ shown_line tables long all row
shown_of_parts tables long all ref row stands = rw (stands.base, stands.meta, stands.link) refl
