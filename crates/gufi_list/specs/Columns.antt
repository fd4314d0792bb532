-- The columns that the lines of ls are made of.
use Rattle.std.specs.Prelude.{ℕ, Bool, List, [], ◌++◌, if◌then◌else◌, codes, decimal}
use Rattle.std.specs.Fmt.{signed_decimal}
use Rattle.gufi_base.specs.declared.record.Meta.{Meta}
use Rattle.gufi_base.specs.declared.record.Row.{Row}
use Rattle.gufi_base.specs.declared.record.RowRef.{RowRef}
use Rattle.gufi_users.specs.Entries.{UserTables}
use Rattle.gufi_list.specs.Listings.{mode_text, owner_text, group_text, is_name_shown, is_shown, ls_line, record_line}

abbrev pub links_column : Meta → List ℕ
links_column m = mode_text m ++ (codes " " ++ decimal m.nlink)

abbrev pub owners_column : UserTables → Meta → List ℕ
owners_column tables m = codes " " ++ (owner_text tables m.uid ++ (codes " " ++ group_text tables m.gid))

abbrev pub sizes_column : Meta → List ℕ
sizes_column m = codes " " ++ (decimal m.size ++ (codes " " ++ (signed_decimal m.mtime ++ codes " ")))

abbrev pub meta_columns : UserTables → Meta → List ℕ
meta_columns tables m = links_column m ++ (owners_column tables m ++ sizes_column m)

-- the line of a row that is shown, and else nothing
abbrev pub shown_line : UserTables → Bool → Bool → Row → List ℕ
shown_line tables long all row = if is_shown all row then ls_line tables long row else []

-- the same of a row in borrowed parts
abbrev pub shown_parts : UserTables → Bool → Bool → RowRef → List ℕ
shown_parts tables long all ref = if is_name_shown all ref.base.now then record_line tables long ref.meta.now ref.base.now ref.link.now else []
