-- The names of columns, and a column that is named twice.
use Rattle.std.specs.Prelude.{ℕ, Bool, List, [], ◌∷◌, map, Option, Some, None, codes, bytes_eq, if◌then◌else◌}
use Rattle.std.specs.List.{list_any, join_with_byte}
use Rattle.gufi_base.specs.Basics.{line}
use Rattle.gufi_select.specs.declared.column.Column.{Column}
use Rattle.gufi_select.specs.declared.column.Column.TheVariants.{Path, Name, Kind, Inode, Mode, Nlink, Uid, Gid, Size, Blksize, Blocks, Atime, Mtime, Ctime, Linkname, Xattrs, Level}

abbrev pub column_name : Column → List ℕ
column_name Path = codes "path"
column_name Name = codes "name"
column_name Kind = codes "type"
column_name Inode = codes "inode"
column_name Mode = codes "mode"
column_name Nlink = codes "nlink"
column_name Uid = codes "uid"
column_name Gid = codes "gid"
column_name Size = codes "size"
column_name Blksize = codes "blksize"
column_name Blocks = codes "blocks"
column_name Atime = codes "atime"
column_name Mtime = codes "mtime"
column_name Ctime = codes "ctime"
column_name Linkname = codes "linkname"
column_name Xattrs = codes "xattrs"
column_name Level = codes "level"

-- the names, with a tab between two
abbrev pub header_line : List Column → List ℕ
header_line columns = line (join_with_byte 9 (map column_name columns))

abbrev pub is_named : List ℕ → List Column → Bool
is_named name columns = list_any (λ column. bytes_eq (column_name column) name) columns

-- the first column that stands again further back
abbrev pub first_twice : List Column → Option Column
first_twice [] = None
first_twice (column ∷ rest) = if is_named (column_name column) rest then Some column else first_twice rest
