-- What the words of a SELECT name.
use Rattle.std.specs.Prelude.{ℕ, List, [], ◌∷◌, ◌++◌, map, Option, Some, None, codes}
use Rattle.std.specs.Char.{to_ascii_lowercase}
use Rattle.gufi_base.specs.Basics.{lookup}
use Rattle.gufi_select.specs.declared.column.Column.{Column}
use Rattle.gufi_select.specs.declared.column.Column.TheVariants.{Path, Name, Kind, Inode, Mode, Nlink, Uid, Gid, Size, Blksize, Blocks, Atime, Mtime, Ctime, Linkname, Xattrs, Level}
use Rattle.gufi_select.specs.declared.column.Table.{Table}
use Rattle.gufi_select.specs.declared.column.Table.TheVariants.{Entries, Summary, Rows}
use Rattle.gufi_select.specs.declared.word.Keyword.{Keyword}
use Rattle.gufi_select.specs.declared.word.Keyword.TheVariants.{Select, From, Where, Or, And, Not, Regexp}
use Rattle.gufi_select.specs.declared.word.Word.{Word}
use Rattle.gufi_select.specs.declared.word.Word.TheVariants.{OfGrammar, OfColumn, OfTable, Unknown}

abbrev pub lower : List ℕ → List ℕ
lower letters = map to_ascii_lowercase letters

abbrev pub keywords : List (List ℕ × Keyword)
keywords =
    (codes "select", Select) ∷ (codes "from", From) ∷ (codes "where", Where) ∷ (codes "or", Or) ∷ (codes "and", And) ∷ (codes "not", Not) ∷ (codes "regexp", Regexp) ∷ []

-- The names of the columns of `*`, in its order.
abbrev pub starred : List (List ℕ × Column)
starred =
    (codes "path", Path) ∷ (codes "name", Name) ∷ (codes "type", Kind) ∷ (codes "inode", Inode) ∷ (codes "mode", Mode) ∷ (codes "nlink", Nlink)
    ∷ (codes "uid", Uid) ∷ (codes "gid", Gid) ∷ (codes "size", Size) ∷ (codes "blksize", Blksize) ∷ (codes "blocks", Blocks)
    ∷ (codes "atime", Atime) ∷ (codes "mtime", Mtime) ∷ (codes "ctime", Ctime) ∷ (codes "linkname", Linkname) ∷ (codes "level", Level) ∷ []

-- The names of all columns: `*` leaves those of extended attributes out.
abbrev pub columns : List (List ℕ × Column)
columns = starred ++ (codes "xattrs", Xattrs) ∷ []

abbrev pub tables : List (List ℕ × Table)
tables = (codes "entries", Entries) ∷ (codes "summary", Summary) ∷ (codes "rows", Rows) ∷ []

-- a word is a keyword, or a column, or a table, or unknown; no name is two of these
abbrev pub word_among : Option Keyword → Option Column → Option Table → Word
word_among (Some keyword) column table = OfGrammar keyword
word_among None (Some column) table = OfColumn column
word_among None None (Some table) = OfTable table
word_among None None None = Unknown

-- what letters name, whatever the case of each
abbrev pub word_of : List ℕ → Word
word_of letters = word_among (lookup (lower letters) keywords) (lookup (lower letters) columns) (lookup (lower letters) tables)
