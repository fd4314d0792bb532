-- What is told of an index: lines of a word and a value.
use Rattle.std.specs.Prelude.{ℕ, ℤ, Bool, true, false, List, [], ◌++◌, length, Option, Some, None, codes, decimal}
use Rattle.std.specs.Fmt.{signed_decimal}
use Rattle.std.specs.List.{flat_map}
use Rattle.gufi_base.specs.Basics.{line}
use Rattle.gufi_tree.specs.Tree.{Directory, own_rows, entry_count}
use Rattle.gufi_roll.specs.CanRoll.{roll_flags, roll_report}
use Rattle.gufi_roll.specs.declared.report.RollReport.{RollReport}
use Rattle.gufi_image.specs.Widths.{version_of, width_of}
use Rattle.gufi_info.specs.declared.census.Census.{Census}
use Rattle.gufi_info.specs.Census.{census_of}

unfoldable pub number_line : List ℕ → ℕ → List ℕ
number_line word n = line (word ++ decimal n)

-- the least and the greatest
abbrev pub pair_line : List ℕ → ℤ → ℤ → List ℕ
pair_line word least greatest = line (word ++ signed_decimal least ++ (codes " " ++ signed_decimal greatest))

abbrev pub span_line : List ℕ → Option (ℤ × ℤ) → List ℕ
span_line word None = []
span_line word (Some times) = pair_line word times.0 times.1

abbrev pub answer_line : List ℕ → Bool → List ℕ
answer_line word true = line (word ++ codes "yes")
answer_line word false = line (word ++ codes "no")

-- a trace has no version
abbrev pub version_line : Bool → ℕ → List ℕ
version_line true version = number_line (codes "version ") version
version_line false version = line (codes "version -")

-- of the file: an image's version, and how many bytes it has
unfoldable pub file_lines : Bool → ℕ → ℕ → List ℕ
file_lines image version bytes = version_line image version ++ number_line (codes "bytes ") bytes

unfoldable pub size_lines : ℕ → ℕ → ℕ → ℕ → List ℕ
size_lines limit dirs entries depth =
    number_line (codes "limit ") limit ++ (number_line (codes "directories ") dirs ++ (number_line (codes "entries ") entries ++ number_line (codes "depth ") depth))

abbrev pub roll_lines : RollReport → List ℕ
roll_lines report = number_line (codes "rolled ") report.rolled ++ (number_line (codes "tops ") report.tops ++ number_line (codes "rows ") report.rows)

abbrev pub row_lines : Census → List ℕ
row_lines census =
    span_line (codes "atime ") census.atime ++ (span_line (codes "mtime ") census.mtime ++ (span_line (codes "ctime ") census.ctime
    ++ (answer_line (codes "acls ") census.acls ++ answer_line (codes "xattrs ") census.xattrs)))

-- Of a tree under a limit, in a file of so many bytes, which is an image or not: an image has the least version that holds its tree.
unfoldable pub info_text : Bool → ℕ → List Directory → ℕ → List ℕ
info_text image bytes tree limit =
    let census = census_of (flat_map own_rows tree) in
    file_lines image (version_of (width_of tree)) bytes ++ (size_lines limit (length tree) (entry_count tree) census.depth ++ (roll_lines (roll_report tree (roll_flags tree limit)) ++ row_lines census))
