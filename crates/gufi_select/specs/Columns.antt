-- The columns of a row, and the truth and the projection of a SELECT.
use Rattle.std.specs.Prelude.{ℕ, Bool, true, false, not, ◌&&◌, List, [], ◌∷◌, length, map, Option, Some, None, pos}
use Rattle.std.specs.Fmt.{signed_decimal}
use Rattle.std.specs.List.{flat_map, join_with_byte}
use Rattle.std.specs.declared.cmp.Ordering.{Ordering}
use Rattle.std.specs.Ordering.{int_cmp, nat_cmp, is_eq, is_ne, is_lt, is_le, is_gt, is_ge}
use Rattle.std.specs.Cmp.Lexicographic.{slice_cmp}
use Rattle.gufi_base.specs.declared.record.Meta.{Meta}
use Rattle.gufi_base.specs.declared.record.Row.{Row}
use Rattle.gufi_base.specs.Basics.{line}
use Rattle.gufi_base.specs.Paths.{Components, path_text, base_name}
use Rattle.gufi_base.specs.Kinds.{kind_letter, is_dir}
use Rattle.gufi_base.specs.Rows.{depth_below}
use Rattle.gufi_formula.specs.Formulas.{Formula, holds}
use Rattle.gufi_pattern.specs.Patterns.{is_pattern_found}
use Rattle.gufi_select.specs.declared.column.Column.{Column}
use Rattle.gufi_select.specs.declared.column.Column.TheVariants.{Path, Name, Kind, Inode, Mode, Nlink, Uid, Gid, Size, Blksize, Blocks, Atime, Mtime, Ctime, Linkname, Xattrs, Level}
use Rattle.gufi_select.specs.declared.column.Table.{Table}
use Rattle.gufi_select.specs.declared.column.Table.TheVariants.{Entries, Summary, Rows}
use Rattle.gufi_select.specs.declared.operator.Operator.{Operator}
use Rattle.gufi_select.specs.declared.operator.Operator.TheVariants.{Equal, Unequal, Below, AtMost, Above, AtLeast}
use Rattle.gufi_select.specs.declared.condition.Value.{Value}
use Rattle.gufi_select.specs.declared.condition.Value.TheVariants.{Text, Number}
use Rattle.gufi_select.specs.declared.regexp.Regexp.{Regexp}
use Rattle.gufi_select.specs.declared.condition.Condition.{Condition}
use Rattle.gufi_select.specs.declared.condition.Condition.TheVariants.{Compares, Finds}

-- what is seen of a row at a depth
pub record Seen : Type 0 where
  pub path : List ℕ
  pub name : List ℕ
  pub meta : Meta
  pub link : List ℕ
  pub xattrs : List ℕ
  pub depth : ℕ

abbrev pub seen_row : Row → ℕ → Seen
seen_row row depth = record { path = path_text row.path; name = base_name row.path; meta = row.rec.meta; link = row.rec.link; xattrs = row.rec.xattrs; depth = depth }

abbrev pub value_in : Column → Seen → Value
value_in Path s = Text s.path
value_in Name s = Text s.name
value_in Kind s = Text (kind_letter s.meta.kind ∷ [])
value_in Inode s = Number (pos s.meta.inode)
value_in Mode s = Number (pos s.meta.mode)
value_in Nlink s = Number (pos s.meta.nlink)
value_in Uid s = Number (pos s.meta.uid)
value_in Gid s = Number (pos s.meta.gid)
value_in Size s = Number (pos s.meta.size)
value_in Blksize s = Number (pos s.meta.blksize)
value_in Blocks s = Number (pos s.meta.blocks)
value_in Atime s = Number s.meta.atime
value_in Mtime s = Number s.meta.mtime
value_in Ctime s = Number s.meta.ctime
value_in Linkname s = Text s.link
value_in Xattrs s = Text s.xattrs
value_in Level s = Number (pos s.depth)

abbrev pub value_at : Column → Row → ℕ → Value
value_at column row depth = value_in column (seen_row row depth)

abbrev pub is_text_column : Column → Bool
is_text_column Path = true
is_text_column Name = true
is_text_column Kind = true
is_text_column Linkname = true
is_text_column Xattrs = true
is_text_column column = false

abbrev pub is_in_table : Table → Meta → Bool
is_in_table Entries meta = not (is_dir meta.kind)
is_in_table Summary meta = is_dir meta.kind
is_in_table Rows meta = true

-- ---- conditions

abbrev pub admits : Operator → Ordering → Bool
admits Equal order = is_eq order
admits Unequal order = is_ne order
admits Below order = is_lt order
admits AtMost order = is_le order
admits Above order = is_gt order
admits AtLeast order = is_ge order

-- values of one type; of two types none compares
abbrev pub compare_values : Operator → Value → Value → Bool
compare_values op (Text a) (Text b) = admits op (slice_cmp nat_cmp a b)
compare_values op (Text a) (Number b) = false
compare_values op (Number a) (Text b) = false
compare_values op (Number a) (Number b) = admits op (int_cmp a b)

abbrev pub text_or_empty : Value → List ℕ
text_or_empty (Text bytes) = bytes
text_or_empty (Number n) = []

-- the text of its pattern is found in the column's bytes
abbrev pub regexp_holds : Option Regexp → Seen → Bool
regexp_holds None s = false
regexp_holds (Some regexp) s = is_pattern_found regexp.pattern (text_or_empty (value_in regexp.column s))

-- a comparison, or the REGEXP, whose truth stands first
abbrev pub condition_holds : Bool → Condition → Seen → Bool
condition_holds found (Compares column op literal) s = compare_values op (value_in column s) literal
condition_holds found Finds s = found

pub record Select : Type 0 where
  pub columns : List Column
  pub table : Table
  pub regexp : Option Regexp
  pub condition : Option (Formula Condition)

abbrev pub holds_or_true : (Condition → Bool) → Option (Formula Condition) → Bool
holds_or_true truth None = true
holds_or_true truth (Some formula) = holds truth formula

abbrev pub holds_with : Bool → Option (Formula Condition) → Seen → Bool
holds_with found condition s = holds_or_true (λ c. condition_holds found c s) condition

abbrev pub holds_in : Select → Seen → Bool
holds_in select s = is_in_table select.table s.meta && holds_with (regexp_holds select.regexp s) select.condition s

abbrev pub select_holds : Select → Row → ℕ → Bool
select_holds select row depth = holds_in select (seen_row row depth)

-- ---- the projected line

abbrev pub value_text : Value → List ℕ
value_text (Text bytes) = bytes
value_text (Number n) = signed_decimal n

abbrev pub projected : Select → Row → ℕ → List ℕ
projected select row depth = line (join_with_byte 9 (map (λ column. value_text (value_at column row depth)) select.columns))

-- the lines of rows, each at its depth below a start
abbrev pub select_lines : Select → Components → List Row → List ℕ
select_lines select start rows = flat_map (λ row. projected select row (depth_below (length start) row)) rows
