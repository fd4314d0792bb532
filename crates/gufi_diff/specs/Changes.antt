-- What changed from one list of rows to another: paths that are gone, that have come, and whose record is another.
use Rattle.std.specs.Prelude.{ℕ, Bool, not, ◌&&◌, List, ◌∷◌, ◌++◌, map}
use Rattle.std.specs.List.{filter, flat_map, list_any}
use Rattle.std.specs.declared.cmp.Ordering.{Ordering}
use Rattle.gufi_base.specs.declared.record.Row.{Row}
use Rattle.gufi_base.specs.Basics.{sort_by}
use Rattle.gufi_base.specs.Paths.{Components, path_cmp, path_eq}
use Rattle.gufi_rows.specs.PathLines.{path_line}
use Rattle.gufi_diff.specs.Records.{same_record}

-- one of the rows has the path
abbrev pub has_path : List Row → Components → Bool
has_path rows path = list_any (λ row. path_eq row.path path) rows

-- one of the rows has the path of this row, and another record
abbrev pub has_other : List Row → Row → Bool
has_other rows row = list_any (λ other. path_eq other.path row.path && not (same_record other.rec row.rec)) rows

-- the rows of the first list whose path no row of the second has
abbrev pub gone : List Row → List Row → List Row
gone old new = filter (λ row. not (has_path new row.path)) old

-- the other way round
abbrev pub come : List Row → List Row → List Row
come old new = gone new old

-- the rows of the second list whose path a row of the first has with another record
abbrev pub altered : List Row → List Row → List Row
altered old new = filter (λ row. has_other old row) new

-- a sign and the path that it is said of
pub record Change : Type 0 where
  pub sign : ℕ
  pub path : Components

abbrev pub change_cmp : Change → Change → Ordering
change_cmp a b = path_cmp a.path b.path

abbrev pub signed : ℕ → List Row → List Change
signed sign rows = map (λ row. record { sign = sign; path = row.path }) rows

-- '-' is said of what is gone, '+' of what has come, '~' of what is altered
abbrev pub changes : List Row → List Row → List Change
changes old new = signed 45 (gone old new) ++ signed 43 (come old new) ++ signed 126 (altered old new)

-- the sign, a space, the path, a newline
abbrev pub change_line : Change → List ℕ
change_line change = change.sign ∷ 32 ∷ path_line change.path

-- a line for each change, in path order
unfoldable pub diff_lines : List Row → List Row → List ℕ
diff_lines old new = flat_map change_line (sort_by change_cmp (changes old new))
