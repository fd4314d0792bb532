-- Rows by a number, as groups.
use Rattle.std.specs.Prelude.{◌≡◌, ℕ, ◌==◌, List, length, map, filter, sum, min, max, unwrap_or, pos}
use Rattle.std.specs.Int.{int_min, int_max}
use Rattle.gufi_base.specs.declared.record.Kind.TheVariants.{File}
use Rattle.gufi_base.specs.declared.record.Meta.{Meta}
use Rattle.gufi_base.specs.declared.record.Row.{Row}
use Rattle.gufi_base.specs.Kinds.{kind_letter}
use Rattle.gufi_sums.specs.Total.{range_of}
use Rattle.gufi_sums.specs.declared.summary.Summary.{Summary}
use Rattle.gufi_stats.specs.Grouped.{depth, uid, gid, numbers, grouped_seen}
use Rattle.gufi_agg.specs.declared.agg.AggKey.{AggKey}
use Rattle.gufi_agg.specs.declared.agg.AggKey.TheVariants.{Uid, Gid, Letter, Level}
use Rattle.gufi_agg.specs.declared.groups.Group.{Group}

abbrev pub letter : Row → ℕ
letter row = kind_letter row.rec.meta.kind

-- the number of a row under a key; a level is told from the root, and printed from the start
abbrev pub key_number : AggKey → Row → ℕ
key_number Uid = uid
key_number Gid = gid
key_number Letter = letter
key_number Level = depth

-- some rows of one number; the sizes are those of all of them
abbrev pub group_of : ℕ → List Row → Group
group_of n rows = record {
  key = n;
  count = length rows;
  sum = sum (map (λ row. row.rec.meta.size) rows);
  size = unwrap_or (range_of min max (map (λ row. row.rec.meta.size) rows)) (0, 0);
  mtime = unwrap_or (range_of int_min int_max (map (λ row. row.rec.meta.mtime) rows)) (pos 0, pos 0);
}

-- one group for each number that a row has, ascending
unfoldable pub grouped_rows : (Row → ℕ) → List Row → List Group
grouped_rows key rows = map (λ n. group_of n (filter (λ row. key row == n) rows)) (numbers key rows)

-- a record as if it were a file's, so that its size counts
abbrev pub as_file : Meta → Meta
as_file meta = record meta { kind = File }

-- sums by a number stand for rows, each of them counted as a file
abbrev pub AreSumsOf : (Row → ℕ) → List (ℕ × Summary) → List Row → Type 0
AreSumsOf key sums rows = sums ≡ grouped_seen as_file key rows

-- the group that such a sum tells of
abbrev pub group_from : ℕ × Summary → Group
group_from entry = record {
  key = entry.0;
  count = entry.1.files;
  sum = entry.1.bytes;
  size = unwrap_or entry.1.size (0, 0);
  mtime = unwrap_or entry.1.mtime (pos 0, pos 0);
}
