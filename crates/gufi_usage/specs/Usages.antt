-- What rows take up together.
use Rattle.std.specs.Prelude.{◌≡◌, ℕ, ◌+◌, ◌*◌, ◌≤◌, List, length, if◌then◌else◌}
use Rattle.std.specs.List.{sum_by}
use Rattle.gufi_base.specs.declared.record.Meta.{Meta}
use Rattle.gufi_base.specs.declared.record.Row.{Row}
use Rattle.gufi_base.specs.Kinds.{is_dir, is_file}
use Rattle.gufi_sums.specs.Total.{total}
use Rattle.gufi_usage.specs.declared.usage.Usage.{Usage}

-- the blocks of all rows, whatever they are
abbrev pub blocks_of : List Row → ℕ
blocks_of rows = sum_by (λ row. row.rec.meta.blocks) rows

-- files, directories and the bytes of files as in the sum of the rows
unfoldable pub usage_of : List Row → Usage
usage_of rows = record { rows = length rows; files = (total rows).files; dirs = (total rows).dirs; bytes = (total rows).bytes; blocks = blocks_of rows }

-- what no row takes up
abbrev pub nothing : Usage
nothing = record { rows = 0; files = 0; dirs = 0; bytes = 0; blocks = 0 }

-- the same with one row more
abbrev pub with_row : Usage → Meta → Usage
with_row u meta = record {
  rows = u.rows + 1;
  files = u.files + (if is_file meta.kind then 1 else 0);
  dirs = u.dirs + (if is_dir meta.kind then 1 else 0);
  bytes = u.bytes + (if is_file meta.kind then meta.size else 0);
  blocks = u.blocks + meta.blocks;
}

-- of two lists joined
abbrev pub both : Usage → Usage → Usage
both a b = record { rows = a.rows + b.rows; files = a.files + b.files; dirs = a.dirs + b.dirs; bytes = a.bytes + b.bytes; blocks = a.blocks + b.blocks }

-- no row is counted twice, and sizes and blocks are numbers of 64 bits
pub record IsInRange (u : Usage) : Type 0 where
  pub files : u.files ≤ u.rows
  pub dirs : u.dirs ≤ u.rows
  pub bytes : u.bytes ≤ 18446744073709551615 * u.rows
  pub blocks : u.blocks ≤ 18446744073709551615 * u.rows

-- it is what the rows take up, and in range
pub record IsUsage (u : Usage) (rows : List Row) : Type 0 where
  pub is : u ≡ usage_of rows
  pub in_range : IsInRange u
