-- A line for each directory near a start: what the chosen rows at and below it take up.
use Rattle.std.specs.Prelude.{ℕ, Bool, ◌&&◌, nat_le, List, [], ◌∷◌, ◌++◌, length, filter, decimal}
use Rattle.std.specs.List.{flat_map}
use Rattle.gufi_base.specs.declared.record.Row.{Row}
use Rattle.gufi_base.specs.Basics.{line}
use Rattle.gufi_base.specs.Paths.{Components, is_prefix, path_text}
use Rattle.gufi_base.specs.Rows.{home, is_dir_row, depth_below}
use Rattle.gufi_usage.specs.declared.usage.Usage.{Usage}
use Rattle.gufi_usage.specs.Usages.{usage_of}

-- the row stands at or below the directory of the path
abbrev pub lies_below : Components → Row → Bool
lies_below top row = is_prefix top (home row)

-- a number and a tab
abbrev pub field : ℕ → List ℕ
field number = decimal number ++ 9 ∷ []

abbrev pub usage_line : Components → Usage → List ℕ
usage_line path u = field u.bytes ++ (field u.blocks ++ (field u.files ++ (field u.dirs ++ line (path_text path))))

-- a directory's row, at most so deep below a start of so many components
abbrev pub has_line : ℕ → ℕ → Row → Bool
has_line depth above row = is_dir_row row && nat_le (depth_below above row) depth

-- the row is chosen, and stands at or below the directory
abbrev pub counts_for : (Row → ℕ → Bool) → ℕ → Components → Row → Bool
counts_for chosen above top row = chosen row (depth_below above row) && lies_below top row

-- of the rows that are listed from a start, those of directories at most so deep below it have a line, in their order, whether they are chosen or not
unfoldable pub usage_lines : ℕ → (Row → ℕ → Bool) → Components → List Row → List ℕ
usage_lines depth chosen start rows =
    flat_map (λ row. usage_line row.path (usage_of (filter (counts_for chosen (length start) row.path) rows))) (filter (has_line depth (length start)) rows)
