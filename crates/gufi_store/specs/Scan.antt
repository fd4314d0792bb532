-- Which rows of directories meet a question, as they are shown.
use Rattle.std.specs.Prelude.{ℕ, Bool, List, filter, map}
use Rattle.std.specs.List.{flat_map}
use Rattle.gufi_base.specs.declared.record.Row.{Row}
use Rattle.gufi_base.specs.Rows.{depth_below}
use Rattle.gufi_tree.specs.Tree.{Directory, own_rows}

-- the answer for a row, at its depth below a start of so many components
abbrev pub is_met : ℕ → (Row → ℕ → Bool) → Row → Bool
is_met above sat row = sat row (depth_below above row)

-- the directory's own row and its entries' rows as they are shown, those that meet the question
abbrev pub rows_met : ℕ → (Row → ℕ → Bool) → (Row → Row) → Directory → List Row
rows_met above sat shows dir = filter (is_met above sat) (map shows (own_rows dir))

-- the same of each of several directories, one after another
abbrev pub rows_met_in : ℕ → (Row → ℕ → Bool) → (Row → Row) → List Directory → List Row
rows_met_in above sat shows dirs = filter (is_met above sat) (map shows (flat_map own_rows dirs))
