-- Rows as lines of paths, and what a list of paths stands for.
use Rattle.std.specs.Prelude.{◌≡◌, ℕ, List, length, map}
use Rattle.std.proofs.Common.{sym, ◌∙◌}
use Rattle.std.specs.List.{flat_map}
use Rattle.std.specs.List.Sorted.{IsPermutation}
use Rattle.std.proofs.lemmas.List.{length-map}
use Rattle.std.proofs.lemmas.List.Sorted.{IsPermutation-trans, IsPermutation-map, length_permutation}
use Rattle.gufi_base.specs.declared.record.Row.{Row}
use Rattle.gufi_base.specs.Basics.{line}
use Rattle.gufi_base.specs.Paths.{Components, path_text}

abbrev pub path_line : Components → List ℕ
path_line path = line (path_text path)

abbrev pub path_lines : List Row → List ℕ
path_lines rows = flat_map (λ row. line (path_text row.path)) rows

abbrev pub row_paths : List Row → List Components
row_paths rows = map (λ row. row.path) rows

-- the paths are those of the rows, in any order
abbrev pub ArePathsOf : List Components → List Row → Type 0
ArePathsOf paths rows = IsPermutation paths (row_paths rows)

pub ArePathsOf-counted : (paths : List Components) (rows : List Row) → ArePathsOf paths rows → length rows ≡ length paths
ArePathsOf-counted paths rows h = sym (length-map rows (λ (row : Row). row.path)) ∙ length_permutation paths (row_paths rows) h

pub ArePathsOf-reordered : (paths : List Components) (rows other : List Row) → IsPermutation rows other → ArePathsOf paths rows → ArePathsOf paths other
ArePathsOf-reordered paths rows other moved h =
    IsPermutation-trans paths (row_paths rows) (row_paths other) h (IsPermutation-map (λ (row : Row). row.path) rows other moved)
