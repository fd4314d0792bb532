-- Directories that are gathered from lines, and the lines that are left.
use Rattle.std.specs.Prelude.{◌≡◌, Bool, not, ◌&&◌, List, ◌++◌, map, length, IsTrue}
use Rattle.std.specs.List.{list_all, flat_map}
use Rattle.std.specs.List.Sorted.{IsPermutation}
use Rattle.gufi_base.specs.declared.record.Line.{Line}
use Rattle.gufi_base.specs.declared.record.Row.{Row}
use Rattle.gufi_tree.specs.declared.tree.Stored.{Stored}
use Rattle.gufi_base.specs.Basics.{is_empty}
use Rattle.gufi_base.specs.Paths.{Components, parent_path}
use Rattle.gufi_tree.specs.Tree.{Directory, own_rows, has_dir, is_kinded, HasTreeShape}
use Rattle.gufi_tree.specs.Stored.{directories_of}
use Rattle.gufi_tree.specs.Build.{is_dir_line, directories_of_lines}

abbrev pub row_of_line : Line → Row
row_of_line line = record { path = line.path; rec = line.rec }

-- the rows of directories as the code keeps them
abbrev pub rows_of : List Stored → List Row
rows_of stored = flat_map own_rows (directories_of stored)

-- The lines' rows are those of the directories and of the entries that are left.
pub record IsGathered (lines : List Line) (stored : List Stored) (loose : List Line) : Type 0 where
  pub rows : IsPermutation (map row_of_line lines) (rows_of stored ++ map row_of_line loose)
  pub kinds : IsTrue (list_all is_kinded (directories_of stored))
  pub entries : IsTrue (list_all (λ line. not (is_dir_line line)) loose)

-- an entry's line whose parent is there
abbrev pub has_home : List Directory → Line → Bool
has_home tree line = not (is_dir_line line) && (not (is_empty line.path) && has_dir tree (parent_path line.path))

-- the paths of directories
abbrev pub paths_of : List Stored → List Components
paths_of stored = map (λ s. s.path) stored

-- The directories are those of the lines.
pub record IsArranged (lines : List Line) (dirs : List Directory) : Type 0 where
  pub tree : dirs ≡ directories_of_lines lines
  pub shape : HasTreeShape dirs
  pub rows : length (flat_map own_rows dirs) ≡ length lines
