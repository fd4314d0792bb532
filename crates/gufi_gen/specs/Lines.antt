-- The lines of a generated trace.
use Rattle.std.specs.Prelude.{ℕ, List, ◌++◌}
use Rattle.std.specs.List.{flat_map, range_with_len}
use Rattle.gufi_base.specs.Paths.{path_text}
use Rattle.gufi_line.specs.TraceRows.{row_line}
use Rattle.gufi_tree.specs.Tree.{dir_row, entry_row, own_rows}
use Rattle.gufi_gen.specs.Generated.{directory_path, made_file, made_dir, made_root}

unfoldable pub made_path_text : ℕ → List ℕ
made_path_text i = path_text (made_root ++ directory_path i)

abbrev pub directory_line : ℕ → ℕ → List ℕ
directory_line delim i = row_line delim made_root (dir_row (made_dir i))

abbrev pub entry_line : ℕ → ℕ → ℕ → List ℕ
entry_line delim i j = row_line delim made_root (entry_row (directory_path i) (made_file i j))

-- the lines of the first k entries
abbrev pub entry_lines : ℕ → ℕ → ℕ → List ℕ
entry_lines delim i k = flat_map (entry_line delim i) (range_with_len 0 k)

abbrev pub stanza_text : ℕ → ℕ → List ℕ
stanza_text delim i = flat_map (row_line delim made_root) (own_rows (made_dir i))
