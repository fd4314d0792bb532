-- What is known of the tree that a trace means.
use Rattle.std.specs.Prelude.{◌≡◌, ◌≢◌, ℕ, ◌+◌, Bool, IsTrue, not, ◌&&◌, nat_le, List, [], length, Ok}
use Rattle.std.specs.List.{flat_map, list_all}
use Rattle.gufi_base.specs.Limits.{max_components, max_path}
use Rattle.gufi_base.specs.Paths.{Components, path_text, is_too_long}
use Rattle.gufi_base.specs.Rows.{are_bytes}
use Rattle.gufi_tree.specs.Tree.{Directory, own_rows, is_program_tree, is_too_large}
use Rattle.gufi_line.specs.LineText.{root_of}
use Rattle.gufi_trace.specs.TraceText.{whole_lines, trace_means}

-- The root's path, before it is taken away, is the first line's.
abbrev pub trace_root : ℕ → List ℕ → Components
trace_root delim bytes = root_of delim (whole_lines bytes)

-- at most 256 names, and one byte of text more than a path may have
abbrev pub is_close : Components → Bool
is_close path = nat_le (length path) max_components && nat_le (length (path_text path)) (max_path + 1)

-- A tree with records of the program's types, within the limits. Where the trace begins below `/`, no path is too long. Else a
-- path's text may have one byte more than a field may: a field needn't begin with a slash.
pub record IsTraceTree (root : Components) (tree : List Directory) : Type 0 where
  pub sound : IsTrue (is_program_tree tree)
  pub few : IsTrue (not (is_too_large tree))
  pub close : IsTrue (list_all (λ row. is_close row.path) (flat_map own_rows tree))
  pub short : root ≢ [] → IsTrue (list_all (λ row. not (is_too_long row.path)) (flat_map own_rows tree))

-- So is what each trace means. A public function's contract has to name this.
abbrev pub TracesMeanSoundTrees : Type 0
TracesMeanSoundTrees = (delim : ℕ) (bytes : List ℕ) (tree : List Directory) → IsTrue (are_bytes bytes) → trace_means delim bytes ≡ Ok tree → IsTraceTree (trace_root delim bytes) tree
