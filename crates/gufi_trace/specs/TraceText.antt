-- What the bytes of a trace mean: lines, then a tree; or the first fault.
use Rattle.std.specs.Prelude.{ℕ, ◌+◌, not, List, [], ◌++◌, length, Result, Ok, codes, decimal}
use Rattle.gufi_base.specs.declared.record.Line.{Line}
use Rattle.gufi_base.specs.Basics.{is_empty, split, all_but_last, last_of, result_map_err, ◌>>=◌, ◌>>◌, refuse}
use Rattle.gufi_tree.specs.declared.fault.TreeFault.{TreeFault}
use Rattle.gufi_tree.specs.declared.fault.TreeFault.TheVariants as trees
use Rattle.gufi_tree.specs.Tree.{Directory}
use Rattle.gufi_tree.specs.Build.{tree_of}
use Rattle.gufi_line.specs.declared.fault.TraceKind.TheVariants.{CutLine}
use Rattle.gufi_line.specs.declared.fault.TraceError.{TraceError}
use Rattle.gufi_line.specs.declared.fault.TraceError.TheVariants.{Fault, Memory}
use Rattle.gufi_line.specs.LineText.{fault_at, read_lines, root_of, fault_text}

-- the parts before each newline, and what follows the last
abbrev pub whole_lines : List ℕ → List (List ℕ)
whole_lines bytes = all_but_last (split 10 bytes)

abbrev pub cut_line : List ℕ → List ℕ
cut_line bytes = last_of [] (split 10 bytes)

-- the lines of the bytes that have come so far, but for one that is still open
abbrev pub lines_so_far : ℕ → List ℕ → Result (List Line) TraceError
lines_so_far delim bytes = read_lines delim (root_of delim (whole_lines bytes)) [] (whole_lines bytes)

-- the lines of all bytes
unfoldable pub trace_lines : ℕ → List ℕ → Result (List Line) TraceError
trace_lines delim bytes = do
  lines ← lines_so_far delim bytes
  refuse (not (is_empty (cut_line bytes))) (fault_at (length lines + 1) CutLine)
  Ok lines

-- what may be wrong with a trace: a line's fault, or the tree's
pub data TraceFailure : Type 0 where
  of_line : TraceError → TraceFailure
  of_tree : TreeFault → TraceFailure

unfoldable pub trace_means : ℕ → List ℕ → Result (List Directory) TraceFailure
trace_means delim bytes = do
  lines ← result_map_err of_line (trace_lines delim bytes)
  result_map_err of_tree (tree_of lines)

-- a failure as it is printed: its line and its kind
abbrev pub failure_text : TraceFailure → List ℕ
failure_text (of_line (Fault fault)) = fault_text fault
failure_text (of_line Memory) = []
failure_text (of_tree trees.NoRoot) = codes "0 NoRoot"
failure_text (of_tree (trees.Duplicate line)) = decimal line ++ codes " Duplicate"
failure_text (of_tree (trees.Orphan line)) = decimal line ++ codes " Orphan"
failure_text (of_tree trees.Memory) = []
