-- The trace of a tree: one stanza for each directory, in path order.
use Rattle.std.specs.Prelude.{◌≡◌, IsTrue, not, ℕ, ◌||◌, List, ◌++◌, Result, Ok}
use Rattle.std.specs.List.{flat_map, list_any, list_all}
use Rattle.gufi_base.specs.Paths.{Components, is_too_long}
use Rattle.gufi_line.specs.TraceRows.{row_line, holds_byte, row_holds}
use Rattle.gufi_base.specs.Basics.{◌>>◌, refuse}
use Rattle.gufi_tree.specs.Tree.{is_too_large}
use Rattle.gufi_base.specs.Delimiters.{may_delimit}
use Rattle.gufi_base.specs.Names.{is_name}
use Rattle.gufi_trace.specs.declared.writer.WriteTraceFault.{WriteTraceFault}
use Rattle.gufi_trace.specs.declared.writer.WriteTraceFault.TheVariants.{DelimUsed, TooLong}
use Rattle.gufi_tree.specs.Tree.{Directory, own_rows, is_program_tree}
use Rattle.gufi_trace.specs.TraceText.{trace_means}

abbrev pub trace_text : List Directory → Components → ℕ → List ℕ
trace_text tree root delim = flat_map (λ dir. flat_map (row_line delim root) (own_rows dir)) tree

abbrev pub written_trace : List Directory → Components → ℕ → Result (List ℕ) WriteTraceFault
written_trace tree root delim =
    refuse (list_any (holds_byte delim) root || list_any (row_holds delim) (flat_map own_rows tree)) DelimUsed
    >> refuse (list_any (λ row. is_too_long (root ++ row.path)) (flat_map own_rows tree)) TooLong
    >> Ok (trace_text tree root delim)

-- What is written is read again to the same tree. A public function's contract has to name this.
abbrev pub TraceReadsBack : Type 0
TraceReadsBack = (tree : List Directory) (root : Components) (delim : ℕ) (text : List ℕ)
    → IsTrue (is_program_tree tree) → IsTrue (not (is_too_large tree)) → IsTrue (list_all is_name root) → IsTrue (may_delimit delim)
    → written_trace tree root delim ≡ Ok text → trace_means delim text ≡ Ok tree
