use Rattle.std.proofs.Common.{◌≡◌, ℕ, List, ◌++◌, ◌∷◌, length}
use Rattle.gufi_base.specs.Basics.{all_but_last, last_of}
use Rattle.gufi_trace.specs.TraceText.{whole_lines, cut_line}
use Rattle.gufi_line.specs.Progress.{lines_from}
use Rattle.gufi_trace.proofs.reader.take_piece.Given as goal

abbrev pub invariant-lines : goal.invariant-lines
invariant-lines l = record {
  lines : (more : List (List ℕ)) → lines_from l.delim l.fn.progress (whole_lines (l.fn.rest.items ++ l.piece) ++ more) ≡ lines_from l.delim l.progress (all_but_last ((l.rest.items ++ l.last) ∷ l.parts) ++ more);
  rest : cut_line (l.fn.rest.items ++ l.piece) ≡ last_of (l.rest.items ++ l.last) l.parts;
}

abbrev pub decreases-lines : goal.decreases-lines
decreases-lines l = length l.parts
