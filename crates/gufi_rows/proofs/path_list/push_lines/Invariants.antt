use Rattle.std.proofs.Common.{◌≡◌, ◌++◌, take}
use Rattle.gufi_rows.proofs.path_list.push_lines.Given as goal

abbrev pub invariant-loop-place : goal.invariant-loop-place
invariant-loop-place l = l.rest ≡ l.fn.rest ++ take l.place l.lines
