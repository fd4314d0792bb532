use Rattle.std.proofs.Common.{◌≡◌, ◌++◌, map, take, drop}
use Rattle.gufi_tree.specs.Tree.{entry_row}
use Rattle.gufi_tree.specs.StanzaLines.{zip_lines}
use Rattle.gufi_tree.proofs.stanzas.push_entry_lines.Given as goal

abbrev pub invariant-loop-place : goal.invariant-loop-place
invariant-loop-place l = l.lines.items ≡ l.fn.lines.items ++ zip_lines (drop l.at l.places) (map (entry_row l.path) (take l.place l.entries))
