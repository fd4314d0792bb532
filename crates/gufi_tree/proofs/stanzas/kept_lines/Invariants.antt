use Rattle.std.proofs.Common.{◌≡◌, length, take}
use Rattle.std.specs.List.{flat_map}
use Rattle.gufi_tree.specs.Tree.{own_rows}
use Rattle.gufi_tree.specs.StanzaLines.{zip_lines}
use Rattle.gufi_tree.proofs.stanzas.kept_lines.Given as goal

abbrev pub invariant-loop-place : goal.invariant-loop-place
invariant-loop-place l = record {
  at : l.at ≡ length (flat_map own_rows (take l.place l.dirs));
  lines : l.lines.items ≡ zip_lines l.places (flat_map own_rows (take l.place l.dirs));
}
