use Rattle.std.proofs.Common.{◌≡◌, ◌+◌, ◌≤◌}
use Rattle.gufi_script.specs.ScriptText.{read_script, read_script_lines}
use Rattle.gufi_script.proofs.reader.read_script.Given as goal

abbrev pub invariant-lines : goal.invariant-lines
invariant-lines l = record {
  acts : read_script l.fn.bytes ≡ read_script_lines (l.number + 1) l.acts.placed.items l.text-iterator;
  number : l.number ≤ 4096;
}
