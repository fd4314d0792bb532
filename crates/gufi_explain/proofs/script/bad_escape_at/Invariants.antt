use Rattle.std.proofs.Common.{◌≡◌, ◌+◌, length}
use Rattle.gufi_explain.specs.Scripts.{bad_escape_at}
use Rattle.gufi_explain.proofs.script.bad_escape_at.Given as goal

abbrev pub invariant-loop-rest : goal.invariant-loop-rest
invariant-loop-rest l = record {
  same : bad_escape_at l.line ≡ l.at + bad_escape_at l.rest;
  size : l.at + length l.rest ≡ length l.line;
}

abbrev pub decreases-loop-rest : goal.decreases-loop-rest
decreases-loop-rest l = length l.rest
