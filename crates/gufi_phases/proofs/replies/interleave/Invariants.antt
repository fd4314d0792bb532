use Rattle.std.proofs.Common.{◌≤◌, take}
use Rattle.gufi_phases.specs.Lanes.{IsTold, joined}
use Rattle.gufi_phases.proofs.replies.interleave.Given as goal

abbrev pub invariant-loop-at : goal.invariant-loop-at
invariant-loop-at g l = record {
  few : l.hits ≤ l.at;
  mixed : IsTold l.rows l.lines (take l.at l.acts) l.numbers.items l.hits (joined l.parts.items);
}
