use Rattle.std.proofs.Common.{◌≡◌, ◌++◌, map}
use Rattle.gufi_phases.proofs.phase.lanes_behind.Given as goal

abbrev pub invariant-loop-row : goal.invariant-loop-row
invariant-loop-row l = record {
  can : (goal.iterator-loop-row).can_next l.row-iterator;
  finite : (goal.iterator-loop-row).is_finite l.row-iterator;
  parts : l.fn.rows.items ≡ l.yielded ++ l.row-iterator.rest.items;
  taken : l.lanes.items ≡ map (λ row. row.lane) l.yielded;
  idle : l.idle ≡ l.initial.idle;
}
