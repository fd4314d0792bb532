use Rattle.std.proofs.Common.{◌≤◌, take}
use Rattle.std.specs.Io.KnownBytes.{Appends}
use Rattle.gufi_phases.specs.Lanes.{joined}
use Rattle.gufi_phases.proofs.written.write_parts.Given as goal

abbrev pub invariant-loop-part : goal.invariant-loop-part
invariant-loop-part g l = record {
  written : Appends (g.K.Sink.taken l.initial.sink) (g.K.Sink.taken l.sink) (joined (take l.part-index l.parts));
  faults : g.K.Sink.faults l.initial.sink ≤ g.K.Sink.faults l.sink;
}
