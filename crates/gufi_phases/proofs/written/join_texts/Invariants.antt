use Rattle.std.proofs.Common.{◌≡◌, take}
use Rattle.gufi_phases.specs.Lanes.{joined}
use Rattle.gufi_phases.proofs.written.join_texts.Given as goal

abbrev pub invariant-loop-part : goal.invariant-loop-part
invariant-loop-part l = l.text.items ≡ joined (take l.part-index l.parts)
