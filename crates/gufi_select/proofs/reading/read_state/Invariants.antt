use Rattle.std.proofs.Common.{length}
use Rattle.gufi_select.specs.States.{state_kept}
use Rattle.gufi_select.proofs.ReadLemmas.{Led}
use Rattle.gufi_select.proofs.reading.read_state.Given as goal

abbrev pub invariant-bytes : goal.invariant-bytes
invariant-bytes l = Led l.text (state_kept l.state) l.rest

abbrev pub decreases-bytes : goal.decreases-bytes
decreases-bytes l = length l.rest
