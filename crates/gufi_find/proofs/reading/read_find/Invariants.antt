use Rattle.std.proofs.Common.{◌≡◌}
use Rattle.gufi_find.specs.States.{state_kept}
use Rattle.gufi_find.proofs.ReadLemmas.{Led}
use Rattle.gufi_find.proofs.reading.read_find.Given as goal

abbrev pub invariant-words : goal.invariant-words
invariant-words l = record {
  led : Led l.words l.users l.now l.place (state_kept l.state);
  place : l.place ≡ l.word-index;
}
