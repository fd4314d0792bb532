use Rattle.std.proofs.Common.{length}
use Rattle.gufi_agg.proofs.TokenSteps.{Led}
use Rattle.gufi_agg.proofs.placed.tokens_of.Given as goal

abbrev pub invariant-bytes : goal.invariant-bytes
invariant-bytes l = Led l.text l.placed.items l.rest

abbrev pub decreases-bytes : goal.decreases-bytes
decreases-bytes l = length l.rest
