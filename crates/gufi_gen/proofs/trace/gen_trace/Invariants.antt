use Rattle.std.proofs.Common.{◌≡◌}
use Rattle.gufi_gen.specs.Generated.{gen_text}
use Rattle.gufi_gen.proofs.trace.gen_trace.Given as goal

abbrev pub invariant-loop-number : goal.invariant-loop-number
invariant-loop-number l = l.text.items ≡ gen_text l.number l.delim
