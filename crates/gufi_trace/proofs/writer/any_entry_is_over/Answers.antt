use Rattle.std.proofs.Common.{sym, ◌∙◌, arith}
use Rattle.gufi_trace.proofs.Checks.{entry_over, any_of, none_of, none_all}
use Rattle.gufi_trace.proofs.writer.any_entry_is_over.Goals as goal

pub returns-then-entry_is_over : goal.returns-then-entry_is_over
returns-then-entry_is_over c = sym (any_of (entry_over c.args.names c.args.bytes) c.args.entries.now c.loop-place.place c.at.result c.at.ensures (omega arith) (sym c.entry_is_over.ensures ∙ c.if-entry_is_over.true))

pub loop-place-preserved : goal.loop-place-preserved
loop-place-preserved c = none_of (entry_over c.args.names c.args.bytes) c.args.entries.now c.loop-place.place c.at.result c.at.ensures (omega arith) c.loop-place.invariant (sym c.entry_is_over.ensures ∙ c.if-entry_is_over.false)

pub returns : goal.returns
returns c = sym (none_all (entry_over c.args.names c.args.bytes) c.args.entries.now c.loop-place.place (omega arith) c.loop-place.invariant)
