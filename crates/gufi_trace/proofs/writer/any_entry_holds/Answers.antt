use Rattle.std.proofs.Common.{sym, ◌∙◌, arith}
use Rattle.gufi_trace.proofs.Checks.{entry_holds, any_of, none_of, none_all}
use Rattle.gufi_trace.proofs.writer.any_entry_holds.Goals as goal

pub returns-then-entry_holds : goal.returns-then-entry_holds
returns-then-entry_holds c = sym (any_of (entry_holds c.args.delim) c.args.entries.now c.loop-place.place c.at.result c.at.ensures (omega arith) (sym c.entry_holds.ensures ∙ c.if-entry_holds.true))

pub loop-place-preserved : goal.loop-place-preserved
loop-place-preserved c = none_of (entry_holds c.args.delim) c.args.entries.now c.loop-place.place c.at.result c.at.ensures (omega arith) c.loop-place.invariant (sym c.entry_holds.ensures ∙ c.if-entry_holds.false)

pub returns : goal.returns
returns c = sym (none_all (entry_holds c.args.delim) c.args.entries.now c.loop-place.place (omega arith) c.loop-place.invariant)
