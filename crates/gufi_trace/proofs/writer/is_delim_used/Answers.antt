use Rattle.std.proofs.Common.{sym, ◌∙◌, arith}
use Rattle.gufi_line.specs.TraceRows.{row_holds}
use Rattle.gufi_trace.specs.Writing.{own_holds}
use Rattle.gufi_trace.proofs.Checks.{any_rows, any_here, none_more, none_all}
use Rattle.gufi_trace.proofs.writer.is_delim_used.Goals as goal

pub returns-then-directory_holds : goal.returns-then-directory_holds
returns-then-directory_holds c =
    sym (any_rows (row_holds c.args.delim) c.args.tree.now
    ∙ any_here c.args.tree.now c.loop-number.number c.path.result c.rec.result c.entries.result c.path.ensures c.rec.ensures c.entries.ensures.value (omega arith) (own_holds c.args.delim) (sym c.directory_holds.ensures ∙ c.if-directory_holds.true))

pub loop-number-preserved : goal.loop-number-preserved
loop-number-preserved c =
    none_more c.args.tree.now c.loop-number.number c.path.result c.rec.result c.entries.result c.path.ensures c.rec.ensures c.entries.ensures.value (omega arith) (own_holds c.args.delim) c.loop-number.invariant (sym c.directory_holds.ensures ∙ c.if-directory_holds.false)

pub returns : goal.returns
returns c = sym (any_rows (row_holds c.args.delim) c.args.tree.now ∙ none_all (own_holds c.args.delim) c.args.tree.now c.loop-number.number (omega arith) c.loop-number.invariant)
