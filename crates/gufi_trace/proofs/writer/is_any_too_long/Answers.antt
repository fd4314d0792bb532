use Rattle.std.proofs.Common.{◌++◌, sym, ◌∙◌, arith}
use Rattle.gufi_base.specs.declared.record.Row.{Row}
use Rattle.gufi_base.specs.Paths.{is_too_long}
use Rattle.gufi_trace.specs.Writing.{own_too_long}
use Rattle.gufi_trace.proofs.Checks.{any_rows, any_here, none_more, none_all}
use Rattle.gufi_trace.proofs.writer.is_any_too_long.Goals as goal

pub returns-then-directory_is_too_long : goal.returns-then-directory_is_too_long
returns-then-directory_is_too_long c =
    sym (any_rows (λ (row : Row). is_too_long (c.args.root.now ++ row.path)) c.args.tree.now
    ∙ any_here c.args.tree.now c.loop-number.number c.path.result c.rec.result c.entries.result c.path.ensures c.rec.ensures c.entries.ensures.value (omega arith) (own_too_long c.args.root.now)
    (sym c.directory_is_too_long.ensures ∙ c.if-directory_is_too_long.true))

pub loop-number-preserved : goal.loop-number-preserved
loop-number-preserved c =
    none_more c.args.tree.now c.loop-number.number c.path.result c.rec.result c.entries.result c.path.ensures c.rec.ensures c.entries.ensures.value (omega arith) (own_too_long c.args.root.now) c.loop-number.invariant
    (sym c.directory_is_too_long.ensures ∙ c.if-directory_is_too_long.false)

pub returns : goal.returns
returns c =
    sym (any_rows (λ (row : Row). is_too_long (c.args.root.now ++ row.path)) c.args.tree.now ∙ none_all (own_too_long c.args.root.now) c.args.tree.now c.loop-number.number (omega arith) c.loop-number.invariant)
