use Rattle.std.proofs.Common.{true, false, sym, ◌∙◌}
use Rattle.gufi_diff.proofs.SameRecords.{same_record-parts}
use Rattle.gufi_diff.proofs.records.same_record.Goals as goal

pub returns-then-same_meta : goal.returns-then-same_meta
returns-then-same_meta c = λ one other p q.
    c.same_texts.ensures ∙ same_record-parts c.args.a c.args.b one other true (sym c.if-same_meta.true ∙ c.same_meta.ensures) p q

pub returns-else-same_meta : goal.returns-else-same_meta
returns-else-same_meta c = λ one other p q.
    c.if-same_meta.false ∙ same_record-parts c.args.a c.args.b one other false (sym c.if-same_meta.false ∙ c.same_meta.ensures) p q
