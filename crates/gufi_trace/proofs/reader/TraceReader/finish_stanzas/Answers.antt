use Rattle.std.proofs.Common.{Ok, sym, ap, subst, ◌∙◌, arith}
use Rattle.std.proofs.lemmas.Bool.{eqb-true, eqb-false}
use Rattle.gufi_trace.specs.Reader.{Reading, HasRead}
use Rattle.gufi_trace.specs.contracts.reader.TraceReader.{the_view}
use Rattle.gufi_trace.specs.TraceText.{trace_lines}
use Rattle.gufi_trace.proofs.Feeds.{good_at, finish_failed, finish_whole, finish_cut}
use Rattle.gufi_trace.proofs.reader.TraceReader.finish_stanzas.Goals as goal

pub returns-in-Some-clause-lines : goal.returns-in-Some-clause-lines
returns-in-Some-clause-lines c = finish_failed c.args.self c.in-Some.error (ap (λ (r : Reading). r.failed) (sym c.self.view_is) ∙ c.in-Some.is)

pub returns-then-not-is_empty-clause-lines : goal.returns-then-not-is_empty-clause-lines
returns-then-not-is_empty-clause-lines c = λ stream h other.
    let r = the_view c.self.inside in
    let good = good_at r stream c.in_default.is (subst (λ (x : Reading). HasRead x stream) (sym c.self.view_is) h) in
    ap (λ (x : Reading). trace_lines x.delim stream) (sym c.self.view_is) ∙ finish_cut r stream good (λ e. eqb-false _ _ (sym c.is_empty.ensures ∙ c.if-not-is_empty.true) (omega (arith, e))) c.len.result c.len.ensures.is

pub returns-clause-lines : goal.returns-clause-lines
returns-clause-lines c = λ stream h.
    let r = the_view c.self.inside in
    let good = good_at r stream c.in_default.is (subst (λ (x : Reading). HasRead x stream) (sym c.self.view_is) h) in
    let whole = finish_whole r stream good (let e = eqb-true _ _ (sym c.is_empty.ensures ∙ c.if-not-is_empty.false) in omega (arith, e)) in
    ap (λ (x : Reading). trace_lines x.delim stream) (sym c.self.view_is) ∙ whole ∙ ap (λ ls. Ok ls) (sym c.into_stanzas.ensures.lines)
