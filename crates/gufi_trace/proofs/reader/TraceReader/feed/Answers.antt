use Rattle.std.proofs.Common.{◌++◌, refl, sym, ap, subst, ◌∙◌}
use Rattle.gufi_trace.specs.Reader.{Reading, HasRead, is_open, answer_so_far}
use Rattle.gufi_trace.specs.contracts.reader.TraceReader.{the_view}
use Rattle.gufi_base.proofs.Cuts.{last_has_no}
use Rattle.gufi_trace.proofs.Feeds.{feed_again, feed_ok, feed_err, answered_err, answered_ok}
use Rattle.gufi_trace.proofs.reader.TraceReader.feed.Goals as goal

pub returns-in-Some-clause-read : goal.returns-in-Some-clause-read
returns-in-Some-clause-read c = feed_again c.args.self.now c.args.piece.now c.in-Some.error (ap (λ (r : Reading). r.failed) (sym c.self.view_is) ∙ c.in-Some.is)

pub invariant_of-self : goal.invariant_of-self
invariant_of-self c = ap is_open c.in-Ok.ensures.rest ∙ last_has_no 10 (c.self.inside.rest.items ++ c.args.piece.now)

pub returns-in-Ok-clause-read : goal.returns-in-Ok-clause-read
returns-in-Ok-clause-read c = λ stream h.
    feed_ok (the_view c.self.inside) _ c.args.piece.now c.in_default.is c.in_default.is refl c.in-Ok.ensures.lines c.in-Ok.ensures.rest stream (subst (λ (r : Reading). HasRead r stream) (sym c.self.view_is) h)

pub returns-in-Err-clause-read : goal.returns-in-Err-clause-read
returns-in-Err-clause-read c = λ stream h.
    feed_err (the_view c.self.inside) _ c.args.piece.now c.in-Err.error c.in_default.is refl refl c.in-Err.ensures.err stream (subst (λ (r : Reading). HasRead r stream) (sym c.self.view_is) h)

pub returns-in-Some-clause-so_far : goal.returns-in-Some-clause-so_far
returns-in-Some-clause-so_far c = λ stream h.
    answered_err c.args.self.now c.in-Some.error (stream ++ c.args.piece.now) (ap (λ (r : Reading). r.failed) (sym c.self.view_is) ∙ c.in-Some.is) (returns-in-Some-clause-read c stream h)

pub returns-in-Ok-clause-so_far : goal.returns-in-Ok-clause-so_far
returns-in-Ok-clause-so_far c = λ stream h.
    ap (λ (r : Reading). answer_so_far r.delim (stream ++ c.args.piece.now)) (sym c.self.view_is) ∙ answered_ok _ (stream ++ c.args.piece.now) c.in_default.is (returns-in-Ok-clause-read c stream h)

pub returns-in-Err-clause-so_far : goal.returns-in-Err-clause-so_far
returns-in-Err-clause-so_far c = λ stream h other.
    ap (λ (r : Reading). answer_so_far r.delim (stream ++ c.args.piece.now)) (sym c.self.view_is) ∙ answered_err _ c.in-Err.error (stream ++ c.args.piece.now) refl (returns-in-Err-clause-read c stream h) other
