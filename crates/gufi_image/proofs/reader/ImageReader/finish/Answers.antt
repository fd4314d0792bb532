use Rattle.std.proofs.Common.{ℕ, List, Err, sym, ap, subst, ◌∙◌}
use Rattle.gufi_image.specs.Pieces.{resume}
use Rattle.gufi_image.specs.Reader.{Reading, HasRead}
use Rattle.gufi_image.specs.contracts.reader.ImageReader.{the_view}
use Rattle.gufi_image.proofs.ImagePieces.{finish_failed, finish_ok, finish_flaw}
use Rattle.gufi_image.proofs.reader.ImageReader.finish.Goals as goal

pub returns-in-Some : goal.returns-in-Some
returns-in-Some c = λ bytes h short. finish_failed c.args.self c.in-Some.error (ap (λ (r : Reading). r.failed) (sym c.self.view_is) ∙ c.in-Some.is) bytes h short

pub returns-in-Ok : goal.returns-in-Ok
returns-in-Ok c = λ bytes h short.
    let r = the_view c.self.inside in
    finish_ok r c.in-Ok.snap c.in_default.is (ap (λ (t : List ℕ). resume r.room r.progress t) (sym c.as_slice.ensures.value) ∙ c.in-Ok.ensures) bytes (subst (λ (x : Reading). HasRead x bytes) (sym c.self.view_is) h) short

pub returns : goal.returns
returns c = λ bytes h short other.
    let r = the_view c.self.inside in
    finish_flaw r c.in-Err-Flaw.flaw c.in_default.is (ap (λ (t : List ℕ). resume r.room r.progress t) (sym c.as_slice.ensures.value) ∙ (rw c.in-Err-Flaw.field-0-is at c.in-Err-Flaw.ensures)) bytes (subst (λ (x : Reading). HasRead x bytes) (sym c.self.view_is) h) short
    ∙ ap Err (sym c.fault_at.ensures)
