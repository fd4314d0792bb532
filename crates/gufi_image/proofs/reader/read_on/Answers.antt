use Rattle.std.proofs.Common.{◌++◌, ◌-◌, length, ◌∙◌, ap, sym, arith}
use Rattle.std.specs.Prelude.{Option}
use Rattle.std.proofs.lemmas.Result.{err_from_is_err_and}
use Rattle.gufi_image.specs.declared.progress.Progress.{Progress}
use Rattle.gufi_image.specs.Pieces.{resume}
use Rattle.gufi_image.proofs.DirectoryLoop.{unless_map, refusal_map}
use Rattle.gufi_image.proofs.ImagePieces.{begun, unbegun_stops}
use Rattle.gufi_image.proofs.reader.read_on.Goals as goal

pub returns-in_err-begun-in-None-clause-halts : goal.returns-in_err-begun-in-None-clause-halts
returns-in_err-begun-in-None-clause-halts c =
    let p = err_from_is_err_and c.from_residual.result c.from_residual.ensures.1 in
    rw (p.1, p.2, c.in_err-begun-in-None.ensures.rest) (refusal_map c.in_err-begun-in-None.field-0.0 _ _ (λ f stops more within only.
    let bytes = c.args.rest.now.now ++ more in
    ap (λ (o : Option Progress). resume (c.args.room - length more) o bytes) c.take.ensures.after ∙ unbegun_stops f bytes more (stops more (λ short. absurd (omega (arith, c.if-rest-lt-MARK.false, short)))) only) c.in_err-begun-in-None.ensures.halts)

pub returns-in_ok-begun-in-None-clause-same : goal.returns-in_ok-begun-in-None-clause-same
returns-in_ok-begun-in-None-clause-same c =
    unless_map c.read_behind-in-None.result _ _ (λ same more within.
    let k = c.args.room - length more in
    let bytes = c.args.rest.now.now ++ more in
    let b = c.in_ok-begun-in-None in
    ap (λ (o : Option Progress). resume k o bytes) (sym c.take.ensures.value ∙ c.in-None.is)
    ∙ begun k b.begun bytes (c.begin.new.rest.now ++ more) b.ensures.none (b.ensures.head more within (λ short. absurd (omega (arith, c.if-rest-lt-MARK.false, short))))
    ∙ same more within) c.read_behind-in-None.ensures.same
