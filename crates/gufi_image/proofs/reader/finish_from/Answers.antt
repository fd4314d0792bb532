use Rattle.std.proofs.Common.{◌∙◌, ap}
use Rattle.std.specs.Prelude.{Option}
use Rattle.std.proofs.lemmas.Result.{err_from_is_err_and}
use Rattle.gufi_image.specs.declared.progress.Progress.{Progress}
use Rattle.gufi_image.specs.Pieces.{resume}
use Rattle.gufi_image.proofs.ImagePieces.{begun_at_end, unbegun_at_end}
use Rattle.gufi_image.proofs.reader.finish_from.Goals as goal

pub returns-in_err-begun-in-None : goal.returns-in_err-begun-in-None
returns-in_err-begun-in-None c =
    let p = err_from_is_err_and c.from_residual.result c.from_residual.ensures.1 in
    rw (p.1, p.2, c.in-None.is) (unbegun_at_end c.args.bytes.now c.in_err-begun-in-None.field-0.0 c.in_err-begun-in-None.ensures.halts)

pub returns-in_ok-begun-in-None : goal.returns-in_ok-begun-in-None
returns-in_ok-begun-in-None c =
    let b = c.in_ok-begun-in-None in
    rw (ap (λ (o : Option Progress). resume c.args.room o c.args.bytes.now) c.in-None.is ∙ begun_at_end c.args.room b.begun c.args.bytes.now c.begin.new.rest.now b.ensures.none b.ensures.head) c.finish_with-in-None.ensures
