use Rattle.std.proofs.Common.{refl}
use Rattle.std.proofs.lemmas.Result.{err_from_is_err_and}
use Rattle.gufi_image.proofs.DirectoryLoop.{heading_had, heading_refused}
use Rattle.gufi_image.proofs.progress.next_open.Goals as goal

pub returns-clause-heading : goal.returns-clause-heading
returns-clause-heading c = heading_had c.args.width c.args.total c.args.room c.args.before.now.packing.dirs c.args.rest.now.now c.in_ok-part.after.now c.in_ok-part.part _ c.in_ok-part.ensures.gives refl

pub returns-in_err-part-clause-halts : goal.returns-in_err-part-clause-halts
returns-in_err-part-clause-halts c =
    let p = err_from_is_err_and c.from_residual.result c.from_residual.ensures.1 in
    rw (p.1, p.2) (heading_refused c.args.width c.args.total c.args.before.now.packing.dirs c.args.rest.now.now c.in_err-part.field-0.0 c.in_err-part.ensures.gives)
