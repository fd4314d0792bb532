use Rattle.std.proofs.Common.{refl}
use Rattle.std.proofs.lemmas.Result.{err_from_is_err_and}
use Rattle.gufi_image.proofs.ImagePieces.{head_had, head_refused}
use Rattle.gufi_image.proofs.reader.begin.Goals as goal

pub returns-clause-head : goal.returns-clause-head
returns-clause-head c = rw c.new.ensures.head (head_had c.args.room c.args.rest.now.now c.in_ok-head.after.now c.in_ok-head.head _ c.in_ok-head.ensures.gives refl)

pub returns-in_err-head-clause-halts : goal.returns-in_err-head-clause-halts
returns-in_err-head-clause-halts c =
    let p = err_from_is_err_and c.from_residual.result c.from_residual.ensures.1 in
    rw (p.1, p.2) (head_refused c.args.rest.now.now c.in_err-head.field-0.0 c.in_err-head.ensures.gives)
