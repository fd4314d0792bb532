use Rattle.std.proofs.Common.{◌∙◌, ap, Result}
use Rattle.std.proofs.lemmas.Result.{err_from_is_err_and}
use Rattle.gufi_base.specs.Basics.{◌>>=◌}
use Rattle.gufi_image.specs.declared.fault.Flaw.{Flaw}
use Rattle.gufi_image.specs.Reading.{Flags, rolled}
use Rattle.gufi_image.proofs.Repeats.{refuses_then}
use Rattle.gufi_image.proofs.ImagePieces.{unfinished, finished}
use Rattle.gufi_image.proofs.reader.finish_with.Goals as goal

pub returns-in_err-take_directories : goal.returns-in_err-take_directories
returns-in_err-take_directories c =
    let p = err_from_is_err_and c.from_residual.result c.from_residual.ensures.1 in
    rw (p.1, p.2) (unfinished c.args.room c.in_err-take_directories.field-0.0 c.args.progress c.take_directories.new.self c.args.bytes.now c.take_directories.new.rest.now c.in_err-take_directories.ensures.same c.in_err-take_directories.ensures.halts)

pub returns-in_err-parts : goal.returns-in_err-parts
returns-in_err-parts c =
    let p = err_from_is_err_and c.from_residual-in_err-parts.result c.from_residual-in_err-parts.ensures.1 in
    let t = c.in_ok-take_directories.ensures in
    rw (p.1, p.2, finished c.args.room c.args.progress c.take_directories.new.self c.args.bytes.now c.take_directories.new.rest.now t.same t.head t.read t.whole) (refuses_then c.in_err-parts.field-0.0 _ rolled c.in_err-parts.ensures.gives)

pub returns : goal.returns
returns c =
    let t = c.in_ok-take_directories.ensures in
    rw (finished c.args.room c.args.progress c.take_directories.new.self c.args.bytes.now c.take_directories.new.rest.now t.same t.head t.read t.whole ∙ ap (λ (r : Result Flags Flaw). r >>= rolled) c.in_ok-parts.ensures.gives) c.roll.ensures
