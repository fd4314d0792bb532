use Rattle.std.proofs.Common.{sym, ◌∙◌, arith}
use Rattle.gufi_image.proofs.ImagePieces.{in_place}
use Rattle.gufi_image.proofs.reader.take_behind.Goals as goal

pub returns-clause-same : goal.returns-clause-same
returns-clause-same c =
    rw (sym (in_place c.args.piece.now c.args.kept.now.items c.as_slice.result.now c.args.taken c.len.result c.requires.taken c.as_slice.ensures.value (omega (arith, c.args.kept.now.ok.0)) (sym c.ends_with.ensures.value ∙ c.if-not-ends_with.false)))
    c.take_bytes.ensures.same

pub returns-clause-err : goal.returns-clause-err
returns-clause-err c =
    rw (sym (in_place c.args.piece.now c.args.kept.now.items c.as_slice.result.now c.args.taken c.len.result c.requires.taken c.as_slice.ensures.value (omega (arith, c.args.kept.now.ok.0)) (sym c.ends_with.ensures.value ∙ c.if-not-ends_with.false)))
    c.take_bytes.ensures.err
