use Rattle.std.proofs.Common.{sym, ◌∙◌, arith}
use Rattle.std.proofs.lemmas.Bool.{eqb-true}
use Rattle.gufi_image.proofs.ImagePieces.{none_kept, same_piece, fails_piece, fails_first}
use Rattle.gufi_image.proofs.reader.take_piece.Goals as goal

pub returns-then-is_empty-clause-same : goal.returns-then-is_empty-clause-same
returns-then-is_empty-clause-same c =
    let len = eqb-true _ _ (sym c.is_empty.ensures ∙ c.if-is_empty.true) in
    rw (none_kept c.args.kept.now.items (omega (arith, len, c.args.kept.now.ok.0))) c.take_bytes.ensures.same

pub returns-in-Ok-clause-same : goal.returns-in-Ok-clause-same
returns-in-Ok-clause-same c =
    same_piece c.args.room c.args.progress.now c.take_joined-2.new.progress c.args.kept.now.items c.split_at.result.0.now c.split_at.result.1.now c.args.piece.now c.take_joined-2.new.kept.items c.split_at.ensures.by_index.0 c.in-Ok.ensures.same
    c.take_behind.result c.take_behind.new.progress c.take_behind.new.kept.items (rw c.split_at.ensures.back c.take_behind.ensures.same)

pub returns-in-Ok-clause-err : goal.returns-in-Ok-clause-err
returns-in-Ok-clause-err c =
    fails_piece c.args.room c.args.progress.now c.take_joined-2.new.progress c.args.kept.now.items c.split_at.result.0.now c.split_at.result.1.now c.args.piece.now c.take_joined-2.new.kept.items c.split_at.ensures.by_index.0 c.in-Ok.ensures.same
    c.take_behind.result (rw c.split_at.ensures.back c.take_behind.ensures.err)

pub returns-in-Err-clause-err : goal.returns-in-Err-clause-err
returns-in-Err-clause-err c =
    fails_first c.args.room c.args.progress.now c.take_joined-2.new.progress c.args.kept.now.items c.split_at.result.0.now c.split_at.result.1.now c.args.piece.now c.take_joined-2.new.kept.items c.split_at.ensures.by_index.0 c.in-Err.error c.in-Err.ensures.err
