use Rattle.std.proofs.Common.{refl, sym, subst}
use Rattle.gufi_image.specs.Reader.{Reading, HasRead}
use Rattle.gufi_image.specs.contracts.reader.ImageReader.{the_view}
use Rattle.gufi_image.proofs.ImagePieces.{fed, failed}
use Rattle.gufi_image.proofs.reader.ImageReader.feed.Goals as goal

pub returns-in-Err : goal.returns-in-Err
returns-in-Err c = λ bytes h.
    failed (the_view c.self.inside) _ c.args.piece.now c.in-Err.error c.in_default.is refl c.saturating_sub-room.ensures c.in-Err.ensures.err bytes (subst (λ (x : Reading). HasRead x bytes) (sym c.self.view_is) h)

pub returns-in_default-taken : goal.returns-in_default-taken
returns-in_default-taken c = λ bytes h.
    fed (the_view c.self.inside) _ c.args.piece.now c.in_default.is c.in_default.is c.saturating_sub-room.ensures c.in_default-taken.ensures.same bytes (subst (λ (x : Reading). HasRead x bytes) (sym c.self.view_is) h)
