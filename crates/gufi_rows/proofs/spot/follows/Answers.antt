use Rattle.std.proofs.Common.{refl, sym, ap, ◌∙◌, subst}
use Rattle.std.specs.Prelude.{IfSome}
use Rattle.std.specs.Ordering.{nat_cmp}
use Rattle.std.specs.Cmp.Lexicographic.{slice_cmp}
use Rattle.gufi_rows.specs.PathLists.{IsSpot, StandsBehind, bytes_in}
use Rattle.gufi_rows.proofs.Spots.{StandsBehind-stem}
use Rattle.gufi_rows.proofs.spot.follows.Goals as goal

pub returns : goal.returns
returns c = λ e.
    let text = c.args.text.now in
    subst (λ last. StandsBehind text last (bytes_in text c.args.stem) c.args.base.now) (sym c.in-Some.is)
    (StandsBehind-stem text c.in-Some.spot c.args.stem c.args.base.now (subst (λ last. IfSome last (IsSpot text)) c.in-Some.is c.requires) (c.if-not-is_same.ensures refl)
    (sym (ap (λ t. slice_cmp nat_cmp t c.args.base.now) c.bytes_at.ensures) ∙ c.comes_before.ensures e))
