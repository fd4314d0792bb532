use Rattle.std.proofs.Common.{◌∙◌, ◌≤◌, [], length, sym, ap, subst}
use Rattle.std.specs.Prelude.{All}
use Rattle.gufi_rows.specs.declared.stretch.Stretch.{Stretch}
use Rattle.gufi_rows.specs.PathLists.{picked}
use Rattle.gufi_rows.specs.PathPlaces.{Ascend, places_of}
use Rattle.gufi_rows.proofs.Arranged.{AreSpots-arranged, no_spot, paths_in-arranged}
use Rattle.gufi_rows.proofs.kept_paths.KeptPaths.arrange.Goals as goal

pub invariant_of-self : goal.invariant_of-self
invariant_of-self c =
    let places = places_of c.args.stretches.now in
    AreSpots-arranged c.self.inside.text.items c.self.inside.spots.items _ _ c.args.stretches.now (subst (λ ps. All (λ (s : Stretch). s.end ≤ length ps) c.args.stretches.now) (sym c.self.view_is) c.requires.within)
    (c.in_ok-spots.ensures no_spot ∙ ap (λ l. picked l no_spot places) c.as_slice.ensures.value) c.mark.ensures c.self.invariant (subst (λ ps. Ascend (picked ps [] places)) (sym c.self.view_is) c.requires.ascend)

pub returns-clause-arranged : goal.returns-clause-arranged
returns-clause-arranged c =
    let places = places_of c.args.stretches.now in
    paths_in-arranged c.self.inside.text.items c.self.inside.spots.items _ _ c.args.stretches.now (subst (λ ps. All (λ (s : Stretch). s.end ≤ length ps) c.args.stretches.now) (sym c.self.view_is) c.requires.within)
    (c.in_ok-spots.ensures no_spot ∙ ap (λ l. picked l no_spot places) c.as_slice.ensures.value) c.mark.ensures ∙ ap (λ ps. picked ps [] places) c.self.view_is
