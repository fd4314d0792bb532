use Rattle.std.proofs.Common.{◌∙◌, [], ◌∷◌, ◌++◌, ap, subst}
use Rattle.std.proofs.lemmas.List.{map-append}
use Rattle.gufi_rows.specs.PathLists.{IsLast, path_in, paths_in}
use Rattle.gufi_rows.proofs.PathLists.{AreSpots-grows, AreSpots-push, paths_in-grows, OnErr-always}
use Rattle.gufi_rows.proofs.kept_paths.KeptPaths.push.Goals as goal

pub invariant_of-self : goal.invariant_of-self
invariant_of-self c = AreSpots-grows _ _ _ c.keep.ensures.grown c.self.invariant

pub returns-in_err-spot-clause-unchanged : goal.returns-in_err-spot-clause-unchanged
returns-in_err-spot-clause-unchanged c = OnErr-always _ _ (paths_in-grows _ _ _ c.keep.ensures.grown c.self.invariant.each ∙ c.self.view_is)

pub invariant_of-self-in_err-push : goal.invariant_of-self-in_err-push
invariant_of-self-in_err-push c = rw c.in_err-push.ensures.items (AreSpots-grows _ _ _ c.keep.ensures.grown c.self.invariant)

pub returns-in_err-push-clause-unchanged : goal.returns-in_err-push-clause-unchanged
returns-in_err-push-clause-unchanged c =
    OnErr-always _ _ (ap (paths_in c.keep.new.text.items) c.in_err-push.ensures.items ∙ paths_in-grows _ _ _ c.keep.ensures.grown c.self.invariant.each ∙ c.self.view_is)

pub invariant_of-self-2 : goal.invariant_of-self-2
invariant_of-self-2 c =
    let text = c.keep.new.text.items in
    let spots = c.self.inside.spots.items in
    let path = c.requires.0 in
    let parts = c.requires.1 in
    rw c.in_ok-push.ensures.items
    (AreSpots-push text spots c.last_of-last.result c.in_ok-spot.spot c.args.parts.stem.now c.args.parts.base.now path
    (subst (λ l. IsLast l c.last_of-last.result) c.as_slice.ensures.value c.last_of-last.ensures)
    (AreSpots-grows _ _ _ c.keep.ensures.grown c.self.invariant) (c.in_ok-spot.ensures.kept path parts) parts c.in_ok-spot.ensures.follows)

pub returns-clause-pushed : goal.returns-clause-pushed
returns-clause-pushed c = λ path parts.
    let text = c.keep.new.text.items in
    let spots = c.self.inside.spots.items in
    ap (paths_in text) c.in_ok-push.ensures.items ∙ map-append (path_in text) spots (c.in_ok-spot.spot ∷ [])
    ∙ ap (λ l. l ++ path_in text c.in_ok-spot.spot ∷ []) (paths_in-grows _ _ _ c.keep.ensures.grown c.self.invariant.each ∙ c.self.view_is)
    ∙ ap (λ p. c.args.self.now ++ p ∷ []) (c.in_ok-spot.ensures.kept path parts).1
