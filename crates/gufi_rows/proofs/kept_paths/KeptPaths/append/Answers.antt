use Rattle.std.proofs.Common.{◌≡◌, ◌∙◌, ◌++◌, length, take, sym, ap, subst}
use Rattle.std.specs.Prelude.{All, map}
use Rattle.gufi_rows.specs.PathLists.{AreSpots, SpotFitsBehind, paths_in, spot_behind}
use Rattle.gufi_rows.proofs.Behind.{AreSpots-append, paths_in-append, spots_fit}
use Rattle.gufi_rows.proofs.PathLists.{AreSpots-grows, paths_in-grows, OnErr-always}
use Rattle.gufi_rows.proofs.kept_paths.KeptPaths.append.Goals as goal

pub invariant_of-self-in_err-by : goal.invariant_of-self-in_err-by
invariant_of-self-in_err-by c = AreSpots-grows _ _ _ c.put_text.ensures.grown c.self.invariant

pub returns-in_err-by-clause-unchanged : goal.returns-in_err-by-clause-unchanged
returns-in_err-by-clause-unchanged c = OnErr-always _ _ (paths_in-grows _ _ _ c.put_text.ensures.grown c.self.invariant.each ∙ c.self.view_is)

pub put_spots-requires : goal.put_spots-requires
put_spots-requires c =
    subst (All (SpotFitsBehind c.in_ok-by.by)) (sym c.as_slice-2.ensures.value)
    (spots_fit c.self.inside.text.items c.other.inside.text.items c.put_text.new.text.items c.other.inside.spots.items c.in_ok-by.by c.in_ok-by.ensures.place
    (c.in_ok-by.ensures.put ∙ ap (λ t. c.self.inside.text.items ++ t) c.as_slice.ensures.value) c.in_ok-by.ensures.room c.other.invariant.each)

pub invariant_of-self-in-Ok : goal.invariant_of-self-in-Ok
invariant_of-self-in-Ok c =
    let text = c.self.inside.text.items in
    let more = c.other.inside.text.items in
    let spots = c.self.inside.spots.items in
    let others = c.other.inside.spots.items in
    let whole : c.put_text.new.text.items ≡ text ++ more = c.in_ok-by.ensures.put ∙ ap (λ t. text ++ t) c.as_slice.ensures.value in
    let all : c.put_spots.new.spots.items ≡ spots ++ map (spot_behind (length text)) others =
    c.in-Ok.ensures.put ∙ ap (λ l. spots ++ map (spot_behind c.in_ok-by.by) l) c.as_slice-2.ensures.value ∙ ap (λ n. spots ++ map (spot_behind n) others) c.in_ok-by.ensures.place in
    subst (λ t. AreSpots t c.put_spots.new.spots.items) (sym whole) (subst (AreSpots (text ++ more)) (sym all) (AreSpots-append text more spots others c.self.invariant c.other.invariant))

pub returns-in-Ok-clause-appended : goal.returns-in-Ok-clause-appended
returns-in-Ok-clause-appended c =
    let text = c.self.inside.text.items in
    let more = c.other.inside.text.items in
    let spots = c.self.inside.spots.items in
    let others = c.other.inside.spots.items in
    let whole : c.put_text.new.text.items ≡ text ++ more = c.in_ok-by.ensures.put ∙ ap (λ t. text ++ t) c.as_slice.ensures.value in
    let all : c.put_spots.new.spots.items ≡ spots ++ map (spot_behind (length text)) others =
    c.in-Ok.ensures.put ∙ ap (λ l. spots ++ map (spot_behind c.in_ok-by.by) l) c.as_slice-2.ensures.value ∙ ap (λ n. spots ++ map (spot_behind n) others) c.in_ok-by.ensures.place in
    ap (λ t. paths_in t c.put_spots.new.spots.items) whole ∙ ap (paths_in (text ++ more)) all
    ∙ paths_in-append text more spots others c.self.invariant c.other.invariant
    ∙ ap (λ ps. ps ++ paths_in more others) c.self.view_is ∙ ap (λ ps. c.args.self.now ++ ps) c.other.view_is

pub invariant_of-self-in-Err : goal.invariant_of-self-in-Err
invariant_of-self-in-Err c =
    let back : c.truncate.new.self.items ≡ c.self.inside.spots.items = c.truncate.ensures.items ∙ ap (λ n. take n c.put_spots.new.spots.items) (c.len-count.ensures ∙ c.self.inside.spots.ok.0) ∙ c.in-Err.ensures.begun in
    subst (AreSpots c.put_text.new.text.items) (sym back) (AreSpots-grows _ _ _ c.put_text.ensures.grown c.self.invariant)

pub returns-clause-unchanged : goal.returns-clause-unchanged
returns-clause-unchanged c =
    let back : c.truncate.new.self.items ≡ c.self.inside.spots.items = c.truncate.ensures.items ∙ ap (λ n. take n c.put_spots.new.spots.items) (c.len-count.ensures ∙ c.self.inside.spots.ok.0) ∙ c.in-Err.ensures.begun in
    ap (paths_in c.put_text.new.text.items) back ∙ paths_in-grows _ _ _ c.put_text.ensures.grown c.self.invariant.each ∙ c.self.view_is
