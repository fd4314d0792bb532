use Rattle.std.proofs.Common.{◌≡◌, ◌∙◌, ◌++◌, sym, ap, subst, refl, arith}
use Rattle.std.proofs.lemmas.List.{append-nil}
use Rattle.gufi_rows.specs.PathPlaces.{places_between}
use Rattle.gufi_rows.proofs.Stretches.{place_more, places-none}
use Rattle.gufi_rows.proofs.ordered.put_stretch.Goals as goal

pub loop-place-init : goal.loop-place-init
loop-place-init c =
    let places = c.args.places.now.items in
    sym (ap (λ ks. places ++ ks) (places-none c.args.stretch.from) ∙ append-nil places)

pub loop-place-preserved : goal.loop-place-preserved
loop-place-preserved c =
    place_more (λ ks. ks) (λ ks ls. refl) c.args.stretch.from c.loop-place.place c.args.places.now.items c.loop-place.places.items c.push.new.self.items (omega arith) c.loop-place.invariant
    c.in_ok-push.ensures.items

pub returns : goal.returns
returns c =
    let all : c.loop-place.place ≡ c.args.stretch.end = omega (arith, c.args.stretch.some) in
    subst (λ k. c.loop-place.places.items ≡ c.args.places.now.items ++ places_between c.args.stretch.from k) all c.loop-place.invariant
