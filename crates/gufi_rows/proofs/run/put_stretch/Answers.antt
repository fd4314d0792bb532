use Rattle.std.proofs.Common.{◌≡◌, ◌∙◌, ◌++◌, [], get_or, sym, ap, subst, arith}
use Rattle.std.proofs.lemmas.List.{append-nil, map-append}
use Rattle.gufi_rows.specs.PathLists.{paths_in, picked}
use Rattle.gufi_rows.specs.PathPlaces.{places_between}
use Rattle.gufi_rows.proofs.Stretches.{place_more, places-none}
use Rattle.gufi_rows.proofs.run.put_stretch.Goals as goal

pub loop-place-init : goal.loop-place-init
loop-place-init c = λ are.
    let paths = paths_in c.args.text.now.items c.args.spots.now.items in
    (are, sym (ap (λ ks. paths ++ picked c.args.list.now [] ks) (places-none c.args.stretch.from) ∙ append-nil paths))

pub loop-place-preserved : goal.loop-place-preserved
loop-place-preserved c = λ are.
    let list = c.args.list.now in
    let was = c.loop-place.invariant are in
    let put = c.in_ok-put_line.ensures (get_or list c.loop-place.place []) c.parts_at.ensures was.0 in
    (put.0, place_more (picked list []) (map-append (λ k. get_or list k [])) c.args.stretch.from c.loop-place.place _ _ _ (omega arith) was.1 put.1)

pub returns : goal.returns
returns c = λ are.
    let was = c.loop-place.invariant are in
    let all : c.loop-place.place ≡ c.args.stretch.end = omega (arith, c.args.stretch.some) in (
      was.0,
      subst
          (λ k. paths_in c.loop-place.text.items c.loop-place.spots.items ≡ paths_in c.args.text.now.items c.args.spots.now.items ++ picked c.args.list.now [] (places_between c.args.stretch.from k))
          all was.1,
    )
