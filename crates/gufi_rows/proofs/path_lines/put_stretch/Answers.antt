use Rattle.std.proofs.Common.{◌≡◌, ◌∙◌, ◌++◌, [], get_or, sym, ap, subst, arith}
use Rattle.std.proofs.lemmas.List.{append-nil}
use Rattle.gufi_rows.specs.PathLines.{path_line}
use Rattle.gufi_rows.specs.PathPlaces.{places_between}
use Rattle.gufi_rows.proofs.PathLists.{texts_at, texts-join}
use Rattle.gufi_rows.proofs.Stretches.{place_more, places-none}
use Rattle.gufi_rows.proofs.path_lines.put_stretch.Goals as goal

pub loop-place-init : goal.loop-place-init
loop-place-init c =
    let text = c.args.text.now.items in
    sym (ap (λ ks. text ++ texts_at path_line c.args.list.now [] ks) (places-none c.args.stretch.from) ∙ append-nil text)

pub loop-place-preserved : goal.loop-place-preserved
loop-place-preserved c =
    let list = c.args.list.now in
    let path = get_or list c.loop-place.place [] in
    place_more (texts_at path_line list []) (texts-join path_line list []) c.args.stretch.from c.loop-place.place c.args.text.now.items c.loop-place.text.items c.put_line.new.text.items (omega arith) c.loop-place.invariant
    (c.in_ok-put_line.ensures path c.parts_at.ensures ∙ ap (λ l. c.loop-place.text.items ++ l) (sym (append-nil (path_line path))))

pub returns : goal.returns
returns c =
    let all : c.loop-place.place ≡ c.args.stretch.end = omega (arith, c.args.stretch.some) in
    subst (λ k. c.loop-place.text.items ≡ c.args.text.now.items ++ texts_at path_line c.args.list.now [] (places_between c.args.stretch.from k)) all c.loop-place.invariant
