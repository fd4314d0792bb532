use Rattle.std.proofs.Common.{◌∙◌, ◌++◌, ◌∷◌, [], ◌<◌, take, get_or, length, sym, ap, append_assoc, arith}
use Rattle.std.proofs.lemmas.List.{take_more, take_all, append-nil}
use Rattle.gufi_rows.proofs.path_list.push_lines.Goals as goal

pub loop-place-init : goal.loop-place-init
loop-place-init c = sym (append-nil c.args.rest.now)

pub push-requires : goal.push-requires
push-requires c = (get_or c.args.lines.now c.loop-place.place [], c.parts_at.ensures)

pub loop-place-preserved : goal.loop-place-preserved
loop-place-preserved c =
    let lines = c.args.lines.now in
    let place = c.loop-place.place in
    let within : c.loop-place.place < length c.args.lines.now = omega (arith, c.len-place-end.ensures) in
    c.in_ok-push.ensures.pushed (get_or lines place []) c.parts_at.ensures ∙ ap (λ l. l ++ get_or lines place [] ∷ []) c.loop-place.invariant
    ∙ append_assoc c.args.rest.now (take place lines) (get_or lines place [] ∷ []) ∙ ap (λ l. c.args.rest.now ++ l) (sym (take_more lines place [] within))

pub returns : goal.returns
returns c = c.loop-place.invariant ∙ ap (λ l. c.args.rest.now ++ l) (take_all c.loop-place.place c.args.lines.now (omega (arith, c.len-place-end.ensures)))
