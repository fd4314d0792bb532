use Rattle.std.proofs.Common.{◌≡◌, ◌∙◌, ◌++◌, ◌∷◌, [], false, sym, ap, subst}
use Rattle.gufi_rows.specs.declared.spot.Spot.{Spot}
use Rattle.gufi_rows.specs.LaidLines.{AreLines}
use Rattle.gufi_rows.specs.PathLines.{path_line}
use Rattle.gufi_rows.specs.PathLists.{Grows, IsSpan, paths_in}
use Rattle.gufi_rows.proofs.Laid.{AreLines-push, paths_in-line}
use Rattle.gufi_rows.proofs.PathLists.{line-parts}
use Rattle.gufi_rows.proofs.Spots.{IsSpan-grows, IsSpot-parts, bytes_in-grows}
use Rattle.gufi_rows.proofs.lines.put_line.Goals as goal

pub returns : goal.returns
returns c = λ path parts are.
    let text = c.args.text.now.items in
    let mid = c.put.new.text.items in
    let last = c.put-2.new.text.items in
    let next = c.push.new.self.items in
    let stem = c.in_ok-stem.stem in
    let base = c.in_ok-base.base in
    let front = c.args.parts.stem.now in
    let name = c.args.parts.base.now in
    let spot : Spot = record { stem = stem; base = base; follows = false } in
    let more : next ≡ text ++ path_line path =
    c.in_ok-push.ensures.items ∙ ap (λ t. t ++ 10 ∷ []) (c.in_ok-base.ensures.put ∙ ap (λ t. t ++ name) c.in_ok-stem.ensures.put) ∙ line-parts front name text path parts in
    let end : Grows last next = (10 ∷ [], c.in_ok-push.ensures.items) in
    let stem_in : IsSpan last stem = IsSpan-grows mid last stem c.in_ok-base.ensures.grown c.in_ok-stem.ensures.within in
    let is = IsSpot-parts next front name spot path (IsSpan-grows last next stem end stem_in) (IsSpan-grows last next base end c.in_ok-base.ensures.within)
    (bytes_in-grows last next stem end stem_in ∙ bytes_in-grows mid last stem c.in_ok-base.ensures.grown c.in_ok-stem.ensures.within ∙ c.in_ok-stem.ensures.bytes)
    (bytes_in-grows last next base end c.in_ok-base.ensures.within ∙ c.in_ok-base.ensures.bytes) parts in
    let spots = c.args.spots.now.items in
    let all : c.push-2.new.self.items ≡ spots ++ spot ∷ [] = c.in_ok-push-2.ensures.items in (
      subst (AreLines next) (sym all) (AreLines-push text next spots spot path are (path_line path, more) more is c.in_ok-stem.ensures.place),
      ap (paths_in next) all ∙ paths_in-line text next spots spot path are (path_line path, more) more is c.in_ok-stem.ensures.place,
    )
