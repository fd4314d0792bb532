use Rattle.std.proofs.Common.{◌<◌, ◌∙◌, [], get_or, length, sym, ap, arith}
use Rattle.gufi_rows.specs.PathLists.{bytes_in}
use Rattle.gufi_rows.proofs.PathLists.{parts_at}
use Rattle.gufi_rows.proofs.Spots.{parts_same}
use Rattle.gufi_rows.proofs.kept_paths.KeptPaths.parts_at.Goals as goal

pub returns : goal.returns
returns c =
    let text = c.self.inside.text.items in
    let spot = c.index-spot.result.now in
    let within : c.args.place < length c.self.inside.spots.items = omega (arith, c.self.inside.spots.ok.0) in
    let at = parts_at text c.self.inside.spots.items c.args.place spot c.self.invariant within c.index-spot.ensures in
    parts_same _ _ _ _ _ _ (c.bytes_at.ensures ∙ ap (λ t. bytes_in t spot.stem) c.as_slice-2.ensures.value) (c.bytes_at-2.ensures ∙ ap (λ t. bytes_in t spot.base) c.as_slice-3.ensures.value)
    (ap (λ ps. get_or ps c.args.place []) (sym c.self.view_is) ∙ at.1) at.0.parts
