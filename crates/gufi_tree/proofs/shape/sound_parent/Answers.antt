use Rattle.std.proofs.Common.{refl, sym, ◌∙◌, arith}
use Rattle.gufi_tree.proofs.Steps.{sound_root}
use Rattle.gufi_tree.proofs.shape.sound_parent.Goals as goal

pub returns : goal.returns
returns c =
    let place = c.if-place-gt0.false in
    sound_root c.args.dirs.now c.args.place c.at.result (omega (arith, c.requires.within)) (omega (arith, place)) (c.at.ensures c.at.result) (sym c.path.ensures ∙ c.if-not-is_root.ensures.exact.0 refl)
