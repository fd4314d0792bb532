use Rattle.std.proofs.Common.{◌++◌, ◌∷◌, [], refl}
use Rattle.gufi_image.proofs.Children.{child_parts, made_child}
use Rattle.gufi_image.proofs.directory.child_of.Goals as goal

pub of_parts-requires : goal.of_parts-requires
of_parts-requires c = (
  c.args.parent.now ++ c.args.name.now ∷ [],
  child_parts c.args.parent.now c.args.name.now c.text.result.now c.args.name.now c.text.ensures.names c.requires c.text.ensures.text refl,
)

pub returns : goal.returns
returns c =
    let parts = child_parts c.args.parent.now c.args.name.now c.text.result.now c.args.name.now c.text.ensures.names c.requires c.text.ensures.text refl in
    made_child c.args.parent.now c.args.name.now c.text.result.now c.args.name.now c.of_parts.result parts c.of_parts.ensures
