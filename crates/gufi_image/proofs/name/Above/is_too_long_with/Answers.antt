use Rattle.std.proofs.Common.{◌∙◌, ◌++◌, ◌∷◌, [], ap}
use Rattle.gufi_base.specs.Paths.{Components, is_too_long}
use Rattle.gufi_image.proofs.PathSizes.{too_long_with}
use Rattle.gufi_image.proofs.name.Above.is_too_long_with.Goals as goal

pub returns : goal.returns
returns c =
    c.is_over.ensures ∙ too_long_with c.self.inside.path c.args.name.now c.self.inside.depth c.self.inside.bytes c.self.invariant
    ∙ ap (λ (path : Components). is_too_long (path ++ c.args.name.now ∷ [])) c.self.view_is
