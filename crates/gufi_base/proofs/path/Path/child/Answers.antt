use Rattle.std.proofs.Common.{List, ℕ, ◌++◌, ◌∷◌, [], ap, ◌∙◌}
use Rattle.gufi_base.proofs.Children.{IsText-child, names-child}
use Rattle.gufi_base.proofs.path.Path.child.Goals as goal

pub invariant_of-result : goal.invariant_of-result
invariant_of-result c =
    IsText-child c.self.inside.text.items c.args.name.now c.in_ok-text.text.items c.self.invariant c.requires (c.in_ok-text.ensures ∙ ap (λ (t : List ℕ). t ++ (c.args.name.now ++ 47 ∷ [])) c.as_slice.ensures.value)

pub returns : goal.returns
returns c =
    rw (← c.self.view_is) (names-child c.self.inside.text.items c.args.name.now c.in_ok-text.text.items c.self.invariant c.requires (c.in_ok-text.ensures ∙ ap (λ (t : List ℕ). t ++ (c.args.name.now ++ 47 ∷ [])) c.as_slice.ensures.value))
