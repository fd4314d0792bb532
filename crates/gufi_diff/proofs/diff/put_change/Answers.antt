use Rattle.std.proofs.Common.{◌∙◌, [], ◌∷◌, ◌++◌, ap}
use Rattle.gufi_diff.proofs.Passes.{change-parts}
use Rattle.gufi_diff.proofs.diff.put_change.Goals as goal

pub returns : goal.returns
returns c = λ of stands.
    c.in_ok-push-3.ensures.items
    ∙ ap (λ t. t ++ 10 ∷ [])
    (c.in_ok-extend_from_slice-2.ensures.items
    ∙ ap (λ t. t ++ c.args.row.base.now)
    (c.in_ok-extend_from_slice.ensures.items ∙ ap (λ t. t ++ c.args.row.stem.now) (c.in_ok-push-2.ensures.items ∙ ap (λ t. t ++ 32 ∷ []) c.in_ok-push.ensures.items)))
    ∙ change-parts c.args.text.now.items c.args.row.stem.now c.args.row.base.now c.args.sign of (record { names = stands.names; stem = stands.stem; base = stands.base })
