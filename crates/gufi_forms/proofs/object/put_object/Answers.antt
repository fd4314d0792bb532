use Rattle.std.proofs.Common.{List, ℕ, ◌++◌, ap, ◌∙◌}
use Rattle.json.specs.Token.{Token}
use Rattle.json.specs.Print.{print}
use Rattle.gufi_select.specs.Parts.{seen_parts}
use Rattle.gufi_forms.proofs.Objects.{object_put}
use Rattle.gufi_forms.proofs.object.put_object.Goals as goal

pub returns : goal.returns
returns c =
    let tokens =
    object_put (seen_parts c.args.row c.args.depth) c.args.columns.now _ _ _ _
    c.new-writer.ensures.tokens c.in_ok-begin_object.ensures.ok c.in_ok-put_members.ensures.ok c.in_ok-end_object.ensures.ok in
    let before = c.in_ok-end_object.ensures.room.0 ∙ c.in_ok-put_members.ensures.before ∙ c.in_ok-begin_object.ensures.room.0 ∙ c.new-writer.ensures.before ∙ c.in_ok-with_capacity.ensures.items in
    c.in_ok-put.ensures
    ∙ ap (λ (l : List ℕ). c.args.out.now.items ++ l)
    (c.as_slice.ensures.value ∙ c.into_inner-text.ensures.items ∙ ap (λ (l : List ℕ). l ++ print c.end_object.new.self.tokens) before ∙ ap (λ (ts : List Token). print ts) tokens)
