use Rattle.std.proofs.Common.{◌∙◌, sym, eqb-true}
use Rattle.std.proofs.lemmas.Bool.{and_parts}
use Rattle.gufi_access.specs.Access.{rights}
use Rattle.gufi_roll.proofs.Open.{open_lists}
use Rattle.gufi_roll.proofs.below.is_open.Goals as goal

pub returns : goal.returns
returns c = λ all.
    let whole = and_parts _ _ all in
    let first = and_parts _ _ whole.0 in
    let both = and_parts _ _ first.0 in
    open_lists (rights c.args.guard.now) (eqb-true _ _ (sym c.is_empty.ensures ∙ whole.1)) (sym c.let_list-owner.ensures ∙ both.0) (sym c.let_list-group.ensures ∙ both.1) (sym c.let_list-other.ensures ∙ first.1)
