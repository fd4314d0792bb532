use Rattle.std.proofs.Common.{◌∙◌, false, replicate, ap}
use Rattle.std.specs.Prelude.{Result, Ok, Err, IfOk}
use Rattle.gufi_roll.proofs.Nothing.{nothing_rolled}
use Rattle.gufi_roll.proofs.flags.none_rolled.Goals as goal

if_ok : {T E : Type 0} (r : Result T E) (P Q : T → Type 0) → ((x : T) → P x → Q x) → IfOk r P → IfOk r Q
if_ok (Ok x) P Q f h = f x h
if_ok (Err e) P Q f h = tt

pub returns : goal.returns
returns c =
    if_ok c.from_elem.result _ _ (λ v given. given (λ y same. same) ∙ ap (λ n. replicate n false) c.dirs.ensures.count ∙ nothing_rolled c.args.tree.now c.dirs.ensures.shape)
    c.from_elem.ensures.items_if_clones_equal
