use Rattle.std.proofs.Common.{List, ℕ, ◌∙◌, ap, sym, nat_eq, get_or, take}
use Rattle.std.proofs.lemmas.List.{take_more}
use Rattle.indexmap.specs.IndexSet.{insert_key}
use Rattle.gufi_base.specs.Basics.{distinct}
use Rattle.gufi_users.proofs.PlaceLemmas.{distinct_more}
use Rattle.gufi_find.proofs.numbers.NumberSet.of.Goals as goal

pub numbers-preserved : goal.numbers-preserved
numbers-preserved c =
    let here = get_or c.args.numbers.now c.numbers.number-index 0 in
    c.in_ok-insert.ensures.keys ∙ ap (λ (ks : List ℕ). insert_key nat_eq ks here) c.numbers.invariant
    ∙ sym (distinct_more (take c.numbers.number-index c.args.numbers.now) here)
    ∙ ap distinct (sym (take_more c.args.numbers.now c.numbers.number-index 0 c.numbers-test.true))
