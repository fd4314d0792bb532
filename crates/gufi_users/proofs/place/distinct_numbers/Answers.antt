use Rattle.std.proofs.Common.{List, ℕ, ◌∙◌, ap, nat_eq, get_or}
use Rattle.indexmap.specs.IndexSet.{insert_key}
use Rattle.gufi_users.proofs.PlaceLemmas.{distinct_taken}
use Rattle.gufi_users.proofs.place.distinct_numbers.Goals as goal

pub others-preserved : goal.others-preserved
others-preserved c =
    c.in_ok-insert-2.ensures.keys ∙ ap (λ (ks : List ℕ). insert_key nat_eq ks (get_or c.args.others.now c.others.number-index 0)) c.others.invariant
    ∙ distinct_taken c.args.first c.args.others.now c.others.number-index c.others-test.true
