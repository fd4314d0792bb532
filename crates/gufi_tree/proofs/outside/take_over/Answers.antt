use Rattle.std.proofs.Common.{◌∙◌, List, ℕ, Option, Some, None, [], ◌∷◌, length, length-append, arith}
use Rattle.gufi_tree.proofs.Bundled.{taken_more, taken_none}
use Rattle.gufi_tree.proofs.outside.take_over.Goals as goal
use Rattle.gufi_tree.proofs.outside.take_over.Goals.{then-is_shared+in_ok-u32_of+in_ok-push+in_ok-try_clone+in_ok-push-2, else-is_shared+in_ok-push-3}

pub loop-number-preserved : goal.loop-number-preserved
loop-number-preserved c =
    let l = c.loop-number in
    let numbers = l.numbers.items in
    let inv = l.invariant in
    elim c.if-is_shared.branch [
      | then-is_shared+in_ok-u32_of+in_ok-push+in_ok-try_clone+in_ok-push-2 w ↦
          rw (w.numbers-is, w.in_ok-push.ensures.items, w.taken-is, w.in_ok-push-2.ensures.items)
          (record {
            len = omega (arith, inv.len, length-append numbers (Some w.in_ok-u32_of.field-0 ∷ []));
            taken = taken_more numbers c.args.bundles.now l.taken.items l.number inv.len (omega arith) inv.taken w.index-bundles-number-then-is_shared.result w.in_ok-try_clone.field-0 w.in_ok-u32_of.field-0
                (omega (arith, w.in_ok-u32_of.ensures.1, w.len.ensures)) w.index-bundles-number-then-is_shared.is w.in_ok-try_clone.ensures;
          })
      | else-is_shared+in_ok-push-3 w ↦
          rw (w.numbers-is, w.in_ok-push-3.ensures.items, w.taken-is)
          (record {
            len = omega (arith, inv.len, length-append numbers (None ∷ []));
            taken = taken_none numbers c.args.bundles.now l.taken.items l.number inv.len (omega arith) inv.taken;
          })
    ]
