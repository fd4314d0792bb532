use Rattle.std.proofs.Common.{◌<◌, ◌∙◌, length, ap, subst, arith}
use Rattle.gufi_base.specs.declared.record.Rec.{Rec}
use Rattle.gufi_tree.specs.Tree.{entry_row}
use Rattle.gufi_sums.specs.Total.{IsTotal}
use Rattle.gufi_snap.proofs.Growing.{entries_more, total_more}
use Rattle.gufi_snap.proofs.sums.add_entries.Goals as goal

pub loop-place-preserved : goal.loop-place-preserved
loop-place-preserved c =
    let within : c.loop-place.place < length c.args.entries.now = subst (λ n. c.loop-place.place < n) c.len-place-end.ensures c.loop-place-test.true in
    record {
      counted = let a = c.add.ensures.counted in let b = c.loop-place.invariant.counted in omega arith;
      bounded = c.add.ensures.bounded;
      rows = λ path rows h.
          subst (IsTotal c.add.new.self) (entries_more path c.args.entries.now c.loop-place.place c.at.result rows within (c.at.ensures c.at.result))
          (total_more c.loop-place.sum c.add.new.self c.meta.result.now _ (entry_row path c.at.result) (c.loop-place.invariant.rows path rows h) c.add.ensures.sum
          (c.meta.ensures ∙ ap (λ (r : Rec). r.meta) c.rec-rec.ensures) c.add.ensures.bounded);
    }
