use Rattle.std.proofs.Common.{ap, ◌∙◌, sym, ◌++◌, take, List, ℕ, arith, append_assoc}
use Rattle.gufi_image.specs.Image.{entry_image, entries_image}
use Rattle.gufi_image.proofs.Written.{entries_more}
use Rattle.gufi_image.proofs.writer.put_entries.Goals as goal

pub loop-place-preserved : goal.loop-place-preserved
loop-place-preserved c =
    let own = entry_image c.args.width c.at.result in
    c.in_ok-put_entry.ensures
    ∙ ap (λ (t : List ℕ). t ++ own) c.loop-place.invariant
    ∙ append_assoc c.args.out.now.items (entries_image c.args.width (take c.loop-place.place c.args.entries.now)) own
    ∙ ap (λ (t : List ℕ). c.args.out.now.items ++ t) (sym (entries_more c.args.width c.args.entries.now c.loop-place.place c.at.result c.at.ensures (omega arith)))
