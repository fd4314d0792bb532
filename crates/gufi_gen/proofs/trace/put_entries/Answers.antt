use Rattle.std.proofs.Common.{List, ℕ, ◌++◌, sym, ap, ◌∙◌, append_assoc}
use Rattle.gufi_gen.specs.Lines.{entry_line, entry_lines}
use Rattle.gufi_gen.proofs.Lines.{flat_more}
use Rattle.gufi_gen.proofs.trace.put_entries.Goals as goal

pub loop-place-preserved : goal.loop-place-preserved
loop-place-preserved c =
    let place = c.loop-place.place in
    let line = entry_line c.args.delim c.args.number in
    c.in_ok-put_entry.ensures ∙ ap (λ (t : List ℕ). t ++ line place) c.loop-place.invariant
    ∙ append_assoc c.args.out.now.items (entry_lines c.args.delim c.args.number place) (line place)
    ∙ ap (λ (t : List ℕ). c.args.out.now.items ++ t) (sym (flat_more line place))
