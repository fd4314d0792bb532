use Rattle.std.proofs.Common.{List, ℕ, ◌++◌, ◌∷◌, [], take, sym, ap, ◌∙◌, arith, append_assoc}
use Rattle.gufi_line.specs.TraceRows.{row_line}
use Rattle.gufi_trace.specs.Writing.{directory, own_text}
use Rattle.gufi_trace.proofs.Checks.{own_text_more}
use Rattle.gufi_trace.proofs.writer.put_stanza.Goals as goal

pub loop-place-preserved : goal.loop-place-preserved
loop-place-preserved c =
    let front = own_text c.args.delim c.args.root.now (directory c.args.path.now c.args.rec.now (take c.loop-place.place c.args.entries.now)) in
    let line = row_line c.args.delim c.args.root.now (record { path = c.args.path.now ++ c.name.result.now ∷ []; rec = c.rec.result }) in
    c.in_ok-put_entry.ensures ∙ ap (λ (t : List ℕ). t ++ line) c.loop-place.invariant ∙ append_assoc c.args.out.now.items front line
    ∙ ap (λ (t : List ℕ). c.args.out.now.items ++ t)
    (sym (own_text_more c.args.delim c.args.root.now c.args.path.now c.args.rec.now c.args.entries.now c.loop-place.place c.at-entry.result c.name.result.now c.rec.result c.at-entry.ensures (omega arith) c.name.ensures.value c.rec.ensures))
