use Rattle.std.proofs.Common.{List, ℕ, ◌++◌, take, sym, ap, ◌∙◌, arith, append_assoc}
use Rattle.gufi_trace.specs.TraceWriting.{trace_text}
use Rattle.gufi_trace.specs.Writing.{directory, own_text}
use Rattle.gufi_trace.proofs.Checks.{text_more}
use Rattle.gufi_trace.proofs.writer.put_tree.Goals as goal

pub loop-number-preserved : goal.loop-number-preserved
loop-number-preserved c =
    let front = trace_text (take c.loop-number.number c.args.tree.now) c.args.root.now c.args.delim in
    let own = own_text c.args.delim c.args.root.now (directory c.path.result c.rec.result c.entries.result) in
    c.in_ok-put_stanza.ensures ∙ ap (λ (t : List ℕ). t ++ own) c.loop-number.invariant ∙ append_assoc c.args.out.now.items front own
    ∙ ap (λ (t : List ℕ). c.args.out.now.items ++ t)
    (sym (text_more c.args.tree.now c.loop-number.number c.path.result c.rec.result c.entries.result c.path.ensures c.rec.ensures c.entries.ensures.value (omega arith) (own_text c.args.delim c.args.root.now)))
