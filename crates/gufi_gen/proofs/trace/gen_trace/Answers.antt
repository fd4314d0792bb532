use Rattle.std.proofs.Common.{List, ℕ, ◌++◌, sym, ap, ◌∙◌}
use Rattle.gufi_gen.specs.Lines.{stanza_text}
use Rattle.gufi_gen.proofs.Lines.{gen_more}
use Rattle.gufi_gen.proofs.trace.gen_trace.Goals as goal

pub loop-number-preserved : goal.loop-number-preserved
loop-number-preserved c =
    let number = c.loop-number.number in
    c.in_ok-put_stanza.ensures ∙ ap (λ (t : List ℕ). t ++ stanza_text c.args.delim number) c.loop-number.invariant ∙ sym (gen_more number c.args.delim)
