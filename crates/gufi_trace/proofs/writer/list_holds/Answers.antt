use Rattle.std.proofs.Common.{ℕ, sym, ap, ◌∙◌}
use Rattle.std.proofs.lemmas.Bool.{ne_eqb}
use Rattle.gufi_acl.specs.AclTexts.{acl_text}
use Rattle.gufi_line.specs.TraceRows.{holds_byte}
use Rattle.gufi_trace.proofs.ListTexts.{colon_holds, comma_holds, other_holds}
use Rattle.gufi_trace.proofs.writer.list_holds.Goals as goal

pub returns-then-delim-eq58 : goal.returns-then-delim-eq58
returns-then-delim-eq58 c = sym (ap (λ (d : ℕ). holds_byte d (acl_text c.args.acl.now)) c.if-delim-eq58.true ∙ colon_holds c.args.acl.now)

pub returns-then-delim-eq44 : goal.returns-then-delim-eq44
returns-then-delim-eq44 c = sym (ap (λ (d : ℕ). holds_byte d (acl_text c.args.acl.now)) c.if-delim-eq44.true ∙ comma_holds c.args.acl.now)

pub returns-else-delim-eq44 : goal.returns-else-delim-eq44
returns-else-delim-eq44 c =
    ne_eqb c.args.delim 44 c.if-delim-eq44.false
    ∙ sym (other_holds c.args.delim c.requires c.args.acl.now (ne_eqb 58 c.args.delim (λ e. c.if-delim-eq58.false (sym e))) (ne_eqb 44 c.args.delim (λ e. c.if-delim-eq44.false (sym e))))
