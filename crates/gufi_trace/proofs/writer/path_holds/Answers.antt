use Rattle.std.proofs.Common.{ap, ◌∙◌}
use Rattle.gufi_line.specs.TraceRows.{holds_byte}
use Rattle.gufi_trace.proofs.Checks.{text_holds}
use Rattle.gufi_trace.proofs.writer.path_holds.Goals as goal

pub returns : goal.returns
returns c = c.holds.ensures ∙ ap (holds_byte c.args.delim) c.text.ensures.text ∙ text_holds c.args.delim c.requires c.args.path.now
