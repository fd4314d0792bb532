use Rattle.std.proofs.Common.{sym, ◌∙◌}
use Rattle.std.specs.List.{list_any}
use Rattle.gufi_line.specs.TraceRows.{holds_byte, rec_holds}
use Rattle.gufi_trace.specs.Writing.{directory, own_holds}
use Rattle.gufi_trace.proofs.Checks.{own_holds-parts, entry_holds, third_is}
use Rattle.gufi_trace.proofs.writer.directory_holds.Goals as goal

pub returns-else-in_rec : goal.returns-else-in_rec
returns-else-in_rec c =
    c.any_entry_holds-in_entry.ensures
    ∙ third_is (list_any (holds_byte c.args.delim) c.args.path.now) (rec_holds c.args.delim c.args.rec.now) (list_any (entry_holds c.args.delim) c.args.entries.now) (own_holds c.args.delim (directory c.args.path.now c.args.rec.now c.args.entries.now))
    (sym c.path_holds-in_path.ensures ∙ c.if-in_rec.false.0) (sym c.rec_holds-in_rec.ensures ∙ c.if-in_rec.false.1) (own_holds-parts c.args.delim c.args.path.now c.args.rec.now c.args.entries.now)
