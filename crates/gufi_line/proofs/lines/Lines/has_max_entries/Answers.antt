use Rattle.std.proofs.Common.{leb, ap}
use Rattle.gufi_base.specs.Limits.{max_entries}
use Rattle.gufi_line.proofs.Counts.{entries_seen}
use Rattle.gufi_line.proofs.lines.Lines.has_max_entries.Goals as goal

pub returns : goal.returns
returns c = ap (leb max_entries) (entries_seen c.self.inside.stanzas c.args.self.now c.len.result c.dirs.result c.len.ensures c.dirs.ensures.entries c.self.view_is)
