use Rattle.std.proofs.Common.{leb, ap}
use Rattle.gufi_base.specs.Limits.{max_dirs}
use Rattle.gufi_line.proofs.Counts.{dirs_seen}
use Rattle.gufi_line.proofs.lines.Lines.has_max_dirs.Goals as goal

pub returns : goal.returns
returns c = ap (leb max_dirs) (dirs_seen c.self.inside.stanzas c.args.self.now c.dirs.result c.dirs.ensures.dirs c.self.view_is)
