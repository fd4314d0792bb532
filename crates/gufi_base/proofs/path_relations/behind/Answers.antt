use Rattle.std.proofs.Common.{sym}
use Rattle.gufi_base.proofs.Children.{no_front}
use Rattle.gufi_base.proofs.path_relations.behind.Goals as goal

pub returns-else-same_bytes : goal.returns-else-same_bytes
returns-else-same_bytes c = no_front c.args.text.now c.args.front.now c.split_at.result.0.now c.split_at.ensures.front (sym c.if-same_bytes.ensures)
