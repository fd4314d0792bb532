use Rattle.gufi_base.proofs.FreeBytes.{free_block}
use Rattle.gufi_base.proofs.bytes.are_free_at.Goals as goal

pub returns : goal.returns
returns g c = free_block c.args.other c.args.bytes.now c.args.at g.row.N c.requires.inside c.requires.lanes
