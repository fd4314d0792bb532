use Rattle.gufi_base.proofs.SlashBlocks.{slashes_in_block}
use Rattle.gufi_base.proofs.path_parts.slashes_at.Goals as goal

pub returns : goal.returns
returns g c = slashes_in_block c.args.text.now c.args.at g.row.N c.args.behind c.requires.inside c.requires.lanes
