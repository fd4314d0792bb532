use Rattle.std.proofs.Common.{◌∙◌}
use Rattle.gufi_access.proofs.Indexed.{is_ok-searched}
use Rattle.gufi_access.proofs.index.stands_in.Goals as goal

pub returns : goal.returns
returns c = c.is_ok.ensures.value ∙ is_ok-searched c.args.index.now c.args.gid c.binary_search.result c.binary_search.ensures.position c.requires
