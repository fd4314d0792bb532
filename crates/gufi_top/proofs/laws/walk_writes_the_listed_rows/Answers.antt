use Rattle.gufi_top.proofs.ListedTexts.{walk_writes}
use Rattle.gufi_top.proofs.laws.walk_writes_the_listed_rows.Goals as goal

pub returns : goal.returns
returns c = walk_writes
