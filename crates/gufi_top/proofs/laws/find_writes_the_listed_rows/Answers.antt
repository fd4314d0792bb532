use Rattle.gufi_top.proofs.ListedTexts.{find_writes}
use Rattle.gufi_top.proofs.laws.find_writes_the_listed_rows.Goals as goal

pub returns : goal.returns
returns c = find_writes
