use Rattle.gufi_top.proofs.ListedTexts.{find_writes_prefixed}
use Rattle.gufi_top.proofs.laws.find_writes_the_listed_rows_behind_its_prefix.Goals as goal

pub returns : goal.returns
returns c = find_writes_prefixed
