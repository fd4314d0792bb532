use Rattle.gufi_top.proofs.CompleteLemmas.{refresh_writes}
use Rattle.gufi_top.proofs.laws.refresh_writes_the_image_of_its_tree.Goals as goal

pub returns : goal.returns
returns c = refresh_writes
