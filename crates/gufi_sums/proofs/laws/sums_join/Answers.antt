use Rattle.gufi_sums.specs.Laws.{join_assoc, join_comm, total-append}
use Rattle.gufi_sums.proofs.Joining.{join-none}
use Rattle.gufi_sums.proofs.laws.sums_join.Goals as goal

pub returns : goal.returns
returns c = record { grouping = join_assoc; order = join_comm; none = join-none; lists = total-append }
