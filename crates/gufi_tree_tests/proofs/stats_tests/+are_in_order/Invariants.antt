use Rattle.std.proofs.Common.{length}
use Rattle.gufi_tree_tests.proofs.stats_tests.+are_in_order.Given as goal

abbrev pub decreases-are_in_order : goal.decreases-are_in_order
decreases-are_in_order l = length l.rows.now
