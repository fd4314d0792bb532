use Rattle.std.proofs.Common.{◌≡◌, take}
use Rattle.gufi_stats.proofs.LeafLemmas.{leaf_text}
use Rattle.gufi_stats.proofs.leaves.leaf_lines.Given as goal

abbrev pub invariant-loop-at : goal.invariant-loop-at
invariant-loop-at l = l.text.items ≡ leaf_text l.rows (take l.at l.rows)
