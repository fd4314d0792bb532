use Rattle.gufi_tree.specs.Gathered.{IsGathered}
use Rattle.gufi_tree.proofs.gather.gather.Given as goal

abbrev pub invariant-loop-line : goal.invariant-loop-line
invariant-loop-line l = IsGathered l.yielded l.gathered.stored.items l.gathered.loose.items
