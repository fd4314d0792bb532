use Rattle.std.proofs.Common.{◌-◌}
use Rattle.gufi_walk.proofs.task.Walk.none_listed.Given as goal

abbrev pub decreases-places : goal.decreases-places
decreases-places g l = l.to - l.place
