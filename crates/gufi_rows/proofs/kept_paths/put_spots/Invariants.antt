use Rattle.std.proofs.Common.{◌≡◌, ◌++◌, take}
use Rattle.std.specs.Prelude.{map}
use Rattle.gufi_rows.specs.PathLists.{spot_behind}
use Rattle.gufi_rows.proofs.kept_paths.put_spots.Given as goal

abbrev pub invariant-loop-spot : goal.invariant-loop-spot
invariant-loop-spot l = l.spots.items ≡ l.fn.spots.items ++ map (spot_behind l.by) (take l.spot-index l.more)
