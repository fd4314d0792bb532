use Rattle.std.proofs.Common.{◌≡◌, map, take}
use Rattle.std.specs.Arc.{arc_value}
use Rattle.gufi_tree.proofs.dirs.share_bundles.Given as goal

abbrev pub invariant-loop-bundle : goal.invariant-loop-bundle
invariant-loop-bundle l = map arc_value l.again.items ≡ map arc_value (take l.bundle-index l.bundles)
