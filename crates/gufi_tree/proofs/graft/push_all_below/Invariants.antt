use Rattle.std.proofs.Common.{◌≡◌, ◌++◌, map, take}
use Rattle.gufi_tree.specs.Graft.{put_below}
use Rattle.gufi_tree.proofs.graft.push_all_below.Given as goal

abbrev pub invariant-loop-place : goal.invariant-loop-place
invariant-loop-place l = l.dirs ≡ l.fn.dirs ++ map (put_below l.path) (take l.place l.part)
