use Rattle.std.proofs.Common.{◌≡◌, ◌++◌, Some, map, take}
use Rattle.gufi_snap.proofs.flags.push_known.Given as goal

abbrev pub invariant-loop-flag : goal.invariant-loop-flag
invariant-loop-flag l = l.known.items ≡ l.fn.known.items ++ map Some (take l.flag-index l.flags)
