use Rattle.std.proofs.Common.{◌≡◌, false, take}
use Rattle.std.specs.List.{list_any}
use Rattle.gufi_tree.proofs.TooLong.{name_over}
use Rattle.gufi_tree.proofs.borrowed.EntriesRef.has_name_over.Given as goal

abbrev pub invariant-loop-place : goal.invariant-loop-place
invariant-loop-place l = list_any (name_over l.bytes) (take l.place l.self) ≡ false
