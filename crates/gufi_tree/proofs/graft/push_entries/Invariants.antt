use Rattle.std.proofs.Common.{◌≡◌, ◌++◌, take}
use Rattle.gufi_tree.specs.Packs.{entries_of}
use Rattle.gufi_tree.proofs.graft.push_entries.Given as goal

abbrev pub invariant-loop-place : goal.invariant-loop-place
invariant-loop-place l = entries_of l.pending ≡ entries_of l.fn.pending ++ take l.place l.entries
