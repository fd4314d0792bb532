use Rattle.std.proofs.Common.{◌≡◌, ◌++◌, take}
use Rattle.gufi_tree.specs.Packs.{entries_of}
use Rattle.gufi_tree.proofs.dirs.push_entries.Given as goal

abbrev pub invariant-loop-entry : goal.invariant-loop-entry
invariant-loop-entry l = entries_of l.pending ≡ entries_of l.fn.pending ++ take l.entry-index l.entries
