use Rattle.std.proofs.Common.{◌≡◌, ◌-◌, ◌≤◌, ℕ, List, ◌++◌, length}
use Rattle.gufi_tree.specs.Packs.{entries_of}
use Rattle.gufi_image.specs.Placed.{AreEntries}
use Rattle.gufi_image.specs.Pieces.{entries_from}
use Rattle.gufi_image.proofs.entry.take_entries.Given as goal

abbrev pub invariant-entries : goal.invariant-entries
invariant-entries l = record {
  dirs : l.packing.dirs ≡ l.fn.packing.dirs;
  same : (more : List ℕ) → entries_from l.width l.above l.count (entries_of l.fn.packing.pending) (l.fn.rest.now ++ more) ≡ entries_from l.width l.above l.count (entries_of l.packing.pending) (l.rest.now ++ more);
  entries : AreEntries (entries_of l.packing.pending);
  few : length (entries_of l.fn.packing.pending) ≤ l.count → length (entries_of l.packing.pending) ≤ l.count;
}

abbrev pub decreases-entries : goal.decreases-entries
decreases-entries l = l.count - length (entries_of l.packing.pending)
