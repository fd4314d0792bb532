use Rattle.std.proofs.Common.{◌≡◌, ◌-◌, length}
use Rattle.gufi_image.specs.Pieces.{Alike, IsRead, rest_by}
use Rattle.gufi_image.proofs.progress.Progress.take_directories.Given as goal

abbrev pub invariant-directories : goal.invariant-directories
invariant-directories l = record {
  head : l.self.head ≡ l.fn.self.head;
  read : IsRead l.self;
  same : Alike l.room (rest_by l.fn.self l.fn.rest.now) (rest_by l.self l.rest.now);
}

abbrev pub decreases-directories : goal.decreases-directories
decreases-directories l = l.self.head.dirs - length l.self.directories.packing.dirs
