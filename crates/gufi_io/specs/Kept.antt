-- What calls keep of a shelf.
use Rattle.std.specs.Prelude.{◌≡◌, ◌≤◌}
use Rattle.gufi_io.specs.declared.shelf.Shelf.{Ghosts as ShelfOf}

-- the files are the same, and no count fell
pub record Keeps {F : Type 0} (shelf : ShelfOf F) (old new : F) : Type 0 where
  pub files : shelf.files new ≡ shelf.files old
  pub faults : shelf.faults old ≤ shelf.faults new
  pub absents : shelf.absents old ≤ shelf.absents new
