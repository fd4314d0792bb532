-- What the parts of the reader stand for.
use Rattle.std.specs.Prelude.{ℕ, ◌-◌}
use Rattle.gufi_image.specs.declared.head.Head.{Head}
use Rattle.gufi_image.specs.declared.reader.Parts.{Parts as Read}
use Rattle.gufi_image.specs.Reading.{Counts, Flags}
use Rattle.gufi_image.specs.Views.{front_near}

abbrev pub counts : Head → Counts
counts h = record { width = h.width; limit = h.limit; dirs = h.dirs; entries = h.entries; left = h.left }

-- what is kept, where the image has so many bytes fewer than one may have
abbrev pub counted : ℕ → Head → Counts
counted k h = record { width = h.width; limit = h.limit; dirs = h.dirs; entries = h.entries; left = h.left - k }

abbrev pub flags_of : ℕ → Read → Flags
flags_of k p = record { limit = p.limit; front = front_near k p.directories }
