-- Directories that are packed, and entries whose directory is still to come.
use Rattle.std.specs.Prelude.{ℕ, ◌+◌, ◌-◌, ◌<◌, ◌^◌, List, length, map, slice_get, Option}
use Rattle.gufi_tree.specs.declared.bundle.Packed.{Packed}
use Rattle.gufi_tree.specs.declared.pending.PlacedRow.{PlacedRow}
use Rattle.gufi_tree.specs.declared.tree.Entry.{Entry}
use Rattle.gufi_tree.specs.Bundles.{entry_in, IsPacked}
use Rattle.gufi_tree.specs.Tree.{Directory}

-- an entry, and a number that its giver knows it by
pub record Placed : Type 0 where
  pub entry : Entry
  pub place : ℕ

-- directories, and behind them the entries of one whose own row is still to come
pub record Packs : Type 0 where
  pub dirs : List Directory
  pub pending : List Placed

abbrev pub entries_of : List Placed → List Entry
entries_of placed = map (λ p. p.entry) placed

abbrev pub places_of : List Placed → List ℕ
places_of placed = map (λ p. p.place) placed

abbrev pub last_entry : List Placed → Option Entry
last_entry placed = slice_get (entries_of placed) (length (entries_of placed) - 1)

abbrev pub placed_in : List ℕ → PlacedRow → Placed
placed_in text row = record { entry = entry_in text row.packed; place = row.place }

abbrev pub IsPlaced : List ℕ → PlacedRow → Type 0
IsPlaced text row = IsPacked text row.packed

-- an entry whose text was put behind so many bytes
abbrev pub shifted : ℕ → Packed → Packed
shifted base p = record { meta = p.meta; at = base + p.at; link = p.link; name = p.name; extras = p.extras }

abbrev pub shifted_row : ℕ → PlacedRow → Packed
shifted_row base row = shifted base row.packed

-- the place of its text still has 32 bits then
abbrev pub IsNear : ℕ → PlacedRow → Type 0
IsNear base row = base + row.packed.at < 2 ^ 32
