-- Packed entries in two lists: where the bytes of each stand, and its numbers.
use Rattle.std.specs.Prelude.{ℕ, List}
use Rattle.gufi_base.specs.declared.record.Meta.{Meta}
use Rattle.gufi_tree.specs.declared.bundle.Packed.{Packed}
use Rattle.gufi_tree.specs.declared.pending.PlacedRow.{PlacedRow}
use Rattle.gufi_tree.specs.declared.rows.Spot.{Spot}
use Rattle.gufi_tree.specs.Packs.{shifted_row}
use lib.Lanes.{zip2}

-- both parts of one entry
abbrev pub packed_row : Spot → Meta → Packed
packed_row spot meta = record { meta = meta; at = spot.at; link = spot.link; name = spot.name; extras = spot.extras }

-- both parts of each, pairwise
abbrev pub packed_rows : List Spot → List Meta → List Packed
packed_rows spots metas = zip2 packed_row spots metas

abbrev pub spot_of : Packed → Spot
spot_of p = record { at = p.at; link = p.link; name = p.name; extras = p.extras }

abbrev pub meta_of : Packed → Meta
meta_of p = p.meta

-- the parts of an entry whose text was put behind so many bytes
abbrev pub shifted_spot : ℕ → PlacedRow → Spot
shifted_spot base row = spot_of (shifted_row base row)

abbrev pub placed_meta : PlacedRow → Meta
placed_meta row = meta_of row.packed
