-- Sums by their places in blocks.
use Rattle.std.specs.Prelude.{◌≡◌, ℕ, ◌+◌, ◌<◌, Bool, true, false, List, [], ◌∷◌, ◌++◌, length, map, slice_index_or}
use Rattle.std.specs.declared.sync.Arc.{Arc}
use Rattle.std.specs.Arc.{arc_value}
use Rattle.gufi_sums.specs.declared.summary.Summary.{Summary}
use Rattle.gufi_sums.specs.declared.blocks.Slot.{Slot}
use Rattle.gufi_sums.specs.declared.blocks.Slots.{Slots}
use Rattle.gufi_sums.specs.Total.{empty}
use Rattle.gufi_sums.specs.SumLists.{SumLists}

-- the sums of each block: of those that are shared, and then of the last one
abbrev pub lists_of : {Z : Type 0} → List (Arc (List Summary) Z) → List Summary → List (List Summary)
lists_of blocks last = map arc_value blocks ++ last ∷ []

abbrev pub sum_at : List (List Summary) → Slot → Summary
sum_at lists slot = slice_index_or (slice_index_or lists slot.block []) slot.at empty

abbrev pub sums_in : List (List Summary) → List Slots → SumLists
sums_in lists slots = record { own = map (λ both. sum_at lists both.own) slots; below = map (λ both. sum_at lists both.below) slots }

-- there is a sum at the slot
pub record Stands (lists : List (List Summary)) (slot : Slot) : Type 0 where
  pub block : slot.block < length lists
  pub within : slot.at < length (slice_index_or lists slot.block [])

-- there is one at each of the two
pub record BothStand (lists : List (List Summary)) (both : Slots) : Type 0 where
  pub own : Stands lists both.own
  pub below : Stands lists both.below

-- at each slot there is the same sum as before
pub record Keep (lists after : List (List Summary)) : Type 0 where
  pub stand : (slot : Slot) → Stands lists slot → Stands after slot
  pub same : (slot : Slot) → Stands lists slot → sum_at after slot ≡ sum_at lists slot

abbrev pub moved : ℕ → Slot → Slot
moved by slot = record { block = slot.block + by; at = slot.at }

abbrev pub both_moved : ℕ → Slots → Slots
both_moved by both = record { own = moved by both.own; below = moved by both.below }

-- the blocks of both are among the first so many
pub record AreWithin (count : ℕ) (both : Slots) : Type 0 where
  pub own : both.own.block < count
  pub below : both.below.block < count

-- the blocks that are marked still are
abbrev pub StayMarked : List Bool → List Bool → Type 0
StayMarked marks after = (k : ℕ) → slice_index_or marks k false ≡ true → slice_index_or after k false ≡ true

-- the blocks of both are marked
pub record AreMarked (marks : List Bool) (both : Slots) : Type 0 where
  pub own : slice_index_or marks both.own.block false ≡ true
  pub below : slice_index_or marks both.below.block false ≡ true

-- of the first so many blocks each has a number, and those that are marked have their sums
pub record AreKept (lists : List (List Summary)) (marks : List Bool) (kept : List (List Summary)) (count : ℕ) : Type 0 where
  pub len : length kept ≡ count
  pub each : (k : ℕ) → k < count → slice_index_or marks k false ≡ true → slice_index_or kept k [] ≡ slice_index_or lists k []
