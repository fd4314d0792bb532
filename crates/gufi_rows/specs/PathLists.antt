-- Lists of paths whose bytes stand in one text: of each path, the stem and the base name.
use Rattle.std.specs.Prelude.{◌≡◌, ℕ, ◌+◌, ◌-◌, ◌^◌, ◌≤◌, ◌<◌, Bool, true, nat_lt, List, ◌++◌, length, take, drop, map, slice_index_or, All, Option, Some, None}
use Rattle.std.specs.List.{range_with_len}
use Rattle.std.specs.List.Sorted.{IsPermutation, IsSortedBy}
use Rattle.std.specs.Ordering.{is_lt}
use Rattle.std.specs.declared.cmp.Ordering.TheVariants.{Less}
use Rattle.gufi_rows.specs.declared.spot.Span.{Span}
use Rattle.gufi_rows.specs.declared.spot.Spot.{Spot}
use Rattle.gufi_base.specs.PathParts.{path_of_parts, ArePartsOf}
use Rattle.gufi_base.specs.Paths.{Components, path_cmp}

-- the second text is the first, and perhaps more
abbrev pub Grows : List ℕ → List ℕ → Type 0
Grows text next = (more : List ℕ) × (next ≡ text ++ more)

abbrev pub bytes_in : List ℕ → Span → List ℕ
bytes_in text span = drop span.from (take span.end text)

abbrev pub IsSpan : List ℕ → Span → Type 0
IsSpan text span = (span.from ≤ span.end) × (span.end ≤ length text)

abbrev pub path_in : List ℕ → Spot → Components
path_in text spot = path_of_parts (bytes_in text spot.stem) (bytes_in text spot.base)

abbrev pub paths_in : List ℕ → List Spot → List Components
paths_in text spots = map (path_in text) spots

pub record IsSpot (text : List ℕ) (spot : Spot) : Type 0 where
  pub stem_in : IsSpan text spot.stem
  pub base_in : IsSpan text spot.base
  pub parts : ArePartsOf (bytes_in text spot.stem) (bytes_in text spot.base) (path_in text spot)

-- a span of a text, where that text stands behind another of so many bytes
abbrev pub span_behind : ℕ → Span → Span
span_behind by span = record { from = by + span.from; end = by + span.end }

abbrev pub spot_behind : ℕ → Spot → Spot
spot_behind by spot = record { stem = span_behind by spot.stem; base = span_behind by spot.base; follows = spot.follows }

-- a spot that is said to follow, or isn't
abbrev pub follower : Bool → Spot → Spot
follower said spot = record { stem = spot.stem; base = spot.base; follows = said }

-- its places are numbers of 32 bits then
abbrev pub FitsBehind : ℕ → Span → Type 0
FitsBehind by span = (span.from ≤ span.end) × (by + span.end < 2 ^ 32)

abbrev pub SpotFitsBehind : ℕ → Spot → Type 0
SpotFitsBehind by spot = FitsBehind by spot.stem × FitsBehind by spot.base

-- a spot that is said to follow stands behind the one before it
abbrev pub Follow : List ℕ → List Spot → Type 0
Follow text spots =
    (k : ℕ) (d : Spot) → k < length spots → (slice_index_or spots k d).follows ≡ true
    → (0 < k) × (path_cmp (path_in text (slice_index_or spots (k - 1) d)) (path_in text (slice_index_or spots k d)) ≡ Less)

-- the last spot, where there is one
abbrev pub IsLast : List Spot → Option Spot → Type 0
IsLast spots None = length spots ≡ 0
IsLast spots (Some spot) = (0 < length spots) × (spot ≡ slice_index_or spots (length spots - 1) spot)

pub record AreSpots (text : List ℕ) (spots : List Spot) : Type 0 where
  pub each : All (IsSpot text) spots
  pub follow : Follow text spots

-- the same spots, each but the first marked as one that follows
abbrev pub AreMarked : List Spot → List Spot → Type 0
AreMarked spots marked =
    (length marked ≡ length spots) × ((k : ℕ) (d : Spot) → k < length spots → slice_index_or marked k d ≡ follower (nat_lt 0 k) (slice_index_or spots k d))

-- the elements at the places, in their order
abbrev pub picked : {A : Type 0} → List A → A → List ℕ → List A
picked xs d places = map (λ k. slice_index_or xs k d) places

-- each place once, so that the paths there are in order
abbrev pub ArePlaces : List Components → List ℕ → Type 0
ArePlaces paths places = IsPermutation (range_with_len 0 (length paths)) places

abbrev pub InOrder : List Components → Type 0
InOrder paths = IsSortedBy (λ p q. is_lt (path_cmp p q)) paths

-- the path of these parts stands behind that of the last spot
abbrev pub StandsBehind : List ℕ → Option Spot → List ℕ → List ℕ → Type 0
StandsBehind text None front last = ⊥
StandsBehind text (Some before) front last = (path : Components) → ArePartsOf front last path → path_cmp (path_in text before) path ≡ Less
