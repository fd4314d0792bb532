-- Rows that stand packed: each as a record, with its base name, its link and what is kept behind it in one text, and its stem there once for the rows that share it.
use Rattle.std.specs.Prelude.{◌≡◌, ℕ, ◌+◌, ◌-◌, ◌^◌, ◌<◌, ◌≤◌, Bool, nat_le, List, [], ◌∷◌, ◌++◌, length, filter, take, drop, slice_index_or, All}
use Rattle.gufi_base.specs.declared.record.Row.{Row}
use Rattle.gufi_base.specs.declared.record.RowRef.{RowRef}
use Rattle.gufi_base.specs.PathParts.{ArePartsOf, path_of_parts}
use Rattle.gufi_base.specs.Extras.{AreKept, kept_xattrs, kept_acl}
use Rattle.gufi_page.specs.declared.text.Stem.{Stem}
use Rattle.gufi_page.specs.declared.text.Ends.{Ends}
use Rattle.gufi_page.specs.declared.page.Packed.{Packed}

-- the bytes of a text from a place to another
abbrev pub between : ℕ → ℕ → List ℕ → List ℕ
between from end text = drop from (take end text)

abbrev pub IsIn : List ℕ → Stem → Type 0
IsIn text stem = (stem.from ≤ stem.end) × (stem.end ≤ length text)

-- what stands past the end of a list of stems
abbrev pub no_stem : Stem
no_stem = record { from = 0; end = 0; first = 0 }

abbrev pub bytes_in : List ℕ → Stem → List ℕ
bytes_in text stem = between stem.from stem.end text

-- the bytes of the stem of a number
abbrev pub stem_in : List ℕ → List Stem → ℕ → List ℕ
stem_in text stems n = bytes_in text (slice_index_or stems n no_stem)

-- a stem is that of the rows from its first on, up to the first of the next stem
abbrev pub has_begun : ℕ → Stem → Bool
has_begun k stem = nat_le stem.first k

-- the number of a row's stem
abbrev pub number_at : List Stem → ℕ → ℕ
number_at stems k = length (filter (has_begun k) stems) - 1

abbrev pub base_in : List ℕ → Ends → List ℕ
base_in text ends = between ends.at (ends.at + ends.name) text

-- where the link ends, and what is kept behind it begins
abbrev pub end_of : Ends → ℕ
end_of ends = ends.at + ends.name + ends.link

abbrev pub link_in : List ℕ → Ends → List ℕ
link_in text ends = between (ends.at + ends.name) (end_of ends) text

abbrev pub xattrs_in : List ℕ → Ends → List ℕ
xattrs_in text ends = kept_xattrs text (end_of ends) ends.extras

abbrev pub acl_in : List ℕ → Ends → List ℕ
acl_in text ends = kept_acl text (end_of ends) ends.extras

abbrev pub IsWithin : List ℕ → Ends → Type 0
IsWithin text ends = AreKept text (end_of ends) ends.extras

-- a packed row, with the bytes of its stem
abbrev pub row_in : List ℕ → List ℕ → Packed → Row
row_in text stem p = record {
  path = path_of_parts stem (base_in text p.ends);
  rec = record { meta = p.meta; link = link_in text p.ends; xattrs = xattrs_in text p.ends; acl = acl_in text p.ends };
}

-- the rows from a number on
abbrev pub rows_from : List ℕ → List Stem → ℕ → List Packed → List Row
rows_from text stems k [] = []
rows_from text stems k (p ∷ rows) = row_in text (stem_in text stems (number_at stems k)) p ∷ rows_from text stems (k + 1) rows

abbrev pub rows_in : List ℕ → List Stem → List Packed → List Row
rows_in text stems rows = rows_from text stems 0 rows

-- there are the stem and the bytes of the row of a number, and they are the parts of a path
pub record IsRow (text : List ℕ) (stems : List Stem) (k : ℕ) (p : Packed) : Type 0 where
  pub stem : number_at stems k < length stems
  pub within : IsWithin text p.ends
  pub parts : ArePartsOf (stem_in text stems (number_at stems k)) (base_in text p.ends) (row_in text (stem_in text stems (number_at stems k)) p).path

abbrev pub Ascend : List Stem → Type 0
Ascend stems = (i j : ℕ) → i ≤ j → j < length stems → (slice_index_or stems i no_stem).first ≤ (slice_index_or stems j no_stem).first

-- each stem has begun at a row
abbrev pub Begin : ℕ → List Stem → Type 0
Begin k stems = All (λ s. s.first ≤ k) stems

pub record IsPage (text : List ℕ) (stems : List Stem) (rows : List Packed) : Type 0 where
  pub few : length rows < 2 ^ 32
  pub stems_in : All (IsIn text) stems
  pub ascend : Ascend stems
  pub begin : Begin (length rows) stems
  pub each : (k : ℕ) (d : Packed) → k < length rows → IsRow text stems k (slice_index_or rows k d)

-- a text and its stems go on by some bytes, and by some stems of the row of a number
pub record GoesOn (at : ℕ) (text next : List ℕ) (before after : List Stem) : Type 0 where
  pub bytes : (more : List ℕ) × (next ≡ text ++ more)
  pub stems : (more : List Stem) × (after ≡ before ++ more) × All (λ s. s.first ≡ at) more
  pub stems_in : All (IsIn next) after

-- the parts of a row stand in a text, its stem as the last one
pub record IsPut (text : List ℕ) (stems : List Stem) (row : RowRef) (ends : Ends) : Type 0 where
  pub some : 0 < length stems
  pub within : IsWithin text ends
  pub stem : stem_in text stems (length stems - 1) ≡ row.stem.now
  pub base : base_in text ends ≡ row.base.now
  pub link : link_in text ends ≡ row.link.now
  pub xattrs : xattrs_in text ends ≡ row.xattrs.now
  pub acl : acl_in text ends ≡ row.acl.now

-- of stems that ascend, those below a place have begun at a row, and the others not
pub record HaveBegun (stems : List Stem) (k place : ℕ) : Type 0 where
  pub within : place ≤ length stems
  pub below : (i : ℕ) → i < place → (slice_index_or stems i no_stem).first ≤ k
  pub behind : (i : ℕ) → place ≤ i → i < length stems → k < (slice_index_or stems i no_stem).first
