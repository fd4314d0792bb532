-- Packed entries in two lists, put together pairwise.
use Rattle.std.proofs.Common.{◌≡◌, ◌∙◌, ℕ, zero, suc, ◌+◌, ◌-◌, ◌<◌, List, [], ◌∷◌, ◌++◌, length, take, drop, map, get_or, refl, sym, ap, arith}
use Rattle.std.proofs.lemmas.Simd.{get_or-zip2, length-zip2, zip2-map}
use Rattle.gufi_base.specs.declared.record.Meta.{Meta}
use Rattle.gufi_tree.specs.declared.bundle.Packed.{Packed}
use Rattle.gufi_tree.specs.declared.pending.PlacedRow.{PlacedRow}
use Rattle.gufi_tree.specs.declared.rows.Spot.{Spot}
use Rattle.gufi_tree.specs.Packs.{shifted_row}
use Rattle.gufi_tree.specs.Rows.{packed_row, packed_rows, placed_meta, shifted_spot}
use lib.Lanes.{zip2}

module _ {X Y Z : Type 0} (f : X → Y → Z) where
  pub zip2-append : (xs more : List X) (ys rest : List Y) → length xs ≡ length ys → zip2 f (xs ++ more) (ys ++ rest) ≡ zip2 f xs ys ++ zip2 f more rest
  zip2-append [] more [] rest same = refl
  zip2-append [] more (y ∷ ys) rest same = absurd (omega arith)
  zip2-append (x ∷ xs) more [] rest same = absurd (omega arith)
  zip2-append (x ∷ xs) more (y ∷ ys) rest same = ap (λ zs. f x y ∷ zs) (zip2-append xs more ys rest (omega arith))

  zip2-take : (n : ℕ) (xs : List X) (ys : List Y) → zip2 f (take n xs) (take n ys) ≡ take n (zip2 f xs ys)
  zip2-take zero xs ys = refl
  zip2-take (suc n) [] ys = refl
  zip2-take (suc n) (x ∷ xs) [] = refl
  zip2-take (suc n) (x ∷ xs) (y ∷ ys) = ap (λ zs. f x y ∷ zs) (zip2-take n xs ys)

  zip2-drop : (n : ℕ) (xs : List X) (ys : List Y) → length xs ≡ length ys → zip2 f (drop n xs) (drop n ys) ≡ drop n (zip2 f xs ys)
  zip2-drop zero xs ys same = refl
  zip2-drop (suc n) [] ys same = refl
  zip2-drop (suc n) (x ∷ xs) [] same = absurd (omega arith)
  zip2-drop (suc n) (x ∷ xs) (y ∷ ys) same = zip2-drop n xs ys (omega arith)

-- rows as they are kept, and as they are seen
module _ (spots : List Spot) (metas : List Meta) (rows : List Packed) (view : packed_rows spots metas ≡ rows) (same : length spots ≡ length metas) where
  pub as_many : length spots ≡ length rows
  as_many = sym (length-zip2 packed_row spots metas same) ∙ ap length view

  pub row_at : (place : ℕ) (spot : Spot) (meta : Meta) (row : Packed) → place < length rows → packed_row (get_or spots place spot) (get_or metas place meta) ≡ get_or rows place row
  row_at place spot meta row lt =
      let many = as_many in
      sym (get_or-zip2 packed_row spots metas place spot meta row (omega arith) (omega arith)) ∙ ap (λ (rs : List Packed). get_or rs place row) view

  pub rows_between : (first count : ℕ) → packed_rows (take (first + count - first) (drop first spots)) (take (first + count - first) (drop first metas)) ≡ take count (drop first rows)
  rows_between first count =
      let size : first + count - first ≡ count = omega arith in
      zip2-take packed_row (first + count - first) (drop first spots) (drop first metas)
      ∙ ap (take (first + count - first)) (zip2-drop packed_row first spots metas same ∙ ap (drop first) view) ∙ ap (λ (n : ℕ). take n (drop first rows)) size

  pub rows_pushed : (more : List Spot) (rest : List Meta) (base : ℕ) (entries : List PlacedRow) → more ≡ spots ++ map (shifted_spot base) entries → rest ≡ metas ++ map placed_meta entries
      → packed_rows more rest ≡ rows ++ map (shifted_row base) entries
  rows_pushed more rest base entries front back =
      ap (λ (ss : List Spot). packed_rows ss rest) front ∙ ap (packed_rows (spots ++ map (shifted_spot base) entries)) back
      ∙ zip2-append packed_row spots (map (shifted_spot base) entries) metas (map placed_meta entries) same
      ∙ ap (λ (rs : List Packed). rs ++ packed_rows (map (shifted_spot base) entries) (map placed_meta entries)) view
      ∙ ap (λ (rs : List Packed). rows ++ rs) (zip2-map packed_row (shifted_spot base) placed_meta entries)
