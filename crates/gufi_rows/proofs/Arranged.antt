-- Lists of paths and of rows whose elements are put at places.
use Rattle.std.proofs.Common.{◌≡◌, ℕ, ◌+◌, ◌-◌, ◌<◌, ◌≤◌, Bool, false, List, [], ◌∷◌, length, get_or, refl, sym, ap, ◌∙◌, subst, arith, ltb-true}
use Rattle.std.specs.Prelude.{All, map, nat_lt}
use Rattle.std.specs.List.{range_with_len}
use Rattle.std.specs.List.Sorted.{IsPermutation}
use Rattle.std.specs.declared.cmp.Ordering.TheVariants.{Less}
use Rattle.std.proofs.lemmas.List.{length-map, get_or-map, get_or_default, same_lists}
use Rattle.std.proofs.lemmas.List.Elements.{All-append, All-map, All-nil, All-tail}
use Rattle.std.proofs.lemmas.List.FromFn.{get_or-range_with_len, length-range_with_len}
use Rattle.gufi_base.specs.declared.record.Row.{Row}
use Rattle.gufi_base.specs.declared.extras.Extras.TheVariants.{Neither}
use Rattle.gufi_rows.specs.declared.kept.Kept.{Kept}
use Rattle.gufi_rows.specs.declared.spot.Spot.{Spot}
use Rattle.gufi_rows.specs.declared.stretch.Stretch.{Stretch}
use Rattle.gufi_base.specs.Paths.{Components, path_cmp}
use Rattle.gufi_rows.specs.PathLists.{AreMarked, ArePlaces, AreSpots, IsSpot, follower, path_in, paths_in, picked}
use Rattle.gufi_rows.specs.PathPlaces.{Ascend, places_between, places_of}
use Rattle.gufi_rows.specs.RowLists.{AreRecords, IsKept, no_row, rows_in}
use Rattle.gufi_rows.proofs.PathLists.{picked-IsPermutation}
use Rattle.gufi_rows.proofs.RowLists.{length-rows_in, places_in_range, row_in}

pub no_spot : Spot
no_spot = record { stem = record { from = 0; end = 0 }; base = record { from = 0; end = 0 }; follows = false }

pub no_kept : Kept
no_kept = record { meta = no_row.rec.meta; link = record { from = 0; end = 0 }; extras = Neither }

map-picked : {A B : Type 0} (f : A → B) (xs : List A) (d : A) (e : B) (places : List ℕ) → All (λ k. k < length xs) places → map f (picked xs d places) ≡ picked (map f xs) e places
map-picked f xs d e [] within = refl
map-picked f xs d e (k ∷ places) within =
    ap (λ y. y ∷ map f (picked xs d places)) (sym (get_or-map f xs k d e (within 0 0 (omega arith))))
    ∙ ap (λ l. get_or (map f xs) k e ∷ l) (map-picked f xs d e places (All-tail (λ j. j < length xs) k places within))

All-picked : {A : Type 0} (P : A → Type 0) (xs : List A) (d : A) (places : List ℕ) → All (λ k. k < length xs) places → All P xs → All P (picked xs d places)
All-picked P xs d places within each = All-map P (λ k. get_or xs k d) places (λ k e h. each (get_or places k e) d (within k e h))

-- the places of stretches that end within a list
pub places-within : (n : ℕ) (stretches : List Stretch) → All (λ (s : Stretch). s.end ≤ n) stretches → All (λ k. k < n) (places_of stretches)
places-within n [] within = All-nil (λ k. k < n)
places-within n (s ∷ stretches) within =
    All-append (λ k. k < n) (places_between s.from s.end) (places_of stretches)
    (λ k d h.
    let inside : k < s.end - s.from = omega (arith, h, length-range_with_len s.from (s.end - s.from)) in
    omega (arith, get_or-range_with_len s.from (s.end - s.from) k d inside, inside, within 0 s (omega arith)))
    (places-within n stretches (All-tail (λ (t : Stretch). t.end ≤ n) s stretches within))

module _ (text : List ℕ) (spots made marked : List Spot) (stretches : List Stretch) (ends : All (λ (s : Stretch). s.end ≤ length (paths_in text spots)) stretches)
    (is : made ≡ picked spots no_spot (places_of stretches)) (are : AreMarked made marked) where
  abbrev places : List ℕ
  places = places_of stretches

  within : All (λ k. k < length spots) places
  within = subst (λ n. All (λ k. k < n) places) (length-map spots (path_in text)) (places-within (length (paths_in text spots)) stretches ends)

  pub paths_in-arranged : paths_in text marked ≡ picked (paths_in text spots) [] places
  paths_in-arranged =
      same_lists _ _ (length-map marked (path_in text) ∙ are.0 ∙ sym (length-map made (path_in text)))
      (λ k e h.
      let old : k < length made = omega (arith, h, are.0, length-map marked (path_in text)) in
      get_or-map (path_in text) marked k no_spot e (omega (arith, old, are.0)) ∙ ap (path_in text) (are.1 k no_spot old) ∙ sym (get_or-map (path_in text) made k no_spot e old))
      ∙ ap (paths_in text) is ∙ map-picked (path_in text) spots no_spot [] places within

  IsSpot-follower : (said : Bool) (spot : Spot) → IsSpot text spot → IsSpot text (follower said spot)
  IsSpot-follower said spot of = record { stem_in = of.stem_in; base_in = of.base_in; parts = of.parts }

  pub AreSpots-arranged : AreSpots text spots → Ascend (picked (paths_in text spots) [] places) → AreSpots text marked
  AreSpots-arranged old up = record {
    each = λ k d h.
        let m : k < length made = omega (arith, h, are.0) in
        subst (IsSpot text) (sym (are.1 k d m)) (IsSpot-follower (nat_lt 0 k) (get_or made k d) (subst (All (IsSpot text)) (sym is) (All-picked (IsSpot text) spots no_spot places within old.each) k d m));
    follow = λ k d h f.
        let ps : List Components = paths_in text marked in
        let behind : 0 < k = ltb-true 0 k (sym (ap (λ (s : Spot). s.follows) (are.1 k d (omega (arith, h, are.0)))) ∙ f) in
        let next : k ≡ k - 1 + 1 = omega (arith, behind) in
        let less : path_cmp (get_or ps (k - 1) []) (get_or ps (k - 1 + 1) []) ≡ Less = subst Ascend (sym paths_in-arranged) up (k - 1) [] (omega (arith, h, behind, length-map marked (path_in text))) in (
          behind,
          ap (λ (p : Components). path_cmp p (path_in text (get_or marked k d))) (sym (get_or-map (path_in text) marked (k - 1) d [] (omega (arith, h))))
              ∙ ap (path_cmp (get_or ps (k - 1) [])) (sym (get_or-map (path_in text) marked k d [] h) ∙ ap (λ i. get_or ps i []) next) ∙ less,
        );
  }

rows_in-picked : (links : List ℕ) (paths : List Components) (records : List Kept) (places : List ℕ) → length paths ≡ length records → All (λ k. k < length paths) places
    → rows_in links (picked paths [] places) (picked records no_kept places) ≡ picked (rows_in links paths records) no_row places
rows_in-picked links paths records [] e within = refl
rows_in-picked links paths records (k ∷ places) e within =
    let inside : k < length records = omega (arith, within 0 0 (omega arith), e) in
    let kept : Kept = get_or records k no_kept in
    ap (λ (r : Row). r ∷ rows_in links (picked paths [] places) (picked records no_kept places)) (sym (row_in links paths records k kept e inside (get_or_default records k no_kept kept inside)))
    ∙ ap (λ l. get_or (rows_in links paths records) k no_row ∷ l) (rows_in-picked links paths records places e (All-tail (λ j. j < length paths) k places within))

module _ (links : List ℕ) (paths next : List Components) (records made : List Kept) (are : AreRecords links paths records) (moved : List ℕ) (all : ArePlaces paths moved)
    (ps : next ≡ picked paths [] moved) (rs : made ≡ picked records no_kept moved) where
  inside : All (λ k. k < length paths) moved
  inside = places_in_range (length paths) moved all

  pub AreRecords-arranged : AreRecords links next made
  AreRecords-arranged = record {
    alike = ap length ps ∙ length-map moved (λ k. get_or paths k []) ∙ sym (length-map moved (λ k. get_or records k no_kept)) ∙ sym (ap length rs);
    each = subst (All (IsKept links)) (sym rs)
        (All-picked (IsKept links) records no_kept moved (λ k d h. omega (arith, inside k d h, are.alike)) are.each);
  }

  pub rows_in-arranged : IsPermutation (rows_in links paths records) (rows_in links next made)
  rows_in-arranged =
      subst (IsPermutation (rows_in links paths records)) (sym (ap (λ l. rows_in links l made) ps ∙ ap (rows_in links (picked paths [] moved)) rs ∙ rows_in-picked links paths records moved are.alike inside))
      (picked-IsPermutation (rows_in links paths records) no_row moved
      (subst (λ n. IsPermutation (range_with_len 0 n) moved) (are.alike ∙ sym (length-rows_in links paths records are.alike)) all))
