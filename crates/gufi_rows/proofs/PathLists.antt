-- Lists of paths: one more, the path at a place, and places in order.
use Rattle.std.proofs.Common.{◌≡◌, ℕ, zero, suc, ◌-◌, ◌<◌, ◌≤◌, true, false, cond, List, [], ◌∷◌, ◌++◌, length, get_or, refl, sym, ap, ◌∙◌, subst, arith, append_assoc, length-append, ⊎_elim}
use Rattle.std.specs.Prelude.{Option, Some, None, All, Result, Ok, Err, OnErr}
use Rattle.std.specs.Ordering.{is_lt}
use Rattle.std.specs.List.{flat_map, range_with_len}
use Rattle.std.specs.List.Sorted.{IsPermutation}
use Rattle.std.specs.declared.cmp.Ordering.TheVariants.{Less}
use Rattle.std.proofs.lemmas.Bool.{cases_lt}
use Rattle.std.proofs.lemmas.Grind.{flat_map-append}
use Rattle.std.proofs.lemmas.List.{map-append, get_or-map, get_or_append_left, get_or_default}
use Rattle.std.proofs.lemmas.List.Elements.{All-append}
use Rattle.std.proofs.lemmas.List.FromFn.{fill_by_all}
use Rattle.std.proofs.lemmas.List.Folds.{flat_map-map}
use Rattle.std.proofs.lemmas.List.Sorted.{IsPermutation-map, IsPermutation-trans, IsPermutation-sym, IsPermutation-append_left, IsPermutation-append}
use Rattle.std.proofs.Math.Seq.{get_or-append_seam}
use Rattle.gufi_base.specs.declared.record.Row.{Row}
use Rattle.gufi_rows.specs.declared.spot.Spot.{Spot}
use Rattle.gufi_base.specs.Basics.{ascends}
use Rattle.gufi_base.specs.Paths.{Components, path_cmp, path_text, stem}
use Rattle.gufi_base.specs.declared.record.RowRef.{RowRef}
use Rattle.gufi_base.specs.Rows.{row_cmp, Stands}
use Rattle.gufi_base.specs.PathParts.{ArePartsOf}
use Rattle.gufi_rows.specs.PathLists.{AreSpots, Follow, Grows, IsLast, IsSpot, StandsBehind, InOrder, ArePlaces, path_in, paths_in, picked}
use Rattle.gufi_rows.specs.PathLines.{path_line, path_lines, row_paths, ArePathsOf}
use Rattle.gufi_base.proofs.CutParts.{path_text-parts}
use Rattle.gufi_base.proofs.Prefixes.{paths_total}
use Rattle.gufi_base.proofs.SortedOnce.{same_from_sorted}
use Rattle.gufi_rows.proofs.Spots.{path_in-grows, IsSpot-grows}

-- a text that grows keeps its paths
pub paths_in-grows : (text next : List ℕ) (spots : List Spot) → Grows text next → All (IsSpot text) spots → paths_in next spots ≡ paths_in text spots
paths_in-grows text next [] g all = refl
paths_in-grows text next (spot ∷ spots) g all =
    let first : path_in next spot ≡ path_in text spot = path_in-grows text next spot g (all 0 spot (omega arith)) in
    let rest : paths_in next spots ≡ paths_in text spots = paths_in-grows text next spots g (λ k d h. all (suc k) d (omega arith)) in
    ap (λ (p : Components). p ∷ paths_in next spots) first ∙ ap (λ (ps : List Components). path_in text spot ∷ ps) rest

pub AreSpots-grows : (text next : List ℕ) (spots : List Spot) → Grows text next → AreSpots text spots → AreSpots next spots
AreSpots-grows text next spots g are = record {
  each = λ k d h. IsSpot-grows text next _ g (are.each k d h);
  follow = λ k d h f.
      let old = are.follow k d h f in (
        old.0,
        ap (λ (p : Components). path_cmp p (path_in next (get_or spots k d))) (path_in-grows text next _ g (are.each (k - 1) d (omega (arith, h))))
            ∙ ap (path_cmp (path_in text (get_or spots (k - 1) d))) (path_in-grows text next _ g (are.each k d h)) ∙ old.1,
      );
}

behind_last : (text : List ℕ) (spots : List Spot) (last : Option Spot) (front name : List ℕ) (path : Components) (d : Spot) → IsLast spots last → ArePartsOf front name path
    → StandsBehind text last front name → (0 < length spots) × (path_cmp (path_in text (get_or spots (length spots - 1) d)) path ≡ Less)
behind_last text spots None front name path d is parts h = absurd h
behind_last text spots (Some before) front name path d is parts h =
    (is.0, ap (λ (s : Spot). path_cmp (path_in text s) path) (get_or_default spots (length spots - 1) d before (omega (arith, is.0)) ∙ sym is.1) ∙ h path parts)

module _ (text : List ℕ) (spots : List Spot) (last : Option Spot) (spot : Spot) (front name : List ℕ) (path : Components) (is : IsLast spots last) (are : AreSpots text spots)
    (kept : IsSpot text spot × (path_in text spot ≡ path)) (parts : ArePartsOf front name path) (behind : spot.follows ≡ true → StandsBehind text last front name) where
  one : All (IsSpot text) (spot ∷ [])
  one zero d h = kept.0
  one (suc k) d h = absurd (omega arith)

  all_more : Follow text (spots ++ spot ∷ [])
  all_more k d h f = ⊎_elim old new (cases_lt k (length spots)) where
    old : k < length spots → (0 < k) × (path_cmp (path_in text (get_or (spots ++ spot ∷ []) (k - 1) d)) (path_in text (get_or (spots ++ spot ∷ []) k d)) ≡ Less)
    old m =
        let here = get_or_append_left spots (spot ∷ []) d k m in
        let before = get_or_append_left spots (spot ∷ []) d (k - 1) (omega (arith, m)) in
        let was = are.follow k d m (sym (ap (λ (s : Spot). s.follows) here) ∙ f) in
        (was.0, rw (here, before) was.1)

    new : length spots ≤ k → (0 < k) × (path_cmp (path_in text (get_or (spots ++ spot ∷ []) (k - 1) d)) (path_in text (get_or (spots ++ spot ∷ []) k d)) ≡ Less)
    new m =
        let e : k ≡ length spots = omega (arith, m, h, length-append spots (spot ∷ [])) in
        let here : get_or (spots ++ spot ∷ []) k d ≡ spot = ap (λ i. get_or (spots ++ spot ∷ []) i d) e ∙ get_or-append_seam spots spot [] d in
        let was = behind_last text spots last front name path d is parts (behind (sym (ap (λ (s : Spot). s.follows) here) ∙ f)) in
        let before : get_or (spots ++ spot ∷ []) (k - 1) d ≡ get_or spots (length spots - 1) d =
        get_or_append_left spots (spot ∷ []) d (k - 1) (omega (arith, e, was.0)) ∙ ap (λ i. get_or spots (i - 1) d) e in
        (omega (arith, e, was.0), rw (here, before, kept.1) was.1)

  pub AreSpots-push : AreSpots text (spots ++ spot ∷ [])
  AreSpots-push = record { each = All-append (IsSpot text) spots (spot ∷ []) are.each one; follow = all_more }

-- the path at a place
pub parts_at : (text : List ℕ) (spots : List Spot) (k : ℕ) (spot : Spot) → AreSpots text spots → k < length spots → spot ≡ get_or spots k spot
    → IsSpot text spot × (get_or (paths_in text spots) k [] ≡ path_in text spot)
parts_at text spots k spot are h e =
    (subst (IsSpot text) (sym e) (are.each k spot h), get_or-map (path_in text) spots k spot [] h ∙ ap (path_in text) (sym e))

-- each place once gives each element once
pub picked-IsPermutation : {A : Type 0} (xs : List A) (d : A) (places : List ℕ) → IsPermutation (range_with_len 0 (length xs)) places → IsPermutation xs (picked xs d places)
picked-IsPermutation xs d places h =
    subst (λ l. IsPermutation l (picked xs d places)) (sym (fill_by_all (λ k. get_or xs k d) xs (length xs) d refl (λ k m. refl)))
    (IsPermutation-map (λ k. get_or xs k d) (range_with_len 0 (length xs)) places h)

pub line-parts : (front last text : List ℕ) (path : Components) → ArePartsOf front last path → ((text ++ front) ++ last) ++ 10 ∷ [] ≡ text ++ path_line path
line-parts front last text path parts =
    ap (λ (t : List ℕ). t ++ 10 ∷ []) (append_assoc text front last ∙ ap (λ (t : List ℕ). text ++ t) (ap (λ (t : List ℕ). t ++ last) parts.stem ∙ ap (λ (t : List ℕ). stem path ++ t) parts.base ∙ sym (path_text-parts path)))
    ∙ append_assoc text (path_text path) (10 ∷ [])

-- the texts of the elements at the places
abbrev pub texts_at : {A : Type 0} → (A → List ℕ) → List A → A → List ℕ → List ℕ
texts_at text xs d places = flat_map text (picked xs d places)

pub texts-join : {A : Type 0} (text : A → List ℕ) (xs : List A) (d : A) (ks js : List ℕ) → texts_at text xs d (ks ++ js) ≡ texts_at text xs d ks ++ texts_at text xs d js
texts-join text xs d ks js = ap (flat_map text) (map-append (λ k. get_or xs k d) ks js) ∙ flat_map-append text (picked xs d ks) (picked xs d js)

-- rows ascend as their paths do
pub ascends-paths : (rows : List Row) → ascends path_cmp (row_paths rows) ≡ ascends row_cmp rows
ascends-paths [] = refl
ascends-paths (row ∷ []) = refl
ascends-paths (row ∷ next ∷ rows) = ap (λ b. cond (is_lt (path_cmp row.path next.path)) b false) (ascends-paths (next ∷ rows))

pub picked-rows : (paths : List Components) (places : List ℕ) (rows : List Row) → ArePlaces paths places → InOrder (picked paths [] places) → ArePathsOf paths rows → ascends row_cmp rows ≡ true
    → picked paths [] places ≡ row_paths rows
picked-rows paths places rows are up of h =
    same_from_sorted path_cmp paths_total (row_paths rows) (picked paths [] places) (ascends-paths rows ∙ h)
    (IsPermutation-trans (row_paths rows) paths (picked paths [] places) (IsPermutation-sym paths (row_paths rows) of) (picked-IsPermutation paths [] places are)) up

pub picked-lines : (rows : List Row) → flat_map path_line (row_paths rows) ≡ path_lines rows
picked-lines rows = flat_map-map path_line (λ (row : Row). row.path) rows

pub OnErr-always : {A E : Type 0} (r : Result A E) (P : Type 0) → P → OnErr r P
OnErr-always (Ok x) P h = tt
OnErr-always (Err e) P h = h

-- what a list of paths stands for, with one row more and with those of another list
pub paths_pushed : (old new : List Components) (ref : RowRef) → ((path : Components) → ArePartsOf ref.stem.now ref.base.now path → new ≡ old ++ path ∷ [])
    → (of : Row) (rows : List Row) → Stands ref of → ArePathsOf old rows → ArePathsOf new (rows ++ of ∷ [])
paths_pushed old new ref h of rows stands are =
    subst (λ l. IsPermutation l (row_paths (rows ++ of ∷ []))) (sym (h of.path (record { names = stands.names; stem = stands.stem; base = stands.base })))
    (subst (IsPermutation (old ++ of.path ∷ [])) (sym (map-append (λ (row : Row). row.path) rows (of ∷ []))) (IsPermutation-append_left (of.path ∷ []) old (row_paths rows) are))

pub paths_joined : (old other new : List Components) → IsPermutation (old ++ other) new → (rows more : List Row) → ArePathsOf old rows → ArePathsOf other more → ArePathsOf new (rows ++ more)
paths_joined old other new h rows more are also =
    IsPermutation-trans new (old ++ other) (row_paths (rows ++ more)) (IsPermutation-sym (old ++ other) new h)
    (subst (IsPermutation (old ++ other)) (sym (map-append (λ (row : Row). row.path) rows more)) (IsPermutation-append old (row_paths rows) other (row_paths more) are also))
