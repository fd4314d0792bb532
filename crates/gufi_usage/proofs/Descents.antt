-- The rows from a directory: its own, and those from each subdirectory that may be listed; and what they take up.
use Rattle.std.proofs.Common.{◌≡◌, ◌≢◌, ℕ, zero, suc, ◌+◌, ◌-◌, ◌<◌, ◌≤◌, ◌^◌, Bool, true, false, cond, List, [], ◌∷◌, ◌++◌, map, length, take, get_or, refl, sym, ap, ◌∙◌, subst, arith, append_assoc, length-append}
use Rattle.std.specs.Prelude.{Option}
use Rattle.std.specs.List.{AllByRecursion, filter, flat_map}
use Rattle.std.specs.List.Sorted.{IsPermutation}
use Rattle.std.proofs.lemmas.Grind.{flat_map-append}
use Rattle.std.proofs.lemmas.List.{append-nil, map-append, take_more, take_all, length-map, get_or-map, get_or-replicate}
use Rattle.std.proofs.lemmas.List.Elements.{filter-append}
use Rattle.std.proofs.lemmas.List.Folds.{flat_map-map, length-flat_map-take}
use Rattle.std.proofs.lemmas.List.Sorted.{IsPermutation-trans, IsPermutation-sym, IsPermutation-map, length_permutation}
use Rattle.gufi_base.specs.declared.record.Row.{Row}
use Rattle.gufi_base.specs.Paths.{Components}
use Rattle.gufi_base.specs.Rows.{home}
use Rattle.gufi_base.proofs.Permutations.{IsPermutation-filter, empty_from_length}
use Rattle.gufi_access.specs.declared.class.Principal.{Principal}
use Rattle.gufi_tree.specs.declared.tree.DirId.{DirId}
use Rattle.gufi_tree.specs.Tree.{Directory, own_rows, all_rows, may_list, home_rows, HasTreeShape}
use Rattle.gufi_tree.specs.Listed.{is_listed}
use Rattle.gufi_tree.specs.Places.{path_at, child_ids}
use Rattle.gufi_tree.proofs.Built.{Has, All-Has, All-from_Has}
use Rattle.gufi_tree.proofs.Filters.{Has-filter}
use Rattle.gufi_tree.proofs.Flat.{lists_at-own}
use Rattle.gufi_tree.proofs.Fronts.{open_dirs}
use Rattle.gufi_tree.proofs.Kids.{at_place, Has-get_or}
use Rattle.gufi_tree.proofs.Linked.{path_at-get}
use Rattle.gufi_tree.proofs.Ranges.{own_prefix}
use Rattle.gufi_tree.proofs.RowHomes.{rows_of_homes}
use Rattle.gufi_roll.specs.CanRoll.{can_roll}
use Rattle.gufi_roll.proofs.Nothing.{nothing_rolled}
use Rattle.gufi_snap.specs.Pieces.{front}
use Rattle.gufi_snap.proofs.Pieces.{own-length}
use Rattle.gufi_sums.specs.declared.summary.Summary.{Summary}
use Rattle.gufi_walk.specs.Answer.{shown, listed_rows}
use Rattle.gufi_walk.specs.Walk.{lists_at, open_ids, kid_ids, lies_within, meets}
use Rattle.gufi_walk.proofs.Pieces.{plain_rows}
use Rattle.gufi_walk.proofs.Passed.{IsTest}
use Rattle.gufi_walk.proofs.Bounded.{all_too_deep, task_too_deep}
use Rattle.gufi_walk.proofs.Walked.{IsOpen, IsOpenTop-at, shown_at_top, filtered_fewer, kids_at, kids_open, kids_long}
use Rattle.gufi_usage.specs.declared.usage.Usage.{Usage}
use Rattle.gufi_usage.specs.Near.{rows_from, met_from, near}
use Rattle.gufi_usage.specs.Usages.{usage_of, nothing, both, IsInRange, IsUsage}
use Rattle.gufi_usage.specs.Laws.{usage_of-nil, usage_of-append, IsUsage-counted, IsUsage-reordered}
use Rattle.gufi_usage.proofs.Below.{from-step, filter-flat_map}

-- ---- what rows take up

pub IsUsage-none : (u : Usage) → u ≡ nothing → IsInRange u → IsUsage u []
IsUsage-none u e h = record { is = e ∙ sym usage_of-nil; in_range = h }

pub IsUsage-both : (u v w : Usage) (rows more : List Row) → IsUsage u rows → IsUsage v more → w ≡ both u v → IsInRange w → IsUsage w (rows ++ more)
IsUsage-both u v w rows more a b e h = record {
  is = e ∙ ap (λ x. both x v) a.is ∙ ap (both (usage_of rows)) b.is ∙ sym (usage_of-append rows more);
  in_range = h;
}

module _ (tree : List Directory) (who : Principal) (shape : HasTreeShape tree) where
  -- the rows with a listed home are those of the listed directories
  pub listed-from : (top : Components) → IsPermutation (listed_rows tree who top) (rows_from tree who top)
  listed-from top = IsPermutation-map (shown who) _ _ (rows_of_homes (is_listed tree who top) tree shape)

  pub from-few : (met : Row → Bool) (top : Components) → length (met_from tree who met top) ≤ length (all_rows tree)
  from-few met top =
      omega (
        arith,
        filtered_fewer met (rows_from tree who top),
        length_permutation _ _ (listed-from top),
        length-map (plain_rows tree who top) (shown who),
        filtered_fewer (λ row. is_listed tree who top (home row)) (all_rows tree),
      )

  module _ (k : ℕ) (in_tree : k < length tree) where
    path : Components
    path = path_at tree k

    pub own-few : (d : Directory) → length (own_rows (get_or tree k d)) ≤ length (all_rows tree)
    own-few d = omega (arith, own-length tree shape k in_tree d, few) where
      few : length (home_rows tree (path_at tree k)) ≤ length (all_rows tree)
      few = filtered_fewer _ (all_rows tree)

    unrolled : can_roll tree 0 (path_at tree k) ≡ false
    unrolled =
        let d : Directory = (at_place tree k in_tree).0 in
        let roll : Directory → Bool = λ dir. can_roll tree 0 dir.path in
        ap (can_roll tree 0) (path_at-get tree k d in_tree) ∙ sym (get_or-map roll tree k d true in_tree)
        ∙ ap (λ (l : List Bool). get_or l k true) (sym (nothing_rolled tree shape)) ∙ get_or-replicate (length tree) k false true in_tree

    -- the subdirectories that may be listed, by their places
    pub open_at : map (λ (id : DirId). path_at tree id.0) (open_ids tree who (path_at tree k)) ≡ map (λ (dir : Directory). dir.path) (open_dirs tree who (path_at tree k))
    open_at =
        subst (λ b. map (λ (id : DirId). path_at tree id.0) (cond b [] (open_ids tree who (path_at tree k))) ≡ cond b [] (map (λ (dir : Directory). dir.path) (open_dirs tree who (path_at tree k)))) unrolled (kids_at tree who shape 0 (path_at tree k))

    pub record IsKid (id : DirId) : Type 0 where
      pub within : id.0 < length tree
      pub listed : lists_at tree who (path_at tree id.0) ≡ true
      pub deeper : length (path_at tree id.0) ≡ length (path_at tree k) + 1

    pub are_kids : AllByRecursion IsKid (open_ids tree who (path_at tree k))
    are_kids =
        let p : Components = path_at tree k in
        let same : kid_ids tree who p 0 ≡ open_ids tree who p = ap (λ b. cond b [] (open_ids tree who p)) unrolled in
        let open_ = subst (AllByRecursion (IsOpen tree who p)) same (kids_open tree who shape 0 p p (own_prefix p)) in
        let long = subst (AllByRecursion (λ (id : DirId). length (path_at tree id.0) ≡ length p + 1)) same (kids_long tree who shape 0 p) in
        All-from_Has IsKid (open_ids tree who p) (λ id h. record {
          within = (All-Has (IsOpen tree who p) (open_ids tree who p) id open_ h).within;
          listed = (Has-filter (λ (i : DirId). lists_at tree who (path_at tree i.0)) (child_ids tree p) id h).1;
          deeper = All-Has (λ (i : DirId). length (path_at tree i.0) ≡ length p + 1) (open_ids tree who p) id long h;
        })

    module _ (listed : lists_at tree who (path_at tree k) ≡ true) where
      pub here : (d : Directory) × Has tree d × (may_list who d ≡ true) × (d.path ≡ path_at tree k) × ((e : Directory) → get_or tree k e ≡ d)
      here =
          let w = at_place tree k in_tree in
          (w.0, w.1, sym (lists_at-own tree who (λ p. false) shape w.0 w.1) ∙ ap (lists_at tree who) w.2 ∙ listed, w.2, w.3)

      -- where nothing at and below the directory is as high as what meets the question, no row does
      pub far_none : (skips : Summary → Bool) (deepest : Option ℕ) (above : ℕ) (asks : Row → ℕ → Bool) → IsTest skips deepest asks → lies_within deepest above (path_at tree k) ≡ false
          → met_from tree who (meets asks above) (path_at tree k) ≡ []
      far_none skips deepest above asks test far =
          let p : Components = path_at tree k in
          let met = meets asks above in
          let none = all_too_deep tree 0 who skips deepest above asks test (front tree who p 0) (task_too_deep tree 0 who deepest above (λ q. true) p far) in
          let moved = IsPermutation-filter met _ _ (IsPermutation-trans _ _ _ (IsPermutation-sym _ _ (listed-from p)) (shown_at_top tree who shape 0 p (IsOpenTop-at tree who shape k in_tree listed))) in
          empty_from_length _ (omega (arith, length_permutation _ _ moved, ap length none))

      module _ (met : Row → Bool) (ids : List DirId) (same : ids ≡ open_ids tree who (path_at tree k)) where
        abbrev pub kid_rows : List DirId → List Row
        kid_rows kids = flat_map (λ (id : DirId). met_from tree who met (path_at tree id.0)) kids

        abbrev pub own_met : Directory → List Row
        own_met d = filter met (map (shown who) (own_rows (get_or tree k d)))

        step : (d : Directory) → IsPermutation (met_from tree who met (path_at tree k)) (own_met d ++ kid_rows ids)
        step d =
            let p : Components = path_at tree k in
            let F : Components → List Row = rows_from tree who in
            let whole = from-step tree who (shown who) shape here.0 here.1 here.2 in
            let at_path : IsPermutation (F p) (map (shown who) (own_rows here.0) ++ flat_map (λ k. F k.path) (open_dirs tree who p)) =
            subst (λ q. IsPermutation (F q) (map (shown who) (own_rows here.0) ++ flat_map (λ (k : Directory). F k.path) (open_dirs tree who q))) here.3 whole in
            let kids : flat_map (λ (k : Directory). F k.path) (open_dirs tree who p) ≡ flat_map (λ (id : DirId). F (path_at tree id.0)) ids =
            sym (flat_map-map F (λ (dir : Directory). dir.path) (open_dirs tree who p)) ∙ ap (flat_map F) (sym open_at) ∙ flat_map-map F (λ (id : DirId). path_at tree id.0) (open_ids tree who p)
            ∙ ap (flat_map (λ (id : DirId). F (path_at tree id.0))) (sym same) in
            let own : map (shown who) (own_rows here.0) ≡ map (shown who) (own_rows (get_or tree k d)) = ap (λ (x : Directory). map (shown who) (own_rows x)) (sym (here.4 d)) in
            let rows : IsPermutation (F p) (map (shown who) (own_rows (get_or tree k d)) ++ flat_map (λ (id : DirId). F (path_at tree id.0)) ids) =
            subst (IsPermutation (F p)) (λ i. own i ++ kids i) at_path in
            subst (IsPermutation (met_from tree who met p)) (filter-append met (map (shown who) (own_rows (get_or tree k d))) (flat_map (λ (id : DirId). F (path_at tree id.0)) ids) ∙ ap (λ l. own_met d ++ l) (filter-flat_map (λ (id : DirId). F (path_at tree id.0)) met ids)) (IsPermutation-filter met _ _ rows)

        pub kid_at : (i : ℕ) (x : DirId) → i < length ids → IsKid (get_or ids i x)
        kid_at i x h = All-Has IsKid ids (get_or ids i x) (subst (AllByRecursion IsKid) (sym same) are_kids) (Has-get_or ids i x h)

        pub near_room : (i : ℕ) (x : DirId) (d : Directory) (u v : Usage) → i < length ids → length (all_rows tree) < 2 ^ 40
            → IsUsage u (own_met d ++ kid_rows (take i ids)) → IsUsage v (met_from tree who met (path_at tree (get_or ids i x).0)) → u.rows + v.rows < 2 ^ 40
        near_room i x d u v h few a b =
            let f : DirId → List Row = λ id. met_from tree who met (path_at tree id.0) in
            omega (
              arith,
              IsUsage-counted u _ a,
              IsUsage-counted v _ b,
              length-append (own_met d) (kid_rows (take i ids)),
              length-append (own_met d) (kid_rows ids),
              length-flat_map-take f ids i x h,
              length_permutation _ _ (step d),
              from-few met (path_at tree k),
              few,
            )

        pub near_more : (i : ℕ) (x : DirId) (d : Directory) (u v w : Usage) → i < length ids
            → IsUsage u (own_met d ++ kid_rows (take i ids)) → IsUsage v (met_from tree who met (path_at tree (get_or ids i x).0)) → w ≡ both u v → IsInRange w
            → IsUsage w (own_met d ++ kid_rows (take (i + 1) ids))
        near_more i x d u v w h a b e ranged =
            let f : DirId → List Row = λ id. met_from tree who met (path_at tree id.0) in
            let more : kid_rows (take i ids) ++ f (get_or ids i x) ≡ kid_rows (take (i + 1) ids) =
            ap (λ l. kid_rows (take i ids) ++ l) (sym (append-nil (f (get_or ids i x)))) ∙ sym (flat_map-append f (take i ids) (get_or ids i x ∷ [])) ∙ ap kid_rows (sym (take_more ids i x h)) in
            subst (IsUsage w) (append_assoc (own_met d) (kid_rows (take i ids)) (f (get_or ids i x)) ∙ ap (λ l. own_met d ++ l) more) (IsUsage-both u v w _ _ a b e ranged)

        pub near_all : (d : Directory) (u : Usage) (n : ℕ) → length ids ≤ n → IsUsage u (own_met d ++ kid_rows (take n ids)) → IsUsage u (met_from tree who met (path_at tree k))
        near_all d u n all h = IsUsage-reordered u _ _ (IsPermutation-sym _ _ (step d)) (subst (λ l. IsUsage u (own_met d ++ kid_rows l)) (take_all n ids all) h)

-- ---- the directories found

-- those of a list that pass, one more
pub filter_more : {X : Type 0} (p : X → Bool) (xs : List X) (i : ℕ) (x : X) (found more : List X) → i < length xs → found ≡ filter p (take i xs)
    → more ≡ found ++ cond (p (get_or xs i x)) (get_or xs i x ∷ []) [] → more ≡ filter p (take (i + 1) xs)
filter_more p xs i x found more h a b =
    b ∙ ap (λ l. l ++ cond (p (get_or xs i x)) (get_or xs i x ∷ []) []) a ∙ sym (ap (filter p) (take_more xs i x h) ∙ filter-append p (take i xs) (get_or xs i x ∷ []))

-- those near one directory more
pub found_more : {X : Type 0} (f : DirId → X) (of : DirId → List DirId) (ids : List DirId) (i : ℕ) (x : DirId) (before found more : List X) → i < length ids
    → found ≡ before ++ map f (flat_map of (take i ids)) → more ≡ found ++ map f (of (get_or ids i x)) → more ≡ before ++ map f (flat_map of (take (i + 1) ids))
found_more f of ids i x before found more h a b =
    let flat : flat_map of (take (i + 1) ids) ≡ flat_map of (take i ids) ++ of (get_or ids i x) =
    ap (flat_map of) (take_more ids i x h) ∙ flat_map-append of (take i ids) (get_or ids i x ∷ []) ∙ ap (λ l. flat_map of (take i ids) ++ l) (append-nil (of (get_or ids i x))) in
    b ∙ ap (λ l. l ++ map f (of (get_or ids i x))) a ∙ append_assoc before _ _ ∙ ap (λ l. before ++ l) (sym (map-append f (flat_map of (take i ids)) (of (get_or ids i x))) ∙ ap (map f) (sym flat))

-- and the directory itself, behind those below it
pub found_own : {X : Type 0} (tree : List Directory) (who : Principal) (f : DirId → X) (levels : ℕ) (id : DirId) (ids : List DirId) (n : ℕ) (before found more : List X) (own : X) → levels ≢ 0
    → ids ≡ open_ids tree who (path_at tree id.0) → length ids ≤ n → found ≡ before ++ map f (flat_map (near tree who (levels - 1)) (take n ids)) → more ≡ found ++ own ∷ [] → own ≡ f id
    → more ≡ before ++ map f (near tree who levels id)
found_own tree who f zero id ids n before found more own some same all a b e = absurd (some refl)
found_own tree who f (suc levels) id ids n before found more own some same all a b e =
    let one : suc levels - 1 ≡ levels = omega arith in
    let below : flat_map (near tree who (suc levels - 1)) (take n ids) ≡ flat_map (near tree who levels) (open_ids tree who (path_at tree id.0)) =
    ap (λ l. flat_map (near tree who l) (take n ids)) one ∙ ap (flat_map (near tree who levels)) (take_all n ids all ∙ same) in
    b ∙ ap (λ l. l ++ own ∷ []) (a ∙ ap (λ l. before ++ map f l) below) ∙ append_assoc before _ _
    ∙ ap (λ l. before ++ l) (ap (λ x. map f (flat_map (near tree who levels) (open_ids tree who (path_at tree id.0))) ++ x ∷ []) e ∙ sym (map-append f (flat_map (near tree who levels) (open_ids tree who (path_at tree id.0))) (id ∷ [])))
