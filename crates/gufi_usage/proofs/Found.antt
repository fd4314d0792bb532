-- The directories that are found near a start are those whose rows have a line, and what each takes up is that of its line.
use Rattle.std.proofs.Common.{◌≡◌, ℕ, zero, suc, ◌+◌, ◌<◌, ◌≤◌, inl, inr, Bool, true, false, cond, List, [], ◌∷◌, ◌++◌, map, length, refl, sym, ap, ◌∙◌, subst, arith}
use Rattle.std.specs.Prelude.{◌&&◌, nat_le}
use Rattle.std.specs.List.{AllByRecursion, filter, flat_map}
use Rattle.std.specs.List.Sorted.{IsPermutation, IsSortedBy}
use Rattle.std.specs.Ordering.{nat_cmp, is_lt}
use Rattle.std.proofs.lemmas.List.{map-append}
use Rattle.std.proofs.lemmas.List.Elements.{All-from_recursion, recursion_from_All}
use Rattle.std.proofs.lemmas.List.Folds.{flat_map-map}
use Rattle.std.proofs.lemmas.List.Sorted.{IsPermutation-trans, IsPermutation-sym, IsPermutation-map, IsPermutation-cons, IsPermutation-to_front, All-permutation}
use Rattle.gufi_base.specs.declared.record.Row.{Row}
use Rattle.gufi_base.specs.Basics.{ascends}
use Rattle.gufi_base.specs.Kinds.{is_dir}
use Rattle.gufi_base.specs.Paths.{Components, path_cmp, parent_path, is_prefix}
use Rattle.gufi_base.specs.Rows.{home, row_cmp}
use Rattle.gufi_base.proofs.Permutations.{IsPermutation-filter}
use Rattle.gufi_base.proofs.Prefixes.{rows_total}
use Rattle.gufi_base.proofs.SortedOnce.{ascends-filter}
use Rattle.gufi_access.specs.declared.class.Principal.{Principal}
use Rattle.gufi_tree.specs.declared.tree.DirId.{DirId}
use Rattle.gufi_tree.specs.Tree.{Directory, dir_cmp, HasTreeShape}
use Rattle.gufi_tree.specs.Listed.{is_listed}
use Rattle.gufi_tree.specs.Places.{path_at}
use Rattle.gufi_tree.proofs.Built.{Has, All-Has, dir_cmp-total}
use Rattle.gufi_tree.proofs.Filters.{Has-filter}
use Rattle.gufi_tree.proofs.Fronts.{flat_map-agree, listed_dirs, open_dirs}
use Rattle.gufi_walk.specs.Answer.{answer, shown, listed_rows}
use Rattle.gufi_walk.specs.Shown.{shown-path, shown-meta}
use Rattle.gufi_walk.specs.Walk.{lists_at, open_ids, meets}
use Rattle.gufi_walk.proofs.Pieces.{Has-map, answer-ascends, filter-map, flat_map-moved, map-flat_map, plain_rows}
use Rattle.gufi_walk.proofs.Walked.{All-append, filter-all}
use Rattle.gufi_usage.specs.declared.near.DirUsage.{DirUsage}
use Rattle.gufi_usage.specs.Laws.{usage_of-IsPermutation}
use Rattle.gufi_usage.specs.Near.{met_from, usage_at, near, line_of}
use Rattle.gufi_usage.specs.UsageLines.{lies_below, has_line, counts_for, usage_line, usage_lines}
use Rattle.gufi_usage.specs.Usages.{usage_of}
use Rattle.gufi_usage.proofs.Below.{listed_below}
use Rattle.gufi_usage.proofs.Within.{within, within-none, within-step, lined-within}
use Rattle.gufi_usage.proofs.Order.{ascends-map, same_paths, paths_from_sorted}
use Rattle.gufi_usage.proofs.Descents.{listed-from, open_at, IsKid, are_kids, here}

-- ---- lists

All-flat_map : {X Y : Type 0} (P : Y → Type 0) (f : X → List Y) (xs : List X) → ((x : X) → Has xs x → AllByRecursion P (f x)) → AllByRecursion P (flat_map f xs)
All-flat_map P f [] h = tt
All-flat_map P f (x ∷ xs) h = All-append P (f x) (flat_map f xs) (h x (inl refl)) (All-flat_map P f xs (λ y k. h y (inr k)))

flat_map-none : {X Y : Type 0} (f : X → List Y) (xs : List X) → ((x : X) → Has xs x → f x ≡ []) → flat_map f xs ≡ []
flat_map-none f [] h = refl
flat_map-none f (x ∷ xs) h = ap (λ l. l ++ flat_map f xs) (h x (inl refl)) ∙ flat_map-none f xs (λ y k. h y (inr k))

Has-mapped : {X Y : Type 0} (f : X → Y) (xs : List X) (x : X) → Has xs x → Has (map f xs) (f x)
Has-mapped f [] x h = absurd h
Has-mapped f (y ∷ xs) x (inl h) = inl (ap f h)
Has-mapped f (y ∷ xs) x (inr h) = inr (Has-mapped f xs x h)

map-map : {X Y Z : Type 0} (f : X → Y) (g : Y → Z) (xs : List X) → map g (map f xs) ≡ map (λ x. g (f x)) xs
map-map f g [] = refl
map-map f g (x ∷ xs) = ap (λ l. g (f x) ∷ l) (map-map f g xs)

All-map : {X Y : Type 0} (P : Y → Type 0) (f : X → Y) (xs : List X) → AllByRecursion (λ x. P (f x)) xs → AllByRecursion P (map f xs)
All-map P f [] all = tt
All-map P f (x ∷ xs) all = (all.0, All-map P f xs all.1)

all_true : {X : Type 0} (P : X → Type 0) → ((x : X) → P x) → (xs : List X) → AllByRecursion P xs
all_true P h [] = tt
all_true P h (x ∷ xs) = (h x, all_true P h xs)

filter-and : {X : Type 0} (p q : X → Bool) (xs : List X) → filter (λ x. p x && q x) xs ≡ filter p (filter q xs)
filter-and p q [] = refl
filter-and {X} p q (x ∷ xs) = by (q x) (p x) refl (filter-and p q xs) where
  by : (b a : Bool) → p x ≡ a → filter (λ x. p x && q x) xs ≡ filter p (filter q xs)
      → cond (a && b) (x ∷ filter (λ x. p x && q x) xs) (filter (λ x. p x && q x) xs) ≡ filter p (cond b (x ∷ filter q xs) (filter q xs))
  by true true e h = rw e (ap (λ l. x ∷ l) h)
  by true false e h = rw e h
  by false true e h = h
  by false false e h = h

module _ (tree : List Directory) (who : Principal) (shape : HasTreeShape tree) where
  -- ---- by steps down

  pub near-in_tree : (levels : ℕ) (id : DirId) → id.0 < length tree → AllByRecursion (λ (i : DirId). i.0 < length tree) (near tree who levels id)
  near-in_tree zero id in_tree = (in_tree, tt)
  near-in_tree (suc levels) id in_tree =
      let P : DirId → Type 0 = λ i. i.0 < length tree in
      let ids : List DirId = open_ids tree who (path_at tree id.0) in
      All-append P (flat_map (near tree who levels) ids) (id ∷ [])
      (All-flat_map P (near tree who levels) ids (λ kid h.
      let w = All-Has (IsKid tree who shape id.0 in_tree) ids kid (are_kids tree who shape id.0 in_tree) h in
      near-in_tree levels kid w.within))
      (in_tree, tt)

  near-kids : (id : DirId) (cut : ℕ) → id.0 < length tree → lists_at tree who (path_at tree id.0) ≡ true → length (path_at tree id.0) ≤ cut
      → IsPermutation (within tree who cut (path_at tree id.0)) (path_at tree id.0 ∷ flat_map (λ (i : DirId). within tree who cut (path_at tree i.0)) (open_ids tree who (path_at tree id.0)))
  near-kids id cut in_tree listed few =
      let h = here tree who shape id.0 in_tree listed in
      let p : Components = path_at tree id.0 in
      let N : Components → List Components = within tree who cut in
      let at_path : IsPermutation (N p) (p ∷ flat_map (λ (k : Directory). N k.path) (open_dirs tree who p)) =
      subst (λ q. IsPermutation (N q) (q ∷ flat_map (λ (k : Directory). N k.path) (open_dirs tree who q))) h.3 (within-step tree who shape h.0 h.1 h.2 cut (omega (arith, few, ap length h.3))) in
      let same : flat_map (λ (k : Directory). N k.path) (open_dirs tree who p) ≡ flat_map (λ (i : DirId). N (path_at tree i.0)) (open_ids tree who p) =
      sym (flat_map-map N (λ (dir : Directory). dir.path) (open_dirs tree who p)) ∙ ap (flat_map N) (sym (open_at tree who shape id.0 in_tree)) ∙ flat_map-map N (λ (i : DirId). path_at tree i.0) (open_ids tree who p) in
      subst (λ l. IsPermutation (N p) (p ∷ l)) same at_path

  pub near-within : (levels : ℕ) (id : DirId) (cut : ℕ) → id.0 < length tree → lists_at tree who (path_at tree id.0) ≡ true → length (path_at tree id.0) + levels ≡ cut
      → IsPermutation (map (λ (i : DirId). path_at tree i.0) (near tree who levels id)) (within tree who cut (path_at tree id.0))
  near-within zero id cut in_tree listed e =
      let ids : List DirId = open_ids tree who (path_at tree id.0) in
      let none : flat_map (λ (i : DirId). within tree who cut (path_at tree i.0)) ids ≡ [] = flat_map-none (λ (i : DirId). within tree who cut (path_at tree i.0)) ids (λ kid h.
      let w = All-Has (IsKid tree who shape id.0 in_tree) ids kid (are_kids tree who shape id.0 in_tree) h in
      within-none tree who cut (path_at tree kid.0) (omega (arith, e, w.deeper))) in
      IsPermutation-sym _ _ (subst (λ l. IsPermutation (within tree who cut (path_at tree id.0)) (path_at tree id.0 ∷ l)) none (near-kids id cut in_tree listed (omega (arith, e))))
  near-within (suc levels) id cut in_tree listed e =
      let ids : List DirId = open_ids tree who (path_at tree id.0) in
      let below : List DirId = flat_map (near tree who levels) ids in
      let M : DirId → Components = λ i. path_at tree i.0 in
      let each : IsPermutation (map M below) (flat_map (λ (i : DirId). within tree who cut (path_at tree i.0)) ids) =
      subst (λ l. IsPermutation l (flat_map (λ (i : DirId). within tree who cut (path_at tree i.0)) ids)) (sym (map-flat_map (near tree who levels) M ids))
      (flat_map-moved (λ i. map M (near tree who levels i)) (λ i. within tree who cut (path_at tree i.0)) ids (λ kid h.
      let w = All-Has (IsKid tree who shape id.0 in_tree) ids kid (are_kids tree who shape id.0 in_tree) h in
      near-within levels kid cut w.within w.listed (omega (arith, e, w.deeper)))) in
      subst (λ l. IsPermutation l (within tree who cut (path_at tree id.0))) (sym (map-append M below (id ∷ [])))
      (IsPermutation-trans _ _ _ (IsPermutation-to_front (map M below) (path_at tree id.0))
      (IsPermutation-trans _ _ _ (IsPermutation-cons (path_at tree id.0) _ _ each) (IsPermutation-sym _ _ (near-kids id cut in_tree listed (omega (arith, e))))))

  -- ---- by rows

  shown-home : (row : Row) → home (shown who row) ≡ home row
  shown-home row = λ i. cond (is_dir (shown-meta who row i).kind) (shown-path who row i) (parent_path (shown-path who row i))

  -- of the rows that are listed from a start, those that are chosen and stand at or below a directory take up what those from it do
  counted-below : (start top : Components) (sat : Row → ℕ → Bool) (above : ℕ) → is_listed tree who start top ≡ true
      → usage_of (filter (counts_for sat above top) (listed_rows tree who start)) ≡ usage_of (met_from tree who (meets sat above) top)
  counted-below start top sat above listed =
      let met = meets sat above in
      let parts : filter (counts_for sat above top) (listed_rows tree who start) ≡ filter met (filter (lies_below top) (listed_rows tree who start)) = filter-and met (lies_below top) (listed_rows tree who start) in
      let low : filter (lies_below top) (listed_rows tree who start) ≡ listed_rows tree who top =
      filter-map (shown who) (lies_below top) (plain_rows tree who start) ∙ ap (map (shown who)) ((λ i. filter (λ row. is_prefix top (shown-home row i)) (plain_rows tree who start)) ∙ listed_below tree shape who start top listed) in
      ap usage_of (parts ∙ ap (filter met) low) ∙ usage_of-IsPermutation _ _ (IsPermutation-filter met _ _ (listed-from tree who shape top))

  module _ (start : Components) (depth : ℕ) where
    abbrev cut : ℕ
    cut = length start + depth

    within-ascends : ascends path_cmp (within tree who (length start + depth) start) ≡ true
    within-ascends =
        ascends-map path_cmp (λ (dir : Directory). dir.path) (filter (λ dir. nat_le (length dir.path) cut) (listed_dirs tree who start))
        (ascends-filter dir_cmp dir_cmp-total (λ dir. nat_le (length dir.path) cut) (listed_dirs tree who start) (ascends-filter dir_cmp dir_cmp-total (λ dir. is_listed tree who start dir.path) tree shape.order))

    -- the rows with a line are those of the directories near the start
    lined-paths : map (λ (row : Row). row.path) (filter (has_line depth (length start)) (listed_rows tree who start)) ≡ within tree who (length start + depth) start
    unfolding answer
    lined-paths =
        let L : List Row → List Components = λ rows. map (λ (row : Row). row.path) (filter (has_line depth (length start)) rows) in
        let moved : IsPermutation (L (listed_rows tree who start)) (within tree who cut start) =
        subst (IsPermutation (L (listed_rows tree who start))) (lined-within tree who (shown who) (shown-path who) (λ row. shown-meta who row) depth (length start) shape start refl)
        (IsPermutation-map (λ (row : Row). row.path) _ _ (IsPermutation-filter (has_line depth (length start)) _ _ (listed-from tree who shape start))) in
        let up : ascends row_cmp (listed_rows tree who start) ≡ true = subst (λ l. ascends row_cmp l ≡ true) (filter-all (listed_rows tree who start)) (answer-ascends tree shape who start (λ row depth. true)) in
        same_paths _ _ moved
        (ascends-map path_cmp (λ (row : Row). row.path) (filter (has_line depth (length start)) (listed_rows tree who start)) (ascends-filter row_cmp rows_total (has_line depth (length start)) (listed_rows tree who start) up))
        within-ascends

    module _ (sat : Row → ℕ → Bool) where
      abbrev told : Components → List ℕ
      told top = usage_line top (usage_of (met_from tree who (meets sat (length start)) top))

      lines-within : usage_lines depth sat start (listed_rows tree who start) ≡ flat_map told (within tree who (length start + depth) start)
      unfolding usage_lines
      lines-within =
          let rows : List Row = listed_rows tree who start in
          let lined : List Row = filter (has_line depth (length start)) rows in
          flat_map-agree (λ (row : Row). usage_line row.path (usage_of (filter (counts_for sat (length start) row.path) rows))) (λ row. told row.path) lined
          (λ row h.
          let at = subst (λ l. Has l row.path) lined-paths (Has-mapped (λ (r : Row). r.path) lined row h) in
          let dir = Has-map (λ (d : Directory). d.path) (filter (λ d. nat_le (length d.path) cut) (listed_dirs tree who start)) row.path at in
          let there = Has-filter (λ (d : Directory). nat_le (length d.path) cut) (listed_dirs tree who start) dir.0 dir.1 in
          let listed = (Has-filter (λ (d : Directory). is_listed tree who start d.path) tree dir.0 there.0).1 in
          ap (usage_line row.path) (counted-below start row.path sat (length start) (ap (is_listed tree who start) (sym dir.2) ∙ listed)))
          ∙ sym (flat_map-map told (λ (row : Row). row.path) lined) ∙ ap (flat_map told) lined-paths

  -- what was found, in order, has the lines of the rows
  module _ (id : DirId) (in_tree : id.0 < length tree) (listed : lists_at tree who (path_at tree id.0) ≡ true) (depth : ℕ) (sat : Row → ℕ → Bool) (sorted : List DirUsage)
      (moved : IsPermutation (map (usage_at tree who (meets sat (length (path_at tree id.0)))) (near tree who depth id)) sorted) where
    abbrev U : DirId → DirUsage
    U = usage_at tree who (meets sat (length (path_at tree id.0)))

    pub found-in_tree : AllByRecursion (λ (d : DirUsage). d.id.0 < length tree) sorted
    found-in_tree =
        recursion_from_All _ sorted (All-permutation (λ (d : DirUsage). d.id.0 < length tree) _ sorted moved
        (All-from_recursion _ _ (All-map (λ (d : DirUsage). d.id.0 < length tree) U (near tree who depth id) (near-in_tree depth id in_tree))))

    pub found-lines : IsSortedBy (λ (a b : DirUsage). is_lt (nat_cmp a.id.0 b.id.0)) sorted
        → flat_map (line_of tree) sorted ≡ usage_lines depth sat (path_at tree id.0) (answer tree who (path_at tree id.0) (λ _ _. true))
    unfolding answer
    found-lines up =
        let start : Components = path_at tree id.0 in
        let T : Components → List ℕ = told start depth sat in
        let P : DirUsage → Components = λ d. path_at tree d.id.0 in
        let paths : IsPermutation (within tree who (length start + depth) start) (map P sorted) =
        IsPermutation-trans _ _ _ (IsPermutation-sym _ _ (near-within depth id (length start + depth) in_tree listed refl))
        (subst (λ l. IsPermutation l (map P sorted)) (map-map U P (near tree who depth id)) (IsPermutation-map P _ _ moved)) in
        let same : map P sorted ≡ within tree who (length start + depth) start = paths_from_sorted tree shape.order (λ (d : DirUsage). d.id.0) sorted _ found-in_tree up (within-ascends start depth) paths in
        let each : AllByRecursion (λ (d : DirUsage). line_of tree d ≡ T (P d)) sorted =
        recursion_from_All _ sorted (All-permutation (λ (d : DirUsage). line_of tree d ≡ T (P d)) _ sorted moved
        (All-from_recursion _ _ (All-map (λ (d : DirUsage). line_of tree d ≡ T (P d)) U (near tree who depth id) (all_true _ (λ i. refl) (near tree who depth id))))) in
        flat_map-agree (line_of tree) (λ d. T (P d)) sorted (λ d h. All-Has (λ (d : DirUsage). line_of tree d ≡ T (P d)) sorted d each h)
        ∙ sym (flat_map-map T P sorted) ∙ ap (flat_map T) same ∙ sym (lines-within start depth sat) ∙ ap (usage_lines depth sat start) (sym (filter-all (listed_rows tree who start)))

-- what was found, as the code tells it
pub found-as : (tree : List Directory) (who : Principal) (sat m : Row → ℕ → Bool) (id : DirId) (depth above : ℕ) (none found : List DirUsage) → none ≡ [] → m ≡ sat → above ≡ length (path_at tree id.0)
    → found ≡ none ++ map (usage_at tree who (meets m above)) (near tree who depth id) → found ≡ map (usage_at tree who (meets sat (length (path_at tree id.0)))) (near tree who depth id)
found-as tree who sat m id depth above none found empty same deep e = e ∙ (λ i. empty i ++ map (usage_at tree who (meets (same i) (deep i))) (near tree who depth id))
