-- Under limit 0 the listed rows tell which directories a walk looks at.
use Rattle.std.proofs.Common.{◌≡◌, ℕ, zero, suc, ◌+◌, ◌≤◌, inl, inr, Bool, true, false, cond, List, [], ◌∷◌, ◌++◌, map, length, replicate, refl, sym, ap, ◌∙◌, subst, arith, length-append}
use Rattle.std.specs.Prelude.{◌-◌, not, ◌&&◌, Option}
use Rattle.std.specs.List.{AllByRecursion, filter, flat_map, list_all}
use Rattle.std.specs.List.Sorted.{IsPermutation}
use Rattle.std.proofs.lemmas.Bool.{false≢true, and_parts, and_from}
use Rattle.std.proofs.lemmas.List.Elements.{filter-append}
use Rattle.std.proofs.lemmas.List.Sorted.{IsPermutation-sym, IsPermutation-trans, IsPermutation-map, length_permutation}
use Rattle.gufi_base.specs.declared.record.Row.{Row}
use Rattle.gufi_base.specs.Kinds.{is_dir}
use Rattle.gufi_base.specs.Paths.{Components, path_eq, parent_path}
use Rattle.gufi_base.specs.Rows.{home, is_dir_row}
use Rattle.gufi_base.proofs.Permutations.{IsPermutation-filter}
use Rattle.gufi_access.specs.declared.class.Principal.{Principal}
use Rattle.gufi_sums.specs.declared.summary.Summary.{Summary}
use Rattle.gufi_sums.specs.Depths.{goes_below}
use Rattle.gufi_sums.specs.Total.{total}
use Rattle.gufi_tree.specs.declared.resolve.Resolved.TheVariants.{Found}
use Rattle.gufi_tree.specs.declared.tree.DirId.{DirId}
use Rattle.gufi_tree.specs.declared.tree.Entry.{Entry}
use Rattle.gufi_tree.specs.Tree.{Directory, dir_row, own_rows, entry_row, all_rows, home_rows, subtree_rows, is_kinded, HasTreeShape}
use Rattle.gufi_tree.specs.Listed.{is_listed}
use Rattle.gufi_tree.specs.Places.{path_at}
use Rattle.gufi_tree.specs.Resolve.{resolve}
use Rattle.gufi_tree.proofs.Built.{Has, All-weaken, path_eq-Decides}
use Rattle.gufi_tree.proofs.Descent.{child_name}
use Rattle.gufi_tree.proofs.Filters.{Has-filter, filter-agree, filter-none}
use Rattle.gufi_tree.proofs.FoundStart.{found_place_of_start}
use Rattle.gufi_tree.proofs.Fronts.{listed_dirs}
use Rattle.gufi_tree.proofs.RowHomes.{rows_of_homes}
use Rattle.gufi_roll.specs.CanRoll.{can_roll, is_under}
use Rattle.gufi_roll.proofs.Laws.{and_true}
use Rattle.gufi_roll.proofs.Nothing.{nothing_rolled}
use Rattle.gufi_snap.specs.Pieces.{front, piece, kids, tree_sum}
use Rattle.gufi_walk.specs.Answer.{Alike, shown, listed_rows}
use Rattle.gufi_walk.specs.Shown.{shown-path, shown-meta}
use Rattle.gufi_walk.specs.Folds.{reached}
use Rattle.gufi_walk.specs.Walk.{kid_ids, lies_within, front_within, front_met, sees_all, next_ids}
use Rattle.gufi_walk.specs.Private.{StepsAreAlike, VisitsAreAlike, visited}
use Rattle.gufi_walk.proofs.Showing.{shown-total}
use Rattle.gufi_walk.proofs.Folds.{kids_reach}
use Rattle.gufi_walk.proofs.Pieces.{Has-map, filter-map, kid_there, plain_rows}
use Rattle.gufi_walk.proofs.Passed.{filter-wider}
use Rattle.gufi_walk.proofs.Bounded.{deeper, below_bound, next_within, start_within, no_deeper-is}
use Rattle.gufi_walk.proofs.Walked.{kids_at, kids_long}

-- ---- lists

module _ {X : Type 0} (f : X → Bool) where
  flag_off : (xs : List X) → replicate (length xs) false ≡ map f xs → (x : X) → Has xs x → f x ≡ false
  flag_off [] e x h = absurd h
  flag_off (y ∷ ys) e x (inl same) = let first : false ≡ f y = cc in sym (first ∙ ap f same)
  flag_off (y ∷ ys) e x (inr h) = let more : replicate (length ys) false ≡ map f ys = cc in flag_off ys more x h

map-paths : (ds : List Directory) → map (λ (row : Row). row.path) (map dir_row ds) ≡ map (λ (d : Directory). d.path) ds
map-paths [] = refl
map-paths (d ∷ ds) = ap (λ l. d.path ∷ l) (map-paths ds)

-- ---- the rows of directories

no_dirs : (path : Components) (es : List Entry) → list_all (λ (e : Entry). not (is_dir e.rec.meta.kind)) es ≡ true → filter is_dir_row (map (entry_row path) es) ≡ []
no_dirs path [] h = refl
no_dirs path (e ∷ es) h = let both = and_parts _ _ h in by (is_dir e.rec.meta.kind) both.0 (no_dirs path es both.1) where
  by : (b : Bool) → not b ≡ true → filter is_dir_row (map (entry_row path) es) ≡ [] → cond b (entry_row path e ∷ filter is_dir_row (map (entry_row path) es)) (filter is_dir_row (map (entry_row path) es)) ≡ []
  by true n more = absurd (false≢true n)
  by false n more = more

one_dir : (d : Directory) → is_kinded d ≡ true → filter is_dir_row (own_rows d) ≡ dir_row d ∷ []
one_dir d h = let both = and_parts _ _ h in by (is_dir d.rec.meta.kind) both.0 (no_dirs d.path d.entries both.1) where
  by : (b : Bool) → b ≡ true → filter is_dir_row (map (entry_row d.path) d.entries) ≡ []
      → cond b (dir_row d ∷ filter is_dir_row (map (entry_row d.path) d.entries)) (filter is_dir_row (map (entry_row d.path) d.entries)) ≡ dir_row d ∷ []
  by true n none = ap (λ l. dir_row d ∷ l) none
  by false n none = absurd (false≢true n)

dirs_of : (ds : List Directory) → list_all is_kinded ds ≡ true → filter is_dir_row (flat_map own_rows ds) ≡ map dir_row ds
dirs_of [] h = refl
dirs_of (d ∷ ds) h =
    let both = and_parts _ _ h in
    filter-append is_dir_row (own_rows d) (flat_map own_rows ds) ∙ (λ i. one_dir d both.0 i ++ dirs_of ds both.1 i)

kinded_kept : (p : Directory → Bool) (ds : List Directory) → list_all is_kinded ds ≡ true → list_all is_kinded (filter p ds) ≡ true
kinded_kept p [] h = refl
kinded_kept p (d ∷ ds) h = let both = and_parts _ _ h in by (p d) both.0 (kinded_kept p ds both.1) where
  by : (b : Bool) → is_kinded d ≡ true → list_all is_kinded (filter p ds) ≡ true → list_all is_kinded (cond b (d ∷ filter p ds) (filter p ds)) ≡ true
  by true e h = and_from _ _ e h
  by false e h = h

-- ---- what listed rows tell

-- the paths of the directories among some rows
abbrev dirs_in : List Row → List Components
dirs_in rows = map (λ (row : Row). row.path) (filter is_dir_row rows)

-- those of the rows whose home is a path
abbrev rows_at : List Row → Components → List Row
rows_at rows path = filter (λ row. path_eq path (home row)) rows

-- those of the directories that lie within a bound, and those of them that a test of sums doesn't pass over
abbrev dirs_within : Option ℕ → ℕ → List Row → List Components
dirs_within deepest above rows = filter (lies_within deepest above) (dirs_in rows)

abbrev dirs_met : (Summary → Bool) → Option ℕ → ℕ → List Row → List Components
dirs_met skips deepest above rows = filter (λ path. not (skips (total (rows_at rows path)))) (dirs_within deepest above rows)

module _ (who : Principal) where
  shown-paths : (rows : List Row) → map (λ (row : Row). row.path) (map (shown who) rows) ≡ map (λ row. row.path) rows
  shown-paths [] = refl
  shown-paths (row ∷ rows) = λ i. shown-path who row i ∷ shown-paths rows i

  shown-dirs : (rows : List Row) → dirs_in (map (shown who) rows) ≡ dirs_in rows
  shown-dirs rows =
      ap (map (λ (row : Row). row.path)) (filter-map (shown who) is_dir_row rows ∙ ap (map (shown who)) (λ i. filter (λ row. is_dir (shown-meta who row i).kind) rows))
      ∙ shown-paths (filter is_dir_row rows)

  shown-home : (row : Row) → home (shown who row) ≡ home row
  shown-home row = λ i. cond (is_dir (shown-meta who row i).kind) (shown-path who row i) (parent_path (shown-path who row i))

  shown-at : (rows : List Row) (path : Components) → rows_at (map (shown who) rows) path ≡ map (shown who) (rows_at rows path)
  shown-at rows path = filter-map (shown who) (λ row. path_eq path (home row)) rows ∙ ap (map (shown who)) (λ i. filter (λ row. path_eq path (shown-home row i)) rows)

  module _ (tree : List Directory) (shape : HasTreeShape tree) (start : Components) where
    abbrev paths : List Components
    paths = map (λ (dir : Directory). dir.path) tree

    none_rolled : (d : Directory) → Has tree d → can_roll tree 0 d.path ≡ false
    none_rolled d there = flag_off (λ (dir : Directory). can_roll tree 0 dir.path) tree (nothing_rolled tree shape) d there

    -- nothing is left out of the front
    front-plain : front tree who start 0 ≡ filter (is_listed tree who start) paths
    front-plain =
        ap (λ (ds : List Directory). filter (λ path. is_listed tree who start path && not (is_under ds start path)) paths) (filter-none (λ (dir : Directory). can_roll tree 0 dir.path) tree none_rolled)
        ∙ filter-agree (λ path. is_listed tree who start path && true) (is_listed tree who start) paths (λ path h. and_true (is_listed tree who start path))

    -- the front is the directories among the listed rows
    front-dirs_in : IsPermutation (front tree who start 0) (dirs_in (listed_rows tree who start))
    front-dirs_in =
        let ds : List Directory = listed_dirs tree who start in
        let own = dirs_of ds (kinded_kept (λ dir. is_listed tree who start dir.path) tree shape.kinds) in
        let moved : IsPermutation (dirs_in (plain_rows tree who start)) (dirs_in (flat_map own_rows ds)) =
        IsPermutation-map (λ (row : Row). row.path) _ _ (IsPermutation-filter is_dir_row _ _ (rows_of_homes (is_listed tree who start) tree shape)) in
        let same : dirs_in (flat_map own_rows ds) ≡ front tree who start 0 =
        ap (map (λ (row : Row). row.path)) own ∙ map-paths ds ∙ sym (front-plain ∙ filter-map (λ (dir : Directory). dir.path) (is_listed tree who start) tree) in
        IsPermutation-sym _ _ (subst (λ l. IsPermutation l (front tree who start 0)) (sym (shown-dirs (plain_rows tree who start)))
        (subst (IsPermutation (dirs_in (plain_rows tree who start))) same moved))

    -- a member's piece has the sum of the listed rows there
    piece-at : (path : Components) → Has (front tree who start 0) path → total (piece tree path 0) ≡ total (rows_at (listed_rows tree who start) path)
    piece-at path h =
        let w = Has-filter (is_listed tree who start) paths path (subst (λ l. Has l path) front-plain h) in
        let d = Has-map (λ (dir : Directory). dir.path) tree path w.0 in
        let plain : can_roll tree 0 path ≡ false = ap (can_roll tree 0) (sym d.2) ∙ none_rolled d.0 d.1 in
        let all : rows_at (plain_rows tree who start) path ≡ home_rows tree path =
        filter-wider (λ (row : Row). is_listed tree who start (home row)) (λ row. path_eq path (home row)) (λ row e. ap (is_listed tree who start) (sym ((path_eq-Decides path (home row)).0 e)) ∙ w.1) (all_rows tree) in
        ap (λ b. total (cond b (subtree_rows tree path) (home_rows tree path))) plain ∙ sym (shown-total who (home_rows tree path))
        ∙ ap total (ap (map (shown who)) (sym all) ∙ sym (shown-at (plain_rows tree who start) path))

    module _ (deepest : Option ℕ) where
      within_rows : IsPermutation (front_within deepest tree who start 0) (dirs_within deepest (length start) (listed_rows tree who start))
      within_rows =
          subst (λ l. IsPermutation l (dirs_within deepest (length start) (listed_rows tree who start))) (sym (no_deeper-is deepest (length start) (front tree who start 0)))
          (IsPermutation-filter (lies_within deepest (length start)) _ _ front-dirs_in)

      met_rows : (skips : Summary → Bool) → length (front_met skips deepest tree who start 0) ≡ length (dirs_met skips deepest (length start) (listed_rows tree who start))
      met_rows skips =
          let rows : List Row = listed_rows tree who start in
          let tested : Components → Bool = λ path. not (skips (total (rows_at rows path))) in
          let each : front_met skips deepest tree who start 0 ≡ filter tested (front_within deepest tree who start 0) =
          filter-agree (λ path. not (skips (total (piece tree path 0)))) tested (front_within deepest tree who start 0) (λ path h.
          ap (λ sum. not (skips sum)) (piece-at path (Has-filter (lies_within deepest (length start)) (front tree who start 0) path (subst (λ l. Has l path) (no_deeper-is deepest (length start) (front tree who start 0)) h)).0)) in
          ap length each ∙ sym (length_permutation _ _ (IsPermutation-filter tested _ _ within_rows))

-- ---- where a walk goes that rules nothing out below

module _ (skips : Summary → Bool) (deepest : Option ℕ) (above : ℕ) (tree : List Directory) (who : Principal) (limit : ℕ) (shape : HasTreeShape tree) where
  abbrev within : Components → Bool
  within = lies_within deepest above

  next_plain : sees_all who ≡ false → (path : Components) → next_ids skips deepest above tree who path limit ≡ cond (goes_below deepest (length path - above)) (kid_ids tree who path limit) []
  next_plain plain path =
      let on = goes_below deepest (length path - above) in
      ap (λ b. cond (on && not (b && skips (tree_sum tree path))) (kid_ids tree who path limit) []) plain ∙ ap (λ b. cond b (kid_ids tree who path limit) []) (and_true on)

  kid_long : (path kid : Components) → Has (kids tree who path limit) kid → length kid ≡ length path + 1
  kid_long path kid h =
      let n = child_name path kid (kid_there tree limit who shape path kid h).4 in
      omega (arith, ap length n.1, length-append path (n.0 ∷ []))

  none_below : (times : ℕ) (paths : List Components) → ((path : Components) → Has paths path → filter within (reached tree who limit times path) ≡ []) → filter within (flat_map (reached tree who limit times) paths) ≡ []
  none_below times [] h = refl
  none_below times (p ∷ ps) h =
      filter-append within (reached tree who limit times p) (flat_map (reached tree who limit times) ps) ∙ (λ i. h p (inl refl) i ++ none_below times ps (λ q k. h q (inr k)) i)

  -- from where it is too deep all that is reached is
  none_reached : (times : ℕ) (path : Components) → lies_within deepest above path ≡ false → filter within (reached tree who limit times path) ≡ []
  none_reached zero path off = ap (λ b. cond b (path ∷ []) []) off
  none_reached (suc times) path off =
      let rest : List Components = filter within (flat_map (reached tree who limit times) (kids tree who path limit)) in
      ap (λ b. cond b (path ∷ rest) rest) off
      ∙ none_below times (kids tree who path limit) (λ kid h.
      none_reached times kid (deeper deepest (length path - above) (length kid - above) off (omega (arith, kid_long path kid h))))

  -- a place where the walk may be
  record IsNear (id : DirId) : Type 0 where
    on : lies_within deepest above (path_at tree id.0) ≡ true
    far : above ≤ length (path_at tree id.0)

  visited_each : (times : ℕ) → ((id : DirId) → IsNear id → visited skips deepest above tree who limit times id ≡ filter within (reached tree who limit times (path_at tree id.0)))
      → (ids : List DirId) → AllByRecursion IsNear ids
      → flat_map (visited skips deepest above tree who limit times) ids ≡ filter within (flat_map (reached tree who limit times) (map (λ (id : DirId). path_at tree id.0) ids))
  visited_each times each [] all = refl
  visited_each times each (id ∷ ids) all =
      (λ i. each id all.0 i ++ visited_each times each ids all.1 i)
      ∙ sym (filter-append within (reached tree who limit times (path_at tree id.0)) (flat_map (reached tree who limit times) (map (λ (id : DirId). path_at tree id.0) ids)))

  -- what is visited is what is reached within the bound
  visited-reached : sees_all who ≡ false → (times : ℕ) (id : DirId) → IsNear id → visited skips deepest above tree who limit times id ≡ filter within (reached tree who limit times (path_at tree id.0))
  visited-reached plain zero id near = sym (ap (λ b. cond b (path_at tree id.0 ∷ []) []) near.on)
  visited-reached plain (suc times) id near =
      let p : Components = path_at tree id.0 in
      let rest : List Components = filter within (flat_map (reached tree who limit times) (kids tree who p limit)) in
      ap (λ ids. p ∷ flat_map (visited skips deepest above tree who limit times) ids) (next_plain plain p)
      ∙ ap (λ l. p ∷ l) (by (visited-reached plain times) (goes_below deepest (length p - above)) refl)
      ∙ sym (ap (λ b. cond b (p ∷ rest) rest) near.on) where
        far : above ≤ length (path_at tree id.0)
        far = near.far

        by : ((k : DirId) → IsNear k → visited skips deepest above tree who limit times k ≡ filter within (reached tree who limit times (path_at tree k.0)))
            → (b : Bool) → goes_below deepest (length (path_at tree id.0) - above) ≡ b
            → flat_map (visited skips deepest above tree who limit times) (cond b (kid_ids tree who (path_at tree id.0) limit) []) ≡ filter within (flat_map (reached tree who limit times) (kids tree who (path_at tree id.0) limit))
        by each true e =
            visited_each times each (kid_ids tree who (path_at tree id.0) limit)
            (All-weaken (λ (k : DirId). length (path_at tree k.0) ≡ length (path_at tree id.0) + 1) IsNear
            (λ k long. record {
              on = next_within deepest (length (path_at tree id.0) - above) (length (path_at tree k.0) - above) e (omega (arith, long, far));
              far = omega (arith, long, far);
            }) _ (kids_long tree who shape limit (path_at tree id.0)))
            ∙ ap (λ l. filter within (flat_map (reached tree who limit times) l)) (kids_at tree who shape limit (path_at tree id.0))
        by each false e =
            sym (none_below times (kids tree who (path_at tree id.0) limit) (λ kid h.
            none_reached times kid (below_bound deepest (length (path_at tree id.0) - above) (length kid - above) e (omega (arith, kid_long (path_at tree id.0) kid h, far)))))

-- it is the front within the bound
visited-front : (skips : Summary → Bool) (deepest : Option ℕ) (tree : List Directory) (who : Principal) (limit : ℕ) → HasTreeShape tree → (start : Components) (id : DirId) → resolve tree who start ≡ Found id
    → sees_all who ≡ false → IsPermutation (visited skips deepest (length start) tree who limit (length tree) id) (front_within deepest tree who start limit)
visited-front skips deepest tree who limit shape start id found plain =
    let above : ℕ = length start in
    let f = found_place_of_start tree who start id shape found in
    let same : length (path_at tree id.0) ≡ length start = ap length f.path in
    let all = visited-reached skips deepest above tree who limit shape plain (length tree) id
    (record { on = start_within deepest above (length (path_at tree id.0)) (omega (arith, same)); far = omega (arith, same) }) in
    let moved : IsPermutation (filter (lies_within deepest above) (reached tree who limit (length tree) start)) (filter (lies_within deepest above) (front tree who start limit)) =
    IsPermutation-filter (lies_within deepest above) _ _ (kids_reach tree who start id limit (length tree) shape found (omega arith)) in
    subst (λ l. IsPermutation l (front_within deepest tree who start limit)) (sym (all ∙ ap (λ p. filter (lies_within deepest above) (reached tree who limit (length tree) p)) f.path))
    (subst (IsPermutation (filter (lies_within deepest above) (reached tree who limit (length tree) start))) (sym (no_deeper-is deepest above (front tree who start limit))) moved)

-- ---- the laws

-- down to every depth the same directories may be listed in both
alike_directories : (tree other : List Directory) (who : Principal) (start : Components) → HasTreeShape tree → HasTreeShape other → Alike tree other who start
    → (deepest : Option ℕ) → IsPermutation (front_within deepest tree who start 0) (front_within deepest other who start 0)
alike_directories tree other who start shape others alike deepest =
    IsPermutation-trans _ _ _ (within_rows who tree shape start deepest)
    (subst (λ rows. IsPermutation (dirs_within deepest (length start) rows) (front_within deepest other who start 0)) (sym alike.rows) (IsPermutation-sym _ _ (within_rows who other others start deepest)))

pub alike_steps : StepsAreAlike
alike_steps tree other who start shape others alike skips deepest =
    met_rows who tree shape start deepest skips ∙ ap (λ rows. length (dirs_met skips deepest (length start) rows)) alike.rows ∙ sym (met_rows who other others start deepest skips)

pub alike_visits : VisitsAreAlike
alike_visits tree other who start id place shape others alike plain found there skips deepest =
    IsPermutation-trans _ _ _ (visited-front skips deepest tree who 0 shape start id found plain)
    (IsPermutation-trans _ _ _ (alike_directories tree other who start shape others alike deepest) (IsPermutation-sym _ _ (visited-front skips deepest other who 0 others start place there plain)))
