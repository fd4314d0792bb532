-- A walk that goes no deeper than any row can meet its question, and not below what a test of sums passes over.
use Rattle.std.proofs.Common.{◌≡◌, ℕ, ◌+◌, ◌<◌, ◌≤◌, Bool, true, false, cond, List, [], ◌∷◌, ◌++◌, length, refl, sym, ap, ◌∙◌, subst, arith, append_assoc, length-append}
use Rattle.std.specs.Prelude.{◌-◌, not, ◌&&◌, map, reverse, Option, Some, None}
use Rattle.std.specs.List.{AllByRecursion, filter, flat_map}
use Rattle.std.specs.List.Sorted.{IsPermutation}
use Rattle.std.proofs.lemmas.Bool.{false≢true, true≢false, false_from_ne_true, and_parts, le-leb, lt-leb, leb-false, ltb-true, ltb-false}
use Rattle.std.proofs.lemmas.Grind.{flat_map-append}
use Rattle.std.proofs.lemmas.List.{append-nil}
use Rattle.std.proofs.lemmas.List.Elements.{filter-append}
use Rattle.std.proofs.lemmas.List.Sorted.{IsPermutation-trans, IsPermutation-append_right, IsPermutation-append_comm, length_permutation}
use Rattle.gufi_base.specs.declared.record.Row.{Row}
use Rattle.gufi_base.specs.Basics.{all_but_last}
use Rattle.gufi_base.specs.Paths.{Components, path_eq, is_prefix, parent_path}
use Rattle.gufi_base.specs.Rows.{depth_below, home, is_dir_row}
use Rattle.gufi_base.proofs.Permutations.{IsPermutation-filter}
use Rattle.gufi_access.specs.declared.class.Principal.{Principal}
use Rattle.gufi_sums.specs.declared.summary.Summary.{Summary}
use Rattle.gufi_sums.specs.Depths.{is_within, goes_below, within_from}
use Rattle.gufi_sums.specs.Total.{total}
use Rattle.gufi_tree.specs.declared.tree.DirId.{DirId}
use Rattle.gufi_tree.specs.Tree.{Directory, all_rows, subtree_rows, home_rows, HasTreeShape}
use Rattle.gufi_tree.specs.Listed.{is_listed}
use Rattle.gufi_tree.specs.Places.{path_at}
use Rattle.gufi_tree.proofs.Built.{Has, All-Has, All-from_Has, All-weaken, path_eq-Decides}
use Rattle.gufi_tree.proofs.Filters.{Has-filter, filter-none}
use Rattle.gufi_tree.proofs.Flat.{is_prefix-rest}
use Rattle.gufi_tree.proofs.Ranges.{own_prefix}
use Rattle.gufi_roll.specs.CanRoll.{can_roll, is_under_fold}
use Rattle.gufi_roll.proofs.Tops.{prefix_trans}
use Rattle.gufi_snap.specs.Pieces.{front, piece, tree_sum}
use Rattle.gufi_walk.specs.Answer.{shown}
use Rattle.gufi_walk.specs.Shown.{shown-path}
use Rattle.gufi_walk.specs.Walk.{kid_ids, meets, lies_within, no_deeper, not_passed, next_ids, is_ruled_out, task_dirs, shown_piece}
use Rattle.gufi_walk.proofs.Showing.{shown-total}
use Rattle.gufi_walk.proofs.Pieces.{Has-map}
use Rattle.gufi_walk.proofs.Passed.{IsOfParts, IsTest, piece_passed}
use Rattle.gufi_walk.proofs.Walked.{All-append, All-front, All-reverse, filter-all, IsOpen, IsWalk, IsWalk-more, fronts_at, kids_long, kids_open, next_split, walk_deep}

-- ---- depths

pub deeper : (deepest : Option ℕ) (n m : ℕ) → is_within deepest n ≡ false → n ≤ m → is_within deepest m ≡ false
deeper None n m e le = absurd (true≢false e)
deeper (Some most) n m e le = lt-leb m most (omega (arith, leb-false n most e))

pub below_bound : (deepest : Option ℕ) (n m : ℕ) → goes_below deepest n ≡ false → n < m → is_within deepest m ≡ false
below_bound None n m e lt = absurd (true≢false e)
below_bound (Some most) n m e lt = lt-leb m most (omega (arith, ltb-false n most e))

pub next_within : (deepest : Option ℕ) (n m : ℕ) → goes_below deepest n ≡ true → m ≤ n + 1 → is_within deepest m ≡ true
next_within None n m e le = refl
next_within (Some most) n m e le = le-leb m most (omega (arith, ltb-true n most e))

-- the start itself is within every bound
pub start_within : (deepest : Option ℕ) (above n : ℕ) → n ≤ above → is_within deepest (n - above) ≡ true
start_within None above n le = refl
start_within (Some most) above n le = le-leb (n - above) most (omega arith)

-- those that lie no deeper are those that lie within the bound
pub no_deeper-is : (deepest : Option ℕ) (above : ℕ) (paths : List Components) → no_deeper deepest above paths ≡ filter (lies_within deepest above) paths
no_deeper-is None above paths = sym (filter-all paths)
no_deeper-is (Some most) above paths = refl

-- those of the paths that a walk ticks for: they lie within the bound, and the test doesn't pass over their pieces
abbrev pub ticked : (Summary → Bool) → List Directory → ℕ → Option ℕ → ℕ → List Components → List Components
ticked skips tree limit deepest above paths = not_passed skips tree limit (filter (lies_within deepest above) paths)

ticked-is : (skips : Summary → Bool) (tree : List Directory) (limit : ℕ) (deepest : Option ℕ) (above : ℕ) (paths : List Components)
    → not_passed skips tree limit (no_deeper deepest above paths) ≡ ticked skips tree limit deepest above paths
ticked-is skips tree limit deepest above paths = ap (not_passed skips tree limit) (no_deeper-is deepest above paths)

ticked-moved : (skips : Summary → Bool) (tree : List Directory) (limit : ℕ) (deepest : Option ℕ) (above : ℕ) (all done : List Components) → IsPermutation all done
    → length (ticked skips tree limit deepest above done) ≡ length (ticked skips tree limit deepest above all)
ticked-moved skips tree limit deepest above all done p =
    length_permutation _ _ (IsPermutation-filter (λ path. not (skips (total (piece tree path limit)))) _ _ (IsPermutation-filter (lies_within deepest above) all done p))

-- as many of all paths as of them in another order
pub ticked_all : (skips : Summary → Bool) (tree : List Directory) (limit : ℕ) (deepest : Option ℕ) (above : ℕ) (all done : List Components) → IsPermutation all done
    → length (ticked skips tree limit deepest above done) ≡ length (not_passed skips tree limit (no_deeper deepest above all))
ticked_all skips tree limit deepest above all done p = ticked-moved skips tree limit deepest above all done p ∙ ap length (sym (ticked-is skips tree limit deepest above all))

-- ---- rows

all_but_last-few : {X : Type 0} (xs : List X) → length (all_but_last xs) ≤ length xs
all_but_last-few [] = omega arith
all_but_last-few (x ∷ []) = omega arith
all_but_last-few (x ∷ y ∷ rest) = let few = all_but_last-few (y ∷ rest) in omega arith

home_few : (row : Row) → length (home row) ≤ length row.path
home_few row = by (is_dir_row row) where
  by : (b : Bool) → length (cond b row.path (parent_path row.path)) ≤ length row.path
  by true = omega arith
  by false = all_but_last-few row.path

prefix_few : (top path : Components) → is_prefix top path ≡ true → length top ≤ length path
prefix_few top path e = let r = is_prefix-rest top path e in omega (arith, ap length r.1, length-append top r.0)

module _ (tree : List Directory) (limit : ℕ) where
  -- the rows of a piece lie as deep as its directory at least
  piece_deep : (path : Components) (row : Row) → Has (piece tree path limit) row → length path ≤ length row.path
  piece_deep path row h = by (can_roll tree limit path) h where
    by : (b : Bool) → Has (cond b (subtree_rows tree path) (home_rows tree path)) row → length path ≤ length row.path
    by true h =
        let w = Has-filter (λ (r : Row). is_prefix path (home r)) (all_rows tree) row h in
        omega (arith, home_few row, prefix_few path (home row) w.1)
    by false h =
        let w = Has-filter (λ (r : Row). path_eq path (home r)) (all_rows tree) row h in
        omega (arith, home_few row, ap length ((path_eq-Decides path (home row)).0 w.1))

  module _ (who : Principal) (met : Row → Bool) where
    none_of_all : (paths : List Components) → AllByRecursion (λ path. filter met (shown_piece tree who limit path) ≡ []) paths → filter met (flat_map (shown_piece tree who limit) paths) ≡ []
    none_of_all [] all = refl
    none_of_all (p ∷ ps) all = filter-append met (shown_piece tree who limit p) (flat_map (shown_piece tree who limit) ps) ∙ (λ i. all.0 i ++ none_of_all ps all.1 i)

  module _ (who : Principal) (skips : Summary → Bool) (deepest : Option ℕ) (above : ℕ) (asks : Row → ℕ → Bool) (test : IsTest skips deepest asks) where
    none_meets : (path : Components) → lies_within deepest above path ≡ false → filter (meets asks above) (shown_piece tree who limit path) ≡ []
    none_meets path deep = filter-none (meets asks above) (shown_piece tree who limit path) (λ row h. false_from_ne_true _ (λ met.
        let w = Has-map (shown who) (piece tree path limit) row h in
        let few = piece_deep path w.0 w.1 in
        let same = ap length (sym (shown-path who w.0) ∙ ap (λ (r : Row). r.path) w.2) in
        let far = deeper deepest (length path - above) (depth_below above row) deep (omega (arith, few, same)) in
        false≢true (sym far ∙ within_from deepest (depth_below above row) (λ most is. test.bounds most is row (depth_below above row) met))))

    -- the pieces of directories that lie too deep have no row that meets the question
    pub all_too_deep : (paths : List Components) → AllByRecursion (λ path. lies_within deepest above path ≡ false) paths → filter (meets asks above) (flat_map (shown_piece tree who limit) paths) ≡ []
    all_too_deep paths all =
        none_of_all who (meets asks above) paths
        (All-weaken (λ path. lies_within deepest above path ≡ false) (λ path. filter (meets asks above) (shown_piece tree who limit path) ≡ []) none_meets paths all)

    -- nor do pieces that are passed over
    pub all_passed : (paths : List Components) → AllByRecursion (λ path. skips (total (piece tree path limit)) ≡ true) paths → filter (meets asks above) (flat_map (shown_piece tree who limit) paths) ≡ []
    all_passed paths all =
        none_of_all who (meets asks above) paths
        (All-weaken (λ path. skips (total (piece tree path limit)) ≡ true) (λ path. filter (meets asks above) (shown_piece tree who limit path) ≡ [])
        (λ path h. test.none above (shown_piece tree who limit path) (ap skips (shown-total who (piece tree path limit)) ∙ h)) paths all)

  -- ---- fronts

  module _ (who : Principal) where
    front_deep : (n : ℕ) (start : Components) → n ≤ length start → AllByRecursion (λ (p : Components). n ≤ length p) (front tree who start limit)
    front_deep n start le = All-from_Has (λ (p : Components). n ≤ length p) (front tree who start limit) (λ p h.
        let w = Has-filter (λ path. is_listed tree who start path && not (is_under_fold tree start limit path)) (map (λ dir. dir.path) tree) p h in
        let leads : is_prefix start p ≡ true = (and_parts _ _ (and_parts _ _ (and_parts _ _ w.1).0).0).0 in
        omega (arith, prefix_few start p leads))

    fronts_deep : (n : ℕ) (ids : List DirId) → AllByRecursion (λ (id : DirId). n ≤ length (path_at tree id.0)) ids → AllByRecursion (λ (p : Components). n ≤ length p) (fronts_at tree who limit ids)
    fronts_deep n [] all = tt
    fronts_deep n (id ∷ ids) all = All-append (λ (p : Components). n ≤ length p) (front tree who (path_at tree id.0) limit) (fronts_at tree who limit ids) (front_deep n (path_at tree id.0) all.0) (fronts_deep n ids all.1)

    front_below : (top start : Components) → is_prefix top start ≡ true → AllByRecursion (λ p. is_prefix top p ≡ true) (front tree who start limit)
    front_below top start leads = All-from_Has (λ p. is_prefix top p ≡ true) (front tree who start limit) (λ p h.
        let w = Has-filter (λ path. is_listed tree who start path && not (is_under_fold tree start limit path)) (map (λ dir. dir.path) tree) p h in
        prefix_trans top start p leads (and_parts _ _ (and_parts _ _ (and_parts _ _ w.1).0).0).0)

    fronts_below : (top : Components) (ids : List DirId) → AllByRecursion (λ (id : DirId). is_prefix top (path_at tree id.0) ≡ true) ids → AllByRecursion (λ p. is_prefix top p ≡ true) (fronts_at tree who limit ids)
    fronts_below top [] all = tt
    fronts_below top (id ∷ ids) all = All-append (λ p. is_prefix top p ≡ true) (front tree who (path_at tree id.0) limit) (fronts_at tree who limit ids) (front_below top (path_at tree id.0) all.0) (fronts_below top ids all.1)

    -- where all rows at and below a directory are passed over, the pieces of its task are
    pub task_passed : (skips : Summary → Bool) → IsOfParts skips → (takes_all : Components → Bool) (path : Components) → skips (tree_sum tree path) ≡ true
        → AllByRecursion (λ p. skips (total (piece tree p limit)) ≡ true) (task_dirs takes_all tree who limit path)
    task_passed skips parts takes_all path passed = by (takes_all path) where
      by : (b : Bool) → AllByRecursion (λ p. skips (total (piece tree p limit)) ≡ true) (cond b (front tree who path limit) (path ∷ []))
      by true =
          All-weaken (λ p. is_prefix path p ≡ true) (λ p. skips (total (piece tree p limit)) ≡ true) (λ p leads. piece_passed skips parts tree limit path p leads passed)
          (front tree who path limit) (front_below path path (own_prefix path))
      by false = (piece_passed skips parts tree limit path path (own_prefix path) passed, tt)

    -- the directories of a task that lies too deep do as well
    pub task_too_deep : (deepest : Option ℕ) (above : ℕ) (takes_all : Components → Bool) (path : Components) → lies_within deepest above path ≡ false → AllByRecursion (λ p. lies_within deepest above p ≡ false) (task_dirs takes_all tree who limit path)
    task_too_deep deepest above takes_all path deep = by (takes_all path) where
      by : (b : Bool) → AllByRecursion (λ p. lies_within deepest above p ≡ false) (cond b (front tree who path limit) (path ∷ []))
      by true =
          All-weaken (λ (p : Components). length path ≤ length p) (λ p. lies_within deepest above p ≡ false) (λ p le. deeper deepest (length path - above) (length p - above) deep (omega arith))
          (front tree who path limit) (front_deep (length path) path (omega arith))
      by false = (deep, tt)

    -- what counts as done behind a step, with what is left out, and where the walk goes on
    pub record IsNext (skips : Summary → Bool) (deepest : Option ℕ) (above : ℕ) (start : Components) (done : List Components) (id : DirId) (asks : Row → ℕ → Bool) (all : List Components) (more : List DirId) : Type 0 where
      pub walk : IsWalk tree who limit start all more
      pub within : AllByRecursion (λ (id : DirId). lies_within deepest above (path_at tree id.0) ≡ true) more
      pub rows : filter (meets asks above) (flat_map (shown_piece tree who limit) all) ≡ filter (meets asks above) (flat_map (shown_piece tree who limit) (done ++ path_at tree id.0 ∷ []))
      pub count : length (ticked skips tree limit deepest above all) ≡ length (ticked skips tree limit deepest above done) + length (not_passed skips tree limit (path_at tree id.0 ∷ []))
      pub longer : length done + 1 ≤ length all

    module _ (shape : HasTreeShape tree) where
      -- places that a walk leaves out, with all that lies below them
      walk_without : (start : Components) (done : List Components) (rest out : List DirId) → IsWalk tree who limit start done (rest ++ out) → IsWalk tree who limit start (done ++ fronts_at tree who limit out) rest
      walk_without start done rest out walk =
          let R : List Components = fronts_at tree who limit rest in
          let O : List Components = fronts_at tree who limit out in
          let parts : fronts_at tree who limit (rest ++ out) ≡ R ++ O = flat_map-append (λ (i : DirId). front tree who (path_at tree i.0) limit) rest out in
          let split : IsPermutation (front tree who start limit) (done ++ (R ++ O)) = subst (λ l. IsPermutation (front tree who start limit) (done ++ l)) parts walk.split in
          record {
            split = subst (IsPermutation (front tree who start limit)) (sym (append_assoc done O R)) (IsPermutation-trans _ _ _ split (IsPermutation-append_right done _ _ (IsPermutation-append_comm R O)));
            each = (All-front _ rest out walk.each).0;
          }

      module _ (skips : Summary → Bool) (deepest : Option ℕ) (above : ℕ) (start : Components) (far : above ≤ length start) (done : List Components) (todo rest : List DirId) (id : DirId)
          (walk : IsWalk tree who limit start done todo) (last : todo ≡ rest ++ id ∷ []) (within : AllByRecursion (λ (id : DirId). lies_within deepest above (path_at tree id.0) ≡ true) todo) where
        parts : AllByRecursion (λ (id : DirId). lies_within deepest above (path_at tree id.0) ≡ true) rest × AllByRecursion (λ (id : DirId). lies_within deepest above (path_at tree id.0) ≡ true) (id ∷ [])
        parts = All-front _ rest (id ∷ []) (subst (AllByRecursion (λ (id : DirId). lies_within deepest above (path_at tree id.0) ≡ true)) last within)

        abbrev inner : List Components → List Components
        inner paths = ticked skips tree limit deepest above paths

        inner-append : (xs ys : List Components) → length (inner (xs ++ ys)) ≡ length (inner xs) + length (inner ys)
        inner-append xs ys =
            ap length (ap (not_passed skips tree limit) (filter-append (lies_within deepest above) xs ys)
            ∙ filter-append (λ path. not (skips (total (piece tree path limit)))) (filter (lies_within deepest above) xs) (filter (lies_within deepest above) ys))
            ∙ length-append (inner xs) (inner ys)

        one_more : length (inner (done ++ path_at tree id.0 ∷ [])) ≡ length (inner done) + length (not_passed skips tree limit (path_at tree id.0 ∷ []))
        one_more =
            let p : Components = path_at tree id.0 in
            inner-append done (p ∷ []) ∙ ap (λ b. length (inner done) + length (not_passed skips tree limit (cond b (p ∷ []) []))) parts.1.0

        -- what is done and the place where the walk is are within what it ticks for of the front
        pub walk_left_within : length (inner done) + length (not_passed skips tree limit (path_at tree id.0 ∷ [])) ≤ length (not_passed skips tree limit (no_deeper deepest above (front tree who start limit)))
        walk_left_within =
            let p : Components = path_at tree id.0 in
            let rest_of : List Components = fronts_at tree who limit (rest ++ reverse (kid_ids tree who p limit)) in
            let split = ticked_all skips tree limit deepest above _ _ (next_split tree who shape limit start done todo rest id walk last) in
            omega (arith, split, inner-append (done ++ p ∷ []) rest_of, one_more)

        module _ (asks : Row → ℕ → Bool) (test : IsTest skips deepest asks) where
          here : above ≤ length (path_at tree id.0)
          here = let deep = walk_deep tree who shape limit start done todo rest id walk last in omega (arith, far)

          abbrev below : List DirId
          below = reverse (kid_ids tree who (path_at tree id.0) limit)

          abbrev out : List Components
          out = fronts_at tree who limit (reverse (kid_ids tree who (path_at tree id.0) limit))

          long : AllByRecursion (λ (k : DirId). length (path_at tree k.0) ≡ length (path_at tree id.0) + 1) (reverse (kid_ids tree who (path_at tree id.0) limit))
          long = All-reverse _ _ (kids_long tree who shape limit (path_at tree id.0))

          -- what lies below has no row that meets the question, and no tick
          record IsLeftOut : Type 0 where
            rows : filter (meets asks above) (flat_map (shown_piece tree who limit) out) ≡ []
            count : inner out ≡ []

          left_deep : goes_below deepest (length (path_at tree id.0) - above) ≡ false → IsLeftOut
          left_deep off =
              let p : Components = path_at tree id.0 in
              let too_deep : AllByRecursion (λ q. lies_within deepest above q ≡ false) out =
              All-weaken (λ (q : Components). length p + 1 ≤ length q) (λ q. lies_within deepest above q ≡ false) (λ q le. below_bound deepest (length p - above) (length q - above) off (omega (arith, here))) out
              (fronts_deep (length p + 1) below (All-weaken (λ (k : DirId). length (path_at tree k.0) ≡ length p + 1) (λ (k : DirId). length p + 1 ≤ length (path_at tree k.0)) (λ k is. omega (arith, is)) _ long)) in
              record {
                rows = all_too_deep who skips deepest above asks test out too_deep;
                count = ap (not_passed skips tree limit) (filter-none (lies_within deepest above) out (λ q h. All-Has (λ q. lies_within deepest above q ≡ false) out q too_deep h));
              }

          left_passed : skips (tree_sum tree (path_at tree id.0)) ≡ true → IsLeftOut
          left_passed passed =
              let p : Components = path_at tree id.0 in
              let leads : AllByRecursion (λ (k : DirId). is_prefix p (path_at tree k.0) ≡ true) below =
              All-reverse _ _ (All-weaken (IsOpen tree who p) (λ (k : DirId). is_prefix p (path_at tree k.0) ≡ true) (λ k o. o.below) (kid_ids tree who p limit) (kids_open tree who shape limit p p (own_prefix p))) in
              let all : AllByRecursion (λ q. skips (total (piece tree q limit)) ≡ true) out =
              All-weaken (λ q. is_prefix p q ≡ true) (λ q. skips (total (piece tree q limit)) ≡ true) (λ q leads. piece_passed skips test.parts tree limit p q leads passed) out (fronts_below p below leads) in
              record {
                rows = all_passed who skips deepest above asks test out all;
                count = filter-none (λ path. not (skips (total (piece tree path limit)))) (filter (lies_within deepest above) out) (λ q h.
                    ap not (All-Has (λ q. skips (total (piece tree q limit)) ≡ true) out q all (Has-filter (lies_within deepest above) out q h).0));
              }

          go_on : goes_below deepest (length (path_at tree id.0) - above) ≡ true → (more : List DirId) → more ≡ rest ++ below → (all : List Components) × IsNext skips deepest above start done id asks all more
          go_on on more e = (
            done ++ path_at tree id.0 ∷ [],
            record {
              walk = IsWalk-more tree who shape limit start done todo rest id walk last more e;
              within = subst (AllByRecursion (λ (k : DirId). lies_within deepest above (path_at tree k.0) ≡ true)) (sym e)
                  (All-append _ rest below parts.0
                  (All-weaken (λ (k : DirId). length (path_at tree k.0) ≡ length (path_at tree id.0) + 1) (λ (k : DirId). lies_within deepest above (path_at tree k.0) ≡ true)
                  (λ k is. next_within deepest (length (path_at tree id.0) - above) (length (path_at tree k.0) - above) on (omega (arith, is, here))) _ long));
              rows = refl;
              count = one_more;
              longer = omega (arith, length-append done (path_at tree id.0 ∷ []));
            },
          )

          stop : IsLeftOut → (more : List DirId) → more ≡ rest ++ [] → (all : List Components) × IsNext skips deepest above start done id asks all more
          stop left more e =
              let p : Components = path_at tree id.0 in
              let P : Components → List Row = shown_piece tree who limit in
              let met = meets asks above in
              let same : more ≡ rest = e ∙ append-nil rest in (
                (done ++ p ∷ []) ++ out,
                record {
                  walk = subst (IsWalk tree who limit start ((done ++ p ∷ []) ++ out)) (sym same)
                      (walk_without start (done ++ p ∷ []) rest below (IsWalk-more tree who shape limit start done todo rest id walk last _ refl));
                  within = subst (AllByRecursion (λ (k : DirId). lies_within deepest above (path_at tree k.0) ≡ true)) (sym same) parts.0;
                  rows = ap (filter met) (flat_map-append P (done ++ p ∷ []) out) ∙ filter-append met (flat_map P (done ++ p ∷ [])) (flat_map P out)
                      ∙ ap (λ l. filter met (flat_map P (done ++ p ∷ [])) ++ l) left.rows ∙ append-nil (filter met (flat_map P (done ++ p ∷ [])));
                  count = omega (arith, inner-append (done ++ p ∷ []) out, ap length left.count, one_more);
                  longer = omega (arith, length-append (done ++ p ∷ []) out, length-append done (p ∷ []));
                },
              )

          pub walk_next : (more : List DirId) → more ≡ rest ++ reverse (next_ids skips deepest above tree who (path_at tree id.0) limit) → (all : List Components) × IsNext skips deepest above start done id asks all more
          walk_next more e = by (goes_below deepest (length (path_at tree id.0) - above)) (is_ruled_out skips tree who (path_at tree id.0)) refl refl e where
            by : (a b : Bool) → goes_below deepest (length (path_at tree id.0) - above) ≡ a → is_ruled_out skips tree who (path_at tree id.0) ≡ b
                → more ≡ rest ++ reverse (cond (a && not b) (kid_ids tree who (path_at tree id.0) limit) []) → (all : List Components) × IsNext skips deepest above start done id asks all more
            by true true on out e = stop (left_passed (and_parts _ _ out).1) more e
            by true false on open_ e = go_on on more e
            by false b off any e = stop (left_deep off) more e

        -- there is less to do
        pub next_less : (asks : Row → ℕ → Bool) (all : List Components) (more : List DirId) → IsNext skips deepest above start done id asks all more → length (fronts_at tree who limit more) < length (fronts_at tree who limit todo)
        next_less asks all more next =
            omega (arith, length_permutation _ _ walk.split, length_permutation _ _ next.walk.split, next.longer, length-append done (fronts_at tree who limit todo), length-append all (fronts_at tree who limit more))
