-- A walk as a job of tasks: its shape, and what its tasks come to.
use Rattle.std.proofs.Common.{◌≡◌, ◌≢◌, ◌&&◌, ℕ, zero, suc, ◌+◌, ◌<◌, ◌≤◌, inl, inr, ⊎_elim, Bool, true, false, cond, eqb, List, [], ◌∷◌, ◌++◌, map, length, get_or, take, refl, sym, ap, ◌∙◌, subst, arith, append_assoc, length-append, sum_by, All, Contains}
use Rattle.std.specs.List.{filter, flat_map, range_with_len}
use Rattle.std.specs.List.Sorted.{IsPermutation}
use Rattle.std.proofs.lemmas.Bool.{false≢true, and_parts, and_from, cases_order}
use Rattle.std.proofs.lemmas.Bool.Decides.{eqb_tells}
use Rattle.std.proofs.lemmas.Grind.{flat_map-append}
use Rattle.std.proofs.lemmas.List.{append-nil, map-append, take_more}
use Rattle.std.proofs.lemmas.List.Elements.{filter-append, Contains-get_or, All-head, All-tail, All-nil, All-cons}
use Rattle.std.proofs.lemmas.List.Sums.{sum_by-cons, sum_by-append}
use Rattle.std.specs.declared.cmp.Ordering.TheVariants.{Less}
use Rattle.std.proofs.lemmas.List.Sorted.{sum_by-IsPermutation, length_permutation}
use Rattle.gufi_base.specs.declared.record.Row.{Row}
use Rattle.gufi_base.specs.Paths.{Components, path_eq, path_cmp, is_prefix, is_child_of}
use Rattle.gufi_access.specs.declared.class.Principal.{Principal}
use Rattle.gufi_core.specs.Steps.{count_of}
use Rattle.gufi_core.proofs.Counts.{one, one_yes, one_no}
use Rattle.gufi_tree.specs.declared.tree.DirId.{DirId}
use Rattle.gufi_tree.specs.Tree.{Directory, own_rows, all_rows, subtree_rows, home_rows, HasTreeShape}
use Rattle.gufi_tree.specs.Places.{dir_id, path_at, ids_from, child_ids}
use Rattle.gufi_tree.proofs.Built.{Has, All-Has, path_eq-Decides, path_eq-refl, path_eq-less}
use Rattle.gufi_tree.proofs.Filters.{Has-filter, filter-Has}
use Rattle.gufi_tree.proofs.Descent.{child_name}
use Rattle.gufi_tree.proofs.Flat.{lists_at-own, is_prefix-rest}
use Rattle.gufi_tree.proofs.Kids.{IsLater, kids_later}
use Rattle.gufi_tree.proofs.Linked.{path_at-get}
use Rattle.gufi_tree.proofs.Searched.{in_order}
use Rattle.gufi_roll.specs.CanRoll.{can_roll}
use Rattle.gufi_snap.proofs.Pieces.{all_rows-as_many}
use Rattle.gufi_snap.specs.Pieces.{front, piece, kids}
use Rattle.gufi_pool.specs.Jobs.{kids_weigh}
use Rattle.gufi_pool.specs.Forest.{IsShape, IsBalanced}
use Rattle.gufi_tree.specs.Listed.{is_listed}
use Rattle.gufi_base.specs.Rows.{home}
use Rattle.gufi_base.proofs.Permutations.{IsPermutation-flat_map}
use Rattle.gufi_walk.specs.Answer.{answer}
use Rattle.gufi_walk.specs.Walk.{meets, lists_at, open_ids, kid_ids, task_dirs, task_kids, open_places, shown_piece, task_rows}
use Rattle.gufi_walk.proofs.Passed.{listed_few}
use Rattle.gufi_walk.proofs.Pieces.{Has-map, front-step}
use Rattle.gufi_walk.proofs.Weights.{weigh_alike, sum_by-map, sum_by-flat}
use Rattle.gufi_walk.proofs.Walked.{IsOpen, IsOpenTop, IsOpen-start, at_place, fronts_at, fronts-kids, kids_open, ids_children, filtered_fewer, listed_at_top, IsOpenTop-at, shown_as_many, answer-by_pieces}

-- ---- elements

has_contains : {X : Type 0} (xs : List X) (x : X) → Has xs x → Contains xs x
has_contains [] x h = absurd h
has_contains (y ∷ ys) x (inl e) = (0, omega arith, e)
has_contains (y ∷ ys) x (inr h) = let c = has_contains ys x h in (suc c.0, (let lt = c.1 in omega arith), c.2)

contains_has : {X : Type 0} (xs : List X) (x : X) → Contains xs x → Has xs x
contains_has [] x c = absurd (let lt : c.0 < 0 = c.1 in omega arith)
contains_has {X} (y ∷ ys) x c = at (contains_has ys x) c.0 c.1 c.2 where
  at : (Contains ys x → Has ys x) → (k : ℕ) → k < suc (length ys) → get_or (y ∷ ys) k x ≡ x → Has (y ∷ ys) x
  at more zero lt e = inl e
  at more (suc k) lt e = inr (more (k, omega arith, e))

Has-range : (from n k : ℕ) → k < n → Has (range_with_len from n) (from + k)
Has-range from zero k lt = absurd (omega arith)
Has-range from (suc n) zero lt = inl (let e : from ≡ from + 0 = omega arith in e)
Has-range from (suc n) (suc k) lt = inr (subst (Has (range_with_len (from + 1) n)) (let e : from + 1 + k ≡ from + suc k = omega arith in e) (Has-range (from + 1) n k (omega arith)))

range-within : (from n x : ℕ) → Has (range_with_len from n) x → x < from + n
range-within from zero x h = absurd h
range-within from (suc n) x (inl e) = omega arith
range-within from (suc n) x (inr h) = let r = range-within (from + 1) n x h in omega arith

-- ---- tasks

module _ (tree : List Directory) (who : Principal) (shape : HasTreeShape tree) where
  listed_open : (start : Components) (id : DirId) → IsOpen tree who start id → lists_at tree who (path_at tree id.0) ≡ true
  listed_open start id o = ap (lists_at tree who) (sym o.path) ∙ lists_at-own tree who (λ p. false) shape o.dir o.there ∙ o.on

  pub place_open : (start : Components) (k : ℕ) → Contains (open_places tree who start) k → IsOpen tree who start (dir_id k)
  place_open start k c =
      let w = Has-filter (λ k. is_prefix start (path_at tree k) && lists_at tree who (path_at tree k)) (range_with_len 0 (length tree)) k (contains_has _ k c) in
      let within : k < length tree = let r = range-within 0 (length tree) k w.0 in omega arith in
      let tests = and_parts _ _ w.1 in
      let d = at_place tree k within in
      record {
        within = within;
        dir = d.0;
        there = d.1;
        on = sym (lists_at-own tree who (λ p. false) shape d.0 d.1) ∙ ap (lists_at tree who) d.2 ∙ tests.1;
        path = d.2;
        below = tests.0;
      }

  open_place : (start : Components) (id : DirId) → IsOpen tree who start id → Contains (open_places tree who start) id.0
  open_place start id o =
      has_contains _ id.0 (filter-Has (λ k. is_prefix start (path_at tree k) && lists_at tree who (path_at tree k)) (range_with_len 0 (length tree)) id.0 (let h = Has-range 0 (length tree) id.0 o.within in let z : 0 + id.0 ≡ id.0 = omega arith in subst (Has (range_with_len 0 (length tree))) z h)
      (and_from _ _ o.below (listed_open start id o)))

  pub place_deep : (start : Components) (k : ℕ) → Contains (open_places tree who start) k → length start ≤ length (path_at tree k)
  place_deep start k c = let o = place_open start k c in let r = is_prefix-rest start (path_at tree k) o.below in omega (arith, ap length r.1, length-append start r.0)

  pub place_listed : (start : Components) (k : ℕ) → Contains (open_places tree who start) k → lists_at tree who (path_at tree k) ≡ true
  place_listed start k c = listed_open start (dir_id k) (place_open start k c)

  module _ (takes_all : Components → Bool) (limit : ℕ) where
    -- a kid, as a subdirectory
    record IsKid (k x : ℕ) : Type 0 where
      id : DirId
      is : id.0 ≡ x
      among : Has (child_ids tree (path_at tree k)) id
      open_ : Has (kid_ids tree who (path_at tree k) limit) id

    kid_of : (k x : ℕ) → Contains (task_kids takes_all tree who limit k) x → IsKid k x
    kid_of k x c = small (takes_all (path_at tree k)) (contains_has _ x c) where
      rolled : (b : Bool) (id : DirId) → Has (cond b [] (open_ids tree who (path_at tree k))) id → Has (child_ids tree (path_at tree k)) id
      rolled true id h = absurd h
      rolled false id h = (Has-filter (λ id. lists_at tree who (path_at tree id.0)) (child_ids tree (path_at tree k)) id h).0

      small : (b : Bool) → Has (cond b [] (map (λ (id : DirId). id.0) (kid_ids tree who (path_at tree k) limit))) x → IsKid k x
      small true h = absurd h
      small false h =
          let w = Has-map (λ (id : DirId). id.0) (kid_ids tree who (path_at tree k) limit) x h in
          record { id = w.0; is = w.2; among = rolled (can_roll tree limit (path_at tree k)) w.0 w.1; open_ = w.1 }

    kid_child : (k x : ℕ) → k < length tree → Contains (task_kids takes_all tree who limit k) x → is_child_of (path_at tree k) (path_at tree x) ≡ true
    kid_child k x within c =
        let w = kid_of k x c in
        let path : Components = path_at tree k in
        let child = All-Has (λ (i : DirId). is_child_of path (path_at tree i.0) ≡ true) (child_ids tree path) w.id
        (ids_children tree who shape limit path 0 tree (λ j y lt e. let z : 0 + j ≡ j = omega arith in ap (path_at tree) z ∙ path_at-get tree j y lt ∙ ap (λ (d : Directory). d.path) (sym e))) w.among in
        ap (λ i. is_child_of path (path_at tree i)) (sym w.is) ∙ child

    kid_later : (k x : ℕ) → k < length tree → Contains (task_kids takes_all tree who limit k) x → k < x
    kid_later k x within c =
        let w = kid_of k x c in
        let l = All-Has (IsLater tree k) (child_ids tree (path_at tree k)) w.id (kids_later tree shape k within) w.among in
        let m = l.later in
        let e = w.is in
        omega arith

    kid_open : (start : Components) (k x : ℕ) → Contains (open_places tree who start) k → Contains (task_kids takes_all tree who limit k) x → Contains (open_places tree who start) x
    kid_open start k x may c =
        let w = kid_of k x c in
        let o = place_open start k may in
        let each = kids_open tree who shape limit start (path_at tree k) o.below in
        subst (Contains (open_places tree who start)) w.is (open_place start w.id (All-Has (IsOpen tree who start) (kid_ids tree who (path_at tree k) limit) w.id each w.open_))

    -- the places of children, each once
    abbrev places : (Directory → Bool) → (DirId → Bool) → ℕ → List Directory → List ℕ
    places test L from xs = map (λ (id : DirId). id.0) (filter L (ids_from test from xs))

    abbrev with_place : Bool → Bool → ℕ → List ℕ → List ℕ
    with_place a b from rest = cond a (cond b (from ∷ rest) rest) rest

    places_next : (test : Directory → Bool) (L : DirId → Bool) (from : ℕ) (d : Directory) (ds : List Directory) → places test L from (d ∷ ds) ≡ with_place (test d) (L (dir_id from)) from (places test L (from + 1) ds)
    places_next test L from d ds = by (test d) (L (dir_id from)) where
      by : (a b : Bool) → map (λ (id : DirId). id.0) (filter L (cond a (dir_id from ∷ ids_from test (from + 1) ds) (ids_from test (from + 1) ds))) ≡ cond a (cond (L (dir_id from)) (from ∷ places test L (from + 1) ds) (places test L (from + 1) ds)) (places test L (from + 1) ds)
      by true b = kept (L (dir_id from)) where
        kept : (c : Bool) → map (λ (id : DirId). id.0) (cond c (dir_id from ∷ filter L (ids_from test (from + 1) ds)) (filter L (ids_from test (from + 1) ds))) ≡ cond c (from ∷ places test L (from + 1) ds) (places test L (from + 1) ds)
        kept true = refl
        kept false = refl
      by false b = refl

    none_more : (x from : ℕ) (rest : List ℕ) (a b : Bool) → x < from → count_of rest x ≡ 0 → count_of (with_place a b from rest) x ≡ 0
    none_more x from rest true true lt none =
        let here : eqb from x ≡ false = ⊎_elim (λ (yes : (eqb from x ≡ true) × (from ≡ x)). absurd (let e = yes.1 in omega arith)) (λ (no : (eqb from x ≡ false) × (from ≢ x)). no.0) (eqb_tells from x) in
        let z = one_no x from here in
        omega (arith, none, sum_by-cons (one x) from rest)
    none_more x from rest true false lt none = none
    none_more x from rest false b lt none = none

    none_before : (test : Directory → Bool) (L : DirId → Bool) (x from : ℕ) (xs : List Directory) → x < from → count_of (places test L from xs) x ≡ 0
    none_before test L x from [] lt = refl
    none_before test L x from (d ∷ ds) lt =
        ap (λ (l : List ℕ). count_of l x) (places_next test L from d ds) ∙ none_more x from (places test L (from + 1) ds) (test d) (L (dir_id from)) lt (none_before test L x (from + 1) ds (omega arith))

    once_more : (x from : ℕ) (rest : List ℕ) (a b : Bool) → (x < from + 1 → count_of rest x ≡ 0) → count_of rest x ≤ 1 → count_of (with_place a b from rest) x ≤ 1
    once_more x from rest true true none once = ⊎_elim
        (λ (yes : (eqb from x ≡ true) × (from ≡ x)).
        let z = one_yes x from yes.0 in
        let e = yes.1 in
        let n = none (omega arith) in
        omega (arith, sum_by-cons (one x) from rest))
        (λ (no : (eqb from x ≡ false) × (from ≢ x)). let z = one_no x from no.0 in omega (arith, once, sum_by-cons (one x) from rest))
        (eqb_tells from x)
    once_more x from rest true false none once = once
    once_more x from rest false b none once = once

    once_from : (test : Directory → Bool) (L : DirId → Bool) (x from : ℕ) (xs : List Directory) → count_of (places test L from xs) x ≤ 1
    once_from test L x from [] = omega arith
    once_from test L x from (d ∷ ds) =
        subst (λ (l : List ℕ). count_of l x ≤ 1) (sym (places_next test L from d ds))
        (once_more x from (places test L (from + 1) ds) (test d) (L (dir_id from)) (none_before test L x (from + 1) ds) (once_from test L x (from + 1) ds))

    kids_once : (k x : ℕ) → count_of (task_kids takes_all tree who limit k) x ≤ 1
    kids_once k x = small (takes_all (path_at tree k)) where
      rolled : (b : Bool) → count_of (map (λ (id : DirId). id.0) (cond b [] (open_ids tree who (path_at tree k)))) x ≤ 1
      rolled true = omega arith
      rolled false = once_from (λ dir. is_child_of (path_at tree k) dir.path) (λ id. lists_at tree who (path_at tree id.0)) x 0 tree

      small : (b : Bool) → count_of (cond b [] (map (λ (id : DirId). id.0) (kid_ids tree who (path_at tree k) limit))) x ≤ 1
      small true = omega arith
      small false = rolled (can_roll tree limit (path_at tree k))

    child_length : (p c : Components) → is_child_of p c ≡ true → length c ≡ length p + 1
    child_length p c child = let n = child_name p c child in omega (arith, ap length n.1, length-append p (n.0 ∷ []))

    same_length_tail : (p q : Components) (a b : List ℕ) → p ++ a ∷ [] ≡ q ++ b ∷ [] → p ≡ q
    same_length_tail [] [] a b e = refl
    same_length_tail [] (y ∷ ys) a b e = absurd (let n = ap length e in omega (arith, length-append ys (b ∷ [])))
    same_length_tail (x ∷ xs) [] a b e = absurd (let n = ap length e in omega (arith, length-append xs (a ∷ [])))
    same_length_tail (x ∷ xs) (y ∷ ys) a b e =
        let h : x ≡ y = cc in
        let t : xs ++ a ∷ [] ≡ ys ++ b ∷ [] = cc in
        let r = same_length_tail xs ys a b t in
        cc

    one_parent : (p q c : Components) → is_child_of p c ≡ true → is_child_of q c ≡ true → p ≡ q
    one_parent p q c a b = let n = child_name p c a in let m = child_name q c b in same_length_tail p q n.0 m.0 (sym n.1 ∙ m.1)

    same_place : (k j : ℕ) → k < length tree → j < length tree → path_at tree k ≡ path_at tree j → k ≡ j
    same_place k j within within' same =
        let d = at_place tree k within in
        let x : Directory = d.0 in
        let p : (get_or tree k x).path ≡ (get_or tree j x).path = sym (path_at-get tree k x within) ∙ same ∙ path_at-get tree j x within' in
        let apart : (a b : ℕ) → path_cmp (get_or tree a x).path (get_or tree b x).path ≡ Less → (get_or tree a x).path ≡ (get_or tree b x).path → ⊥ = λ a b less e.
        false≢true (sym (path_eq-less (get_or tree a x).path (get_or tree b x).path less) ∙ ap (path_eq (get_or tree a x).path) (sym e) ∙ path_eq-refl (get_or tree a x).path) in
        elim (cases_order k j) [
          | inl e ↦ e
          | inr (inl before) ↦ absurd (apart k j (in_order tree shape.order k j x before within') p)
          | inr (inr behind) ↦ absurd (apart j k (in_order tree shape.order j k x behind within) (sym p))
        ]

    pub walk_shape : (start : ℕ) → start < length tree → lists_at tree who (path_at tree start) ≡ true → IsShape (open_places tree who (path_at tree start)) (start ∷ []) (task_kids takes_all tree who limit)
    walk_shape start within on = record {
      first_given = All-cons (Contains (open_places tree who (path_at tree start))) start [] (open_place (path_at tree start) (dir_id start) (IsOpen-start tree who shape limit start within on)) (All-nil _);
      kids_given = λ task may j d lt. kid_open (path_at tree start) task _ may (Contains-get_or (task_kids takes_all tree who limit task) j d lt);
      greater = λ task kid may has. kid_later task kid (place_open (path_at tree start) task may).within has;
      first_once = λ x. ⊎_elim
          (λ (yes : (eqb start x ≡ true) × (start ≡ x)). let z = one_yes x start yes.0 in omega (arith, sum_by-cons (one x) start []))
          (λ (no : (eqb start x ≡ false) × (start ≢ x)). let z = one_no x start no.0 in omega (arith, sum_by-cons (one x) start []))
          (eqb_tells start x);
      kids_once = λ task x may. kids_once task x;
      apart = λ task x may has is_first.
          let same : start ≡ x = first_is x is_first in
          let deep = place_deep (path_at tree start) task may in
          let longer = child_length (path_at tree task) (path_at tree x) (kid_child task x (place_open (path_at tree start) task may).within has) in
          let e = ap (λ k. length (path_at tree k)) same in
          absurd (omega arith);
      one_parent = λ task other x may may' has has'.
          same_place task other (place_open (path_at tree start) task may).within (place_open (path_at tree start) other may').within
          (one_parent (path_at tree task) (path_at tree other) (path_at tree x) (kid_child task x (place_open (path_at tree start) task may).within has) (kid_child other x (place_open (path_at tree start) other may').within has'));
    } where
      first_is : (x : ℕ) → Contains (start ∷ []) x → start ≡ x
      first_is x c = by (contains_has (start ∷ []) x c) where
        by : Has (start ∷ []) x → start ≡ x
        by (inl e) = e
        by (inr h) = absurd h

    -- ---- the front, by tasks

    abbrev here_dirs : ℕ → List Components
    here_dirs k = task_dirs takes_all tree who limit (path_at tree k)

    abbrev fronts_of : ℕ → List Components
    fronts_of k = front tree who (path_at tree k) limit

    task_weighs : (h : Components → ℕ) (start : Components) (k : ℕ) → IsOpen tree who start (dir_id k)
        → sum_by h (fronts_of k) ≡ sum_by h (here_dirs k) + sum_by (λ t. sum_by h (fronts_of t)) (task_kids takes_all tree who limit k)
    task_weighs h start k o = by (takes_all (path_at tree k)) where
      path : Components
      path = path_at tree k

      whole : sum_by h (fronts_of k) ≡ h path + sum_by (λ t. sum_by h (fronts_of t)) (map (λ (id : DirId). id.0) (kid_ids tree who (path_at tree k) limit))
      whole =
          let step : IsPermutation (front tree who path limit) (path ∷ fronts_at tree who limit (kid_ids tree who path limit)) =
          subst (λ l. IsPermutation (front tree who path limit) (path ∷ l)) (sym (fronts-kids tree who shape limit path))
          (subst (λ p. IsPermutation (front tree who p limit) (p ∷ flat_map (λ q. front tree who q limit) (kids tree who p limit))) o.path (front-step tree limit who shape o.dir o.there o.on)) in
          omega (
            arith,
            sum_by-IsPermutation h _ _ step,
            sum_by-cons h path (fronts_at tree who limit (kid_ids tree who path limit)),
            sum_by-flat h (λ (id : DirId). front tree who (path_at tree id.0) limit) (kid_ids tree who path limit),
            sum_by-map (λ (id : DirId). id.0) (λ t. sum_by h (fronts_of t)) (kid_ids tree who path limit),
          )

      by : (b : Bool) → sum_by h (fronts_of k) ≡ sum_by h (cond b (front tree who (path_at tree k) limit) (path_at tree k ∷ [])) + sum_by (λ t. sum_by h (fronts_of t)) (cond b [] (map (λ (id : DirId). id.0) (kid_ids tree who (path_at tree k) limit)))
      by true = omega arith
      by false = omega (arith, whole, sum_by-cons h path [])

    tasks_weigh : (h : Components → ℕ) (start : Components) (tasks : List ℕ) → All (Contains (open_places tree who start)) tasks
        → sum_by (λ t. sum_by h (fronts_of t)) tasks ≡ sum_by h (flat_map here_dirs tasks) + kids_weigh (task_kids takes_all tree who limit) (λ t. sum_by h (fronts_of t)) tasks
    tasks_weigh h start [] all = refl
    tasks_weigh h start (t ∷ ts) all =
        let may = All-head (Contains (open_places tree who start)) t ts all in
        let rest = tasks_weigh h start ts (All-tail (Contains (open_places tree who start)) t ts all) in
        let one = task_weighs h start t (place_open start t may) in
        omega (
          arith,
          sum_by-cons (λ t. sum_by h (fronts_of t)) t ts,
          sum_by-append h (here_dirs t) (flat_map here_dirs ts),
          sum_by-cons (λ k. sum_by (λ t. sum_by h (fronts_of t)) (task_kids takes_all tree who limit k)) t ts,
        )

    -- The directories that all tasks take are the front of the start.
    pub tasks_front : (start : ℕ) (tasks : List ℕ) → All (Contains (open_places tree who (path_at tree start))) tasks → IsBalanced (start ∷ []) (task_kids takes_all tree who limit) tasks
        → IsPermutation (front tree who (path_at tree start) limit) (flat_map here_dirs tasks)
    tasks_front start tasks may balanced = weigh_alike path_eq path_eq-Decides _ _ (λ h.
        let b = balanced (λ t. sum_by h (fronts_of t)) in
        let w = tasks_weigh h (path_at tree start) tasks may in
        omega (arith, sum_by-cons (λ t. sum_by h (fronts_of t)) start []))

-- the rows of all tasks
pub tasks_rows : (takes_all : Components → Bool) (tree : List Directory) (who : Principal) (limit : ℕ) (met : Row → Bool) (tasks : List ℕ)
    → flat_map (task_rows takes_all tree who limit met) tasks ≡ filter met (flat_map (shown_piece tree who limit) (flat_map (λ k. task_dirs takes_all tree who limit (path_at tree k)) tasks))
tasks_rows takes_all tree who limit met [] = refl
tasks_rows takes_all tree who limit met (t ∷ ts) =
    let P : Components → List Row = shown_piece tree who limit in
    let D : ℕ → List Components = λ k. task_dirs takes_all tree who limit (path_at tree k) in
    ap (λ l. filter met (flat_map P (D t)) ++ l) (tasks_rows takes_all tree who limit met ts)
    ∙ sym (ap (filter met) (flat_map-append P (D t) (flat_map D ts)) ∙ filter-append met (flat_map P (D t)) (flat_map P (flat_map D ts)))

-- one place more
pub places_more : (L : DirId → Bool) (before now after : List ℕ) (ids : List DirId) (i : ℕ) (id : DirId) → now ≡ before ++ map (λ (id : DirId). id.0) (filter L (take i ids)) → i < length ids → id ≡ get_or ids i id
    → after ≡ now ++ map (λ (id : DirId). id.0) (filter L (id ∷ [])) → after ≡ before ++ map (λ (id : DirId). id.0) (filter L (take (i + 1) ids))
places_more L before now after ids i id so_far lt is one =
    let f : DirId → ℕ = λ (id : DirId). id.0 in
    one ∙ ap (λ l. l ++ map f (filter L (id ∷ []))) so_far ∙ append_assoc before (map f (filter L (take i ids))) (map f (filter L (id ∷ [])))
    ∙ ap (λ l. before ++ l) (sym (map-append f (filter L (take i ids)) (filter L (id ∷ []))) ∙ ap (map f) (sym (filter-append L (take i ids) (id ∷ [])))
    ∙ ap (λ l. map f (filter L l)) (ap (λ x. take i ids ++ x ∷ []) is ∙ sym (take_more ids i id lt)))

-- a piece is among all rows
pub piece_few : (tree : List Directory) (path : Components) (limit : ℕ) → length (piece tree path limit) ≤ length (all_rows tree)
piece_few tree path limit = by (can_roll tree limit path) where
  by : (b : Bool) → length (cond b (subtree_rows tree path) (home_rows tree path)) ≤ length (all_rows tree)
  by true = filtered_fewer _ (all_rows tree)
  by false = filtered_fewer _ (all_rows tree)

-- The rows of the directories that a task takes are no more than all rows.
pub task_few : (tree : List Directory) (who : Principal) → HasTreeShape tree → (limit : ℕ) (path : Components) → IsOpenTop tree who path → (whole : Bool)
    → length (flat_map (λ p. piece tree p limit) (cond whole (front tree who path limit) (path ∷ []))) ≤ length (flat_map own_rows tree)
task_few tree who shape limit path top true =
    omega (arith, length_permutation _ _ (listed_at_top tree who shape limit path top), listed_few tree path who, filtered_fewer (λ row. is_prefix path (home row)) (all_rows tree), all_rows-as_many tree)
task_few tree who shape limit path top false = omega (arith, ap length (append-nil (piece tree path limit)), piece_few tree path limit, all_rows-as_many tree)

module _ (tree : List Directory) (who : Principal) (shape : HasTreeShape tree) (takes_all : Components → Bool) (limit start : ℕ) (within : start < length tree) (on : lists_at tree who (path_at tree start) ≡ true)
    (tasks : List ℕ) (may : All (Contains (open_places tree who (path_at tree start))) tasks) (balanced : IsBalanced (start ∷ []) (task_kids takes_all tree who limit) tasks) where
  all_dirs : List Components
  all_dirs = flat_map (λ k. task_dirs takes_all tree who limit (path_at tree k)) tasks

  -- the rows of all tasks are the answer
  pub tasks_answer : (asks : Row → ℕ → Bool) → IsPermutation (flat_map (task_rows takes_all tree who limit (meets asks (length (path_at tree start)))) tasks) (answer tree who (path_at tree start) asks)
  unfolding all_dirs
  tasks_answer asks =
      subst (λ l. IsPermutation l (answer tree who (path_at tree start) asks)) (sym (tasks_rows takes_all tree who limit (meets asks (length (path_at tree start))) tasks))
      (answer-by_pieces tree who shape limit (path_at tree start) (IsOpenTop-at tree who shape start within on) all_dirs (tasks_front tree who shape takes_all limit start tasks may balanced) asks)

  -- and no more than all rows
  pub tasks_few : (met : Row → Bool) → length (flat_map (task_rows takes_all tree who limit met) tasks) ≤ length (all_rows tree)
  unfolding all_dirs
  tasks_few met =
      let P : Components → List Row = λ p. piece tree p limit in
      omega (
        arith,
        ap length (tasks_rows takes_all tree who limit met tasks),
        filtered_fewer met (flat_map (shown_piece tree who limit) all_dirs),
        shown_as_many tree who limit all_dirs,
        length_permutation _ _ (IsPermutation-flat_map P _ _ (tasks_front tree who shape takes_all limit start tasks may balanced)),
        length_permutation _ _ (listed_at_top tree who shape limit (path_at tree start) (IsOpenTop-at tree who shape start within on)),
        filtered_fewer (λ row. is_listed tree who (path_at tree start) (home row)) (all_rows tree),
      )
