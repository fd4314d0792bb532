-- How far a walk has come: what is done, and the places where it goes on.
use Rattle.std.proofs.Common.{◌≡◌, ℕ, zero, suc, ◌+◌, ◌<◌, ◌≤◌, inl, inr, Bool, true, false, cond, List, [], ◌∷◌, ◌++◌, map, length, get_or, refl, sym, ap, ◌∙◌, subst, arith, append_assoc, length-append, add-zero, add_assoc}
use Rattle.std.specs.Prelude.{reverse, All}
use Rattle.std.specs.Borrow.{Bor}
use Rattle.std.specs.List.{AllByRecursion, filter, flat_map}
use Rattle.std.specs.List.Sorted.{IsPermutation}
use Rattle.std.proofs.lemmas.Bool.{false≢true, false_from_ne_true}
use Rattle.std.proofs.lemmas.Grind.{flat_map-append, reverse_onto}
use Rattle.std.proofs.lemmas.List.Elements.{filter-append, All-from_recursion, recursion_from_All}
use Rattle.std.proofs.lemmas.List.Sums.{length-filter, count_by-le-length}
use Rattle.std.proofs.lemmas.List.{append-nil, length-map}
use Rattle.std.proofs.lemmas.List.Folds.{flat_map-map}
use Rattle.std.proofs.lemmas.List.Sorted.{IsPermutation-refl, IsPermutation-trans, IsPermutation-sym, IsPermutation-cons, IsPermutation-map, IsPermutation-middle, IsPermutation-reverse, IsPermutation-append_right, length_permutation}
use Rattle.gufi_base.specs.declared.record.Row.{Row}
use Rattle.gufi_base.specs.Paths.{Components, is_prefix, is_child_of}
use Rattle.gufi_base.specs.Rows.{depth_below, home}
use Rattle.gufi_base.proofs.Permutations.{empty_from_length, IsPermutation-filter, IsPermutation-flat_map}
use Rattle.gufi_access.specs.declared.class.Principal.{Principal}
use Rattle.gufi_access.specs.Access.{Rights, can_list}
use Rattle.gufi_tree.specs.declared.tree.DirId.{DirId}
use Rattle.gufi_tree.specs.declared.resolve.Resolved.TheVariants.{Found}
use Rattle.gufi_tree.specs.Tree.{Directory, rights_of, all_rows, may_list, subdirs, HasTreeShape}
use Rattle.gufi_tree.specs.Listed.{is_listed}
use Rattle.gufi_tree.specs.Resolve.{resolve}
use Rattle.gufi_tree.specs.Places.{dir_id, path_at, ids_from, child_ids}
use Rattle.gufi_tree.proofs.Built.{Has, All-Has, All-from_Has}
use Rattle.gufi_tree.proofs.Filters.{Has-filter, filter-none}
use Rattle.gufi_tree.proofs.Descent.{child_name}
use Rattle.gufi_tree.proofs.Flat.{lists_at-own, is_prefix-append, is_prefix-rest}
use Rattle.gufi_tree.proofs.RowHomes.{Has-IsPermutation}
use Rattle.gufi_tree.proofs.FoundStart.{IsFoundPlace, found_place_of_start}
use Rattle.gufi_tree.proofs.Linked.{path_at-get}
use Rattle.gufi_tree.proofs.Resolving.{depth_within}
use Rattle.gufi_sums.specs.Total.{total, NoneMeets}
use Rattle.gufi_sums.specs.Laws.{total-IsPermutation}
use Rattle.gufi_roll.specs.CanRoll.{can_roll}
use Rattle.gufi_snap.specs.Pieces.{front, piece, kids}
use Rattle.gufi_walk.specs.Answer.{shown, listed_rows, answer}
use Rattle.gufi_walk.specs.Walk.{lists_at, open_ids, kid_ids, meets, shown_piece}
use Rattle.gufi_walk.proofs.Showing.{shown-total}
use Rattle.gufi_walk.proofs.Pieces.{map-flat_map, plain_rows, front-step, plain_rows-by_front}

Has-get_or : {X : Type 0} (xs : List X) (i : ℕ) (d : X) → i < length xs → Has xs (get_or xs i d)
Has-get_or [] i d h = absurd (omega arith)
Has-get_or (x ∷ xs) zero d h = inl refl
Has-get_or (x ∷ xs) (suc i) d h = inr (Has-get_or xs i d (omega arith))

-- ---- what is true of all members

pub All-append : {X : Type 0} (P : X → Type 0) (xs ys : List X) → AllByRecursion P xs → AllByRecursion P ys → AllByRecursion P (xs ++ ys)
All-append P [] ys a b = b
All-append P (x ∷ xs) ys a b = (a.0, All-append P xs ys a.1 b)

pub All-front : {X : Type 0} (P : X → Type 0) (xs ys : List X) → AllByRecursion P (xs ++ ys) → AllByRecursion P xs × AllByRecursion P ys
All-front P [] ys a = (tt, a)
All-front P (x ∷ xs) ys a = let rest = All-front P xs ys a.1 in ((a.0, rest.0), rest.1)

pub All-reverse : {X : Type 0} (P : X → Type 0) (xs : List X) → AllByRecursion P xs → AllByRecursion P (reverse xs)
All-reverse P xs a = All-from_Has P (reverse xs) (λ x h. All-Has P xs x a (Has-IsPermutation x (reverse xs) xs (IsPermutation-sym _ _ (IsPermutation-reverse xs)) h))

-- ---- places and directories

module _ {Y : Type 0} (test l : Directory → Bool) (L : DirId → Bool) (g : ℕ → Y) (f : Directory → Y) where
  head_step : (b c : Bool) (x : Directory) (i : ℕ) (ps : List DirId) (xs : List Directory) → g i ≡ f x → L (dir_id i) ≡ c → l x ≡ c
      → map (λ id. g id.0) (filter L ps) ≡ map f (filter l xs)
      → map (λ id. g id.0) (filter L (cond b (dir_id i ∷ ps) ps)) ≡ map f (filter l (cond b (x ∷ xs) xs))
  head_step true true x i ps xs e u v h = rw (u, v, e, h) refl
  head_step true false x i ps xs e u v h = rw (u, v) h
  head_step false c x i ps xs e u v h = h

  -- what a function of the places gives, where it is that of the directories
  map-ids_from : (from : ℕ) (xs : List Directory) → ((j : ℕ) (x : Directory) → j < length xs → x ≡ get_or xs j x → (g (from + j) ≡ f x) × (L (dir_id (from + j)) ≡ l x))
      → map (λ id. g id.0) (filter L (ids_from test from xs)) ≡ map f (filter l (filter test xs))
  map-ids_from from [] h = refl
  map-ids_from from (x ∷ xs) h =
      let first = rw add-zero at (h 0 x (omega arith) refl) in
      head_step (test x) (l x) x from _ (filter test xs) first.0 first.1 refl
      (map-ids_from (from + 1) xs (λ j y k e. rw add_assoc (rw (one_more j) (h (suc j) y (omega arith) e)))) where
        one_more : (j : ℕ) → 1 + j ≡ suc j
        one_more j = omega arith

ids_within : (test : Directory → Bool) (from n : ℕ) (xs : List Directory) → from + length xs ≡ n → AllByRecursion (λ (id : DirId). id.0 < n) (ids_from test from xs)
ids_within test from n [] e = tt
ids_within test from n (x ∷ xs) e = one (test x) (omega arith) (ids_within test (from + 1) n xs (omega arith)) where
  one : (b : Bool) → from < n → AllByRecursion (λ (id : DirId). id.0 < n) (ids_from test (from + 1) xs) → AllByRecursion (λ (id : DirId). id.0 < n) (cond b (dir_id from ∷ ids_from test (from + 1) xs) (ids_from test (from + 1) xs))
  one true h k = (h, k)
  one false h k = k

module _ (tree : List Directory) (who : Principal) where
  -- where a walk may go on: a directory that may be listed, at or below the start
  pub record IsOpen (start : Components) (id : DirId) : Type 0 where
    pub within : id.0 < length tree
    pub dir : Directory
    pub there : Has tree dir
    pub on : may_list who dir ≡ true
    pub path : dir.path ≡ path_at tree id.0
    pub below : is_prefix start (path_at tree id.0) ≡ true

  -- the start is a directory's that may be listed
  pub record IsOpenTop (start : Components) : Type 0 where
    pub dir : Directory
    pub there : Has tree dir
    pub on : may_list who dir ≡ true
    pub path : dir.path ≡ start

  abbrev pub fronts_at : ℕ → List DirId → List Components
  fronts_at limit todo = flat_map (λ id. front tree who (path_at tree id.0) limit) todo

  -- what is done and the fronts from the places where the walk goes on are the front of the start
  pub record IsWalk (limit : ℕ) (start : Components) (done : List Components) (todo : List DirId) : Type 0 where
    pub split : IsPermutation (front tree who start limit) (done ++ fronts_at limit todo)
    pub each : AllByRecursion (IsOpen start) todo

pub filtered_fewer : {X : Type 0} (p : X → Bool) (xs : List X) → length (filter p xs) ≤ length xs
filtered_fewer p xs = omega (arith, length-filter p xs, count_by-le-length p xs)

-- a filter of a reversed list
filter-reverse : {X : Type 0} (p : X → Bool) (xs : List X) → filter p (reverse xs) ≡ reverse (filter p xs)
filter-reverse p [] = refl
filter-reverse {X} p (x ∷ xs) =
    ap (filter p) (reverse_onto xs x []) ∙ filter-append p (reverse xs) (x ∷ []) ∙ ap (λ l. l ++ filter p (x ∷ [])) (filter-reverse p xs) ∙ by (p x) where
      by : (b : Bool) → reverse (filter p xs) ++ cond b (x ∷ []) [] ≡ reverse (cond b (x ∷ filter p xs) (filter p xs))
      by true = sym (reverse_onto (filter p xs) x [])
      by false = append-nil (reverse (filter p xs))

-- places that were taken from the last one on, of those that pass
pub taken_back : (L : DirId → Bool) (before ids : List DirId) (yielded : List (Bor DirId)) (after : List DirId) → map (λ r. r.now) yielded ≡ reverse ids
    → after ≡ before ++ filter L (map (λ r. r.now) yielded) → after ≡ before ++ reverse (filter L ids)
taken_back L before ids yielded after all e = e ∙ ap (λ l. before ++ filter L l) all ∙ ap (λ l. before ++ l) (filter-reverse L ids)

-- the places of children are in range
pub children_within : (tree : List Directory) (path : Components) (ids : List DirId) → ids ≡ child_ids tree path → All (λ (id : DirId). id.0 < length tree) ids
children_within tree path ids e =
    All-from_recursion (λ (id : DirId). id.0 < length tree) ids
    (subst (AllByRecursion (λ (id : DirId). id.0 < length tree)) (sym e) (ids_within (λ dir. is_child_of path dir.path) 0 (length tree) tree (omega arith)))

-- the rows of one piece more
pub pieces-more : (tree : List Directory) (limit : ℕ) (done : List Components) (path : Components)
    → flat_map (λ p. piece tree p limit) (done ++ path ∷ []) ≡ flat_map (λ p. piece tree p limit) done ++ piece tree path limit
pieces-more tree limit done path =
    let P : Components → List Row = λ p. piece tree p limit in
    flat_map-append P done (path ∷ []) ∙ ap (λ l. flat_map P done ++ l) (append-nil (P path))

-- those of them that meet a question, as they are shown
pub rows-more : (tree : List Directory) (who : Principal) (limit : ℕ) (met : Row → Bool) (done : List Components) (path : Components)
    → filter met (flat_map (shown_piece tree who limit) (done ++ path ∷ [])) ≡ filter met (flat_map (shown_piece tree who limit) done) ++ filter met (shown_piece tree who limit path)
rows-more tree who limit met done path =
    let P : Components → List Row = shown_piece tree who limit in
    ap (filter met) (flat_map-append P done (path ∷ []) ∙ ap (λ l. flat_map P done ++ l) (append-nil (P path))) ∙ filter-append met (flat_map P done) (P path)

-- pieces as they are shown are their rows as they are shown
pub shown_pieces : (tree : List Directory) (who : Principal) (limit : ℕ) (paths : List Components) → map (shown who) (flat_map (λ p. piece tree p limit) paths) ≡ flat_map (shown_piece tree who limit) paths
shown_pieces tree who limit paths = map-flat_map (λ (p : Components). piece tree p limit) (shown who) paths

pub shown_as_many : (tree : List Directory) (who : Principal) (limit : ℕ) (paths : List Components) → length (flat_map (shown_piece tree who limit) paths) ≡ length (flat_map (λ p. piece tree p limit) paths)
shown_as_many tree who limit paths = ap length (sym (shown_pieces tree who limit paths)) ∙ length-map (flat_map (λ p. piece tree p limit) paths) (shown who)

-- a test that all pass leaves out none
pub filter-all : {X : Type 0} (xs : List X) → filter (λ x. true) xs ≡ xs
filter-all [] = refl
filter-all (x ∷ xs) = ap (λ l. x ∷ l) (filter-all xs)

-- a directory has no more names than its place says
pub depth_at-place : (tree : List Directory) → HasTreeShape tree → (k : ℕ) → k < length tree → length (path_at tree k) ≤ k
depth_at-place [] shape k within = absurd (omega arith)
depth_at-place (d ∷ ds) shape k within =
    let depth = depth_within (d ∷ ds) shape (k + 1) k d (omega arith) within in
    omega (arith, ap length (path_at-get (d ∷ ds) k d within))

-- the directory at a place
pub at_place : (tree : List Directory) (k : ℕ) → k < length tree → (d : Directory) × Has tree d × (d.path ≡ path_at tree k)
at_place tree k within = by tree within refl where
  by : (ds : List Directory) → k < length tree → ds ≡ tree → (d : Directory) × Has tree d × (d.path ≡ path_at tree k)
  by [] h e = absurd (omega (arith, h, ap length e))
  by (d ∷ ds) h e = (get_or tree k d, Has-get_or tree k d h, sym (path_at-get tree k d h))

module _ (tree : List Directory) (who : Principal) (shape : HasTreeShape tree) where
  -- whether the directory at a place may be listed, by what guards it
  pub lists_at-place : (k : ℕ) → k < length tree → (rights : Rights) → ((d : Directory) → rights ≡ rights_of (get_or tree k d).rec) → can_list who rights ≡ lists_at tree who (path_at tree k)
  lists_at-place k within rights same =
      let w = at_place tree k within in
      let d : Directory = get_or tree k w.0 in
      ap (can_list who) (same w.0) ∙ sym (ap (lists_at tree who) (path_at-get tree k w.0 within) ∙ lists_at-own tree who (λ p. false) shape d (Has-get_or tree k w.0 within))

  pub IsOpenTop-at : (k : ℕ) → k < length tree → lists_at tree who (path_at tree k) ≡ true → IsOpenTop tree who (path_at tree k)
  IsOpenTop-at k within on =
      let w = at_place tree k within in
      record { dir = w.0; there = w.1; on = sym (lists_at-own tree who (λ p. false) shape w.0 w.1) ∙ ap (lists_at tree who) w.2 ∙ on; path = w.2 }

  -- a start that is found may be listed
  pub found_listed : (start : Components) (id : DirId) → IsFoundPlace tree who start id → lists_at tree who (path_at tree id.0) ≡ true
  found_listed start id f = ap (lists_at tree who) (f.path ∙ sym f.at) ∙ lists_at-own tree who (λ p. false) shape f.dir f.there ∙ f.on

  pub listed_at_top : (limit : ℕ) (start : Components) → IsOpenTop tree who start → IsPermutation (plain_rows tree who start) (flat_map (λ p. piece tree p limit) (front tree who start limit))
  listed_at_top limit start top =
      let P : Components → Type 0 = λ q. IsPermutation (plain_rows tree who q) (flat_map (λ p. piece tree p limit) (front tree who q limit)) in
      subst P top.path (plain_rows-by_front tree limit who shape top.dir top.there top.on)

  -- nothing is left to do
  pub IsWalk-all : (limit : ℕ) (start : Components) (done : List Components) (todo : List DirId) → IsWalk tree who limit start done todo → length todo ≡ 0 → IsPermutation (front tree who start limit) done
  IsWalk-all limit start done todo walk e =
      let none : todo ≡ [] = empty_from_length todo e in
      let split : IsPermutation (front tree who start limit) (done ++ fronts_at tree who limit []) = subst (λ l. IsPermutation (front tree who start limit) (done ++ fronts_at tree who limit l)) none walk.split in
      subst (λ l. IsPermutation (front tree who start limit) l) (append-nil done) split

  -- and as they are shown
  pub shown_at_top : (limit : ℕ) (start : Components) → IsOpenTop tree who start → IsPermutation (listed_rows tree who start) (flat_map (shown_piece tree who limit) (front tree who start limit))
  shown_at_top limit start top = subst (IsPermutation (listed_rows tree who start)) (shown_pieces tree who limit (front tree who start limit)) (IsPermutation-map (shown who) _ _ (listed_at_top limit start top))

  -- the rows of all pieces of the front, in whatever order, are the answer
  pub answer-by_pieces : (limit : ℕ) (start : Components) → IsOpenTop tree who start → (done : List Components) → IsPermutation (front tree who start limit) done
      → (asks : Row → ℕ → Bool) → IsPermutation (filter (meets asks (length start)) (flat_map (shown_piece tree who limit) done)) (answer tree who start asks)
  unfolding answer
  answer-by_pieces limit start top done all asks =
      IsPermutation-filter (meets asks (length start)) _ _
      (IsPermutation-trans _ _ _ (IsPermutation-flat_map (shown_piece tree who limit) _ _ (IsPermutation-sym _ _ all)) (IsPermutation-sym _ _ (shown_at_top limit start top)))

  -- and all listed rows have their sum
  pub total-by_pieces : (limit : ℕ) (start : Components) → IsOpenTop tree who start → (done : List Components) → IsPermutation (front tree who start limit) done
      → total (flat_map (λ p. piece tree p limit) done) ≡ total (answer tree who start (λ row depth. true))
  total-by_pieces limit start top done all =
      sym (shown-total who (flat_map (λ p. piece tree p limit) done)) ∙ ap total (shown_pieces tree who limit done ∙ sym (filter-all (flat_map (shown_piece tree who limit) done)))
      ∙ total-IsPermutation _ _ (answer-by_pieces limit start top done all (λ row depth. true))

  module _ (limit : ℕ) where
    pub IsOpen-start : (k : ℕ) → k < length tree → lists_at tree who (path_at tree k) ≡ true → IsOpen tree who (path_at tree k) (dir_id k)
    IsOpen-start k within on =
        let w = at_place tree k within in
        record {
          within = within;
          dir = w.0;
          there = w.1;
          on = sym (lists_at-own tree who (λ p. false) shape w.0 w.1) ∙ ap (lists_at tree who) w.2 ∙ on;
          path = w.2;
          below = prefix_itself (path_at tree k);
        } where
          prefix_itself : (p : Components) → is_prefix p p ≡ true
          prefix_itself p = ap (is_prefix p) (sym (append-nil p)) ∙ is_prefix-append p []

    pub IsWalk-start : (k : ℕ) → k < length tree → lists_at tree who (path_at tree k) ≡ true → IsWalk tree who limit (path_at tree k) [] (dir_id k ∷ [])
    IsWalk-start k within on = record {
      split = subst (λ l. IsPermutation (front tree who (path_at tree k) limit) l) (sym (append-nil (front tree who (path_at tree k) limit))) (IsPermutation-refl _);
      each = (IsOpen-start k within on, tt);
    }

    -- the places of the kids, and the kids
    pub kids_at : (path : Components) → map (λ id. path_at tree id.0) (kid_ids tree who path limit) ≡ kids tree who path limit
    kids_at path = by (can_roll tree limit path) where
      open_ : map (λ id. path_at tree id.0) (open_ids tree who path) ≡ map (λ dir. dir.path) (filter (may_list who) (subdirs tree path))
      open_ =
          map-ids_from (λ dir. is_child_of path dir.path) (may_list who) (λ id. lists_at tree who (path_at tree id.0)) (path_at tree) (λ dir. dir.path) 0 tree (λ j x within e.
          let z : 0 + j ≡ j = omega arith in
          let p : path_at tree (0 + j) ≡ x.path = ap (path_at tree) z ∙ path_at-get tree j x within ∙ ap (λ (d : Directory). d.path) (sym e) in
          (p, ap (lists_at tree who) p ∙ lists_at-own tree who (λ q. false) shape x (subst (Has tree) (sym e) (Has-get_or tree j x within))))

      by : (b : Bool) → map (λ id. path_at tree id.0) (cond b [] (open_ids tree who path)) ≡ cond b [] (map (λ dir. dir.path) (filter (may_list who) (subdirs tree path)))
      by true = refl
      by false = open_

    pub fronts-kids : (path : Components) → fronts_at tree who limit (kid_ids tree who path limit) ≡ flat_map (λ p. front tree who p limit) (kids tree who path limit)
    fronts-kids path = sym (flat_map-map (λ p. front tree who p limit) (λ (id : DirId). path_at tree id.0) (kid_ids tree who path limit)) ∙ ap (flat_map (λ p. front tree who p limit)) (kids_at path)

    kid_open : (start path : Components) → is_prefix start path ≡ true → (id : DirId) → id.0 < length tree → lists_at tree who (path_at tree id.0) ≡ true → is_child_of path (path_at tree id.0) ≡ true → IsOpen tree who start id
    kid_open start path leads id within on child =
        let w = at_place tree id.0 within in
        let r = is_prefix-rest start path leads in
        let n = child_name path (path_at tree id.0) child in
        let q : path_at tree id.0 ≡ start ++ (r.0 ++ n.0 ∷ []) = n.1 ∙ ap (λ (p : Components). p ++ n.0 ∷ []) r.1 ∙ append_assoc start r.0 (n.0 ∷ []) in
        record {
          within = within;
          dir = w.0;
          there = w.1;
          on = sym (lists_at-own tree who (λ p. false) shape w.0 w.1) ∙ ap (lists_at tree who) w.2 ∙ on;
          path = w.2;
          below = ap (is_prefix start) q ∙ is_prefix-append start (r.0 ++ n.0 ∷ []);
        }

    -- the places are those of children
    pub ids_children : (path : Components) (from : ℕ) (xs : List Directory) → ((j : ℕ) (x : Directory) → j < length xs → x ≡ get_or xs j x → path_at tree (from + j) ≡ x.path)
        → AllByRecursion (λ (id : DirId). is_child_of path (path_at tree id.0) ≡ true) (ids_from (λ dir. is_child_of path dir.path) from xs)
    ids_children path from [] h = tt
    ids_children path from (x ∷ xs) h =
        let z : from + 0 ≡ from = omega arith in
        let first : path_at tree from ≡ x.path = ap (path_at tree) (sym z) ∙ h 0 x (omega arith) refl in
        one (is_child_of path x.path) refl (ap (is_child_of path) first)
        (ids_children path (from + 1) xs (λ j y k e. let m : from + 1 + j ≡ from + suc j = omega arith in ap (path_at tree) m ∙ h (suc j) y (omega arith) e)) where
          one : (b : Bool) → is_child_of path x.path ≡ b → is_child_of path (path_at tree from) ≡ is_child_of path x.path
              → AllByRecursion (λ (id : DirId). is_child_of path (path_at tree id.0) ≡ true) (ids_from (λ dir. is_child_of path dir.path) (from + 1) xs)
              → AllByRecursion (λ (id : DirId). is_child_of path (path_at tree id.0) ≡ true) (cond b (dir_id from ∷ ids_from (λ dir. is_child_of path dir.path) (from + 1) xs) (ids_from (λ dir. is_child_of path dir.path) (from + 1) xs))
          one true e f k = (f ∙ e, k)
          one false e f k = k

    kid_child : (path : Components) (id : DirId) → Has (child_ids tree path) id → is_child_of path (path_at tree id.0) ≡ true
    kid_child path id among =
        All-Has (λ (i : DirId). is_child_of path (path_at tree i.0) ≡ true) (child_ids tree path) id
        (ids_children path 0 tree (λ j x k e. let z : 0 + j ≡ j = omega arith in ap (path_at tree) z ∙ path_at-get tree j x k ∙ ap (λ (d : Directory). d.path) (sym e))) among

    pub kids_open : (start path : Components) → is_prefix start path ≡ true → AllByRecursion (IsOpen tree who start) (kid_ids tree who path limit)
    kids_open start path leads = by (can_roll tree limit path) where
      each : (id : DirId) → Has (open_ids tree who path) id → IsOpen tree who start id
      each id h =
          let w = Has-filter (λ id. lists_at tree who (path_at tree id.0)) (child_ids tree path) id h in
          let within = All-Has (λ (i : DirId). i.0 < length tree) (child_ids tree path) id (ids_within (λ dir. is_child_of path dir.path) 0 (length tree) tree (omega arith)) w.0 in
          kid_open start path leads id within w.1 (kid_child path id w.0)

      by : (b : Bool) → AllByRecursion (IsOpen tree who start) (cond b [] (open_ids tree who path))
      by true = tt
      by false = All-from_Has (IsOpen tree who start) (open_ids tree who path) each

    -- they lie one level below the directory
    pub kids_long : (path : Components) → AllByRecursion (λ (id : DirId). length (path_at tree id.0) ≡ length path + 1) (kid_ids tree who path limit)
    kids_long path = by (can_roll tree limit path) where
      each : (id : DirId) → Has (open_ids tree who path) id → length (path_at tree id.0) ≡ length path + 1
      each id h =
          let n = child_name path (path_at tree id.0) (kid_child path id (Has-filter (λ id. lists_at tree who (path_at tree id.0)) (child_ids tree path) id h).0) in
          omega (arith, ap length n.1, length-append path (n.0 ∷ []))

      by : (b : Bool) → AllByRecursion (λ (id : DirId). length (path_at tree id.0) ≡ length path + 1) (cond b [] (open_ids tree who path))
      by true = tt
      by false = All-from_Has (λ (id : DirId). length (path_at tree id.0) ≡ length path + 1) (open_ids tree who path) each

    module _ (start : Components) (done : List Components) (todo rest : List DirId) (id : DirId) (walk : IsWalk tree who limit start done todo) (last : todo ≡ rest ++ id ∷ []) where
      pub walk_last : IsOpen tree who start id
      walk_last = (All-front (IsOpen tree who start) rest (id ∷ []) (subst (AllByRecursion (IsOpen tree who start)) last walk.each)).1.0

      here : Components
      here = path_at tree id.0

      abbrev below : List Components
      below = fronts_at tree who limit (reverse (kid_ids tree who (path_at tree id.0) limit))

      here_split : IsPermutation (front tree who (path_at tree id.0) limit) (path_at tree id.0 ∷ below)
      here_split =
          let open_ = walk_last in
          let step : IsPermutation (front tree who (path_at tree id.0) limit) (path_at tree id.0 ∷ fronts_at tree who limit (kid_ids tree who (path_at tree id.0) limit)) =
          subst (λ l. IsPermutation (front tree who (path_at tree id.0) limit) (path_at tree id.0 ∷ l)) (sym (fronts-kids (path_at tree id.0)))
          (subst (λ p. IsPermutation (front tree who p limit) (p ∷ flat_map (λ q. front tree who q limit) (kids tree who p limit))) open_.path (front-step tree limit who shape open_.dir open_.there open_.on)) in
          IsPermutation-trans _ _ _ step (IsPermutation-cons _ _ _ (IsPermutation-flat_map (λ (i : DirId). front tree who (path_at tree i.0) limit) _ _ (IsPermutation-reverse (kid_ids tree who (path_at tree id.0) limit))))

      pub next_split : IsPermutation (front tree who start limit) ((done ++ path_at tree id.0 ∷ []) ++ fronts_at tree who limit (rest ++ reverse (kid_ids tree who (path_at tree id.0) limit)))
      next_split =
          let p : Components = path_at tree id.0 in
          let r : List Components = fronts_at tree who limit rest in
          let old : fronts_at tree who limit todo ≡ r ++ front tree who p limit =
          ap (flat_map (λ (i : DirId). front tree who (path_at tree i.0) limit)) last ∙ flat_map-append (λ (i : DirId). front tree who (path_at tree i.0) limit) rest (id ∷ []) ∙ ap (λ l. r ++ l) (append-nil (front tree who p limit)) in
          let new : fronts_at tree who limit (rest ++ reverse (kid_ids tree who p limit)) ≡ r ++ below = flat_map-append (λ (i : DirId). front tree who (path_at tree i.0) limit) rest (reverse (kid_ids tree who p limit)) in
          let moved : IsPermutation (r ++ front tree who p limit) (p ∷ (r ++ below)) =
          IsPermutation-trans _ _ _ (IsPermutation-append_right r _ _ here_split) (IsPermutation-middle r p below) in
          let whole : IsPermutation (done ++ (r ++ front tree who p limit)) (done ++ (p ∷ (r ++ below))) = IsPermutation-append_right done _ _ moved in
          let first : IsPermutation (front tree who start limit) (done ++ (r ++ front tree who p limit)) = subst (λ l. IsPermutation (front tree who start limit) (done ++ l)) old walk.split in
          let joined : done ++ (p ∷ (r ++ below)) ≡ (done ++ p ∷ []) ++ fronts_at tree who limit (rest ++ reverse (kid_ids tree who p limit)) =
          sym (append_assoc done (p ∷ []) (r ++ below)) ∙ ap (λ l. (done ++ p ∷ []) ++ l) (sym new) in
          subst (λ l. IsPermutation (front tree who start limit) l) joined (IsPermutation-trans _ _ _ first whole)

      pub IsWalk-more : (more : List DirId) → more ≡ rest ++ reverse (kid_ids tree who (path_at tree id.0) limit) → IsWalk tree who limit start (done ++ path_at tree id.0 ∷ []) more
      IsWalk-more more e = subst (IsWalk tree who limit start (done ++ path_at tree id.0 ∷ [])) (sym e) (record {
        split = next_split;
        each = All-append (IsOpen tree who start) rest _ (All-front (IsOpen tree who start) rest (id ∷ []) (subst (AllByRecursion (IsOpen tree who start)) last walk.each)).0
            (All-reverse (IsOpen tree who start) _ (kids_open start (path_at tree id.0) walk_last.below));
      })

      pub walk_less : (more : List DirId) → more ≡ rest ++ reverse (kid_ids tree who (path_at tree id.0) limit) → length (fronts_at tree who limit more) < length (fronts_at tree who limit todo)
      walk_less more e =
          let next = IsWalk-more more e in
          omega (arith, length_permutation _ _ walk.split, length_permutation _ _ next.split, length-append done (fronts_at tree who limit todo), length-append (done ++ path_at tree id.0 ∷ []) (fronts_at tree who limit more), length-append done (path_at tree id.0 ∷ []))

      pub walk_deep : length start ≤ length (path_at tree id.0)
      walk_deep = let r = is_prefix-rest start (path_at tree id.0) walk_last.below in omega (arith, ap length r.1, length-append start r.0)

      -- the rows of the directory are within what is left of those of the front
      pub walk_left : length (flat_map (λ p. piece tree p limit) done) + length (piece tree (path_at tree id.0) limit) ≤ length (flat_map (λ p. piece tree p limit) (front tree who start limit))
      walk_left =
          let P : Components → List Row = λ p. piece tree p limit in
          let x : Components = path_at tree id.0 in
          let later : List Components = fronts_at tree who limit (rest ++ reverse (kid_ids tree who x limit)) in
          let whole : IsPermutation (flat_map P (front tree who start limit)) (flat_map P ((done ++ x ∷ []) ++ later)) = IsPermutation-flat_map P _ _ next_split in
          let parts : flat_map P ((done ++ x ∷ []) ++ later) ≡ (flat_map P done ++ P x) ++ flat_map P later =
          flat_map-append P (done ++ x ∷ []) later ∙ ap (λ l. l ++ flat_map P later) (pieces-more tree limit done x) in
          omega (
            arith,
            length_permutation _ _ whole,
            ap length parts,
            length-append (flat_map P done ++ P x) (flat_map P later),
            length-append (flat_map P done) (P x),
          )

      -- and so of all rows
      pub walk_room : IsOpenTop tree who start → length (flat_map (λ p. piece tree p limit) done) + length (piece tree (path_at tree id.0) limit) ≤ length (all_rows tree)
      walk_room top =
          omega (
            arith,
            walk_left,
            length_permutation _ _ (listed_at_top limit start top),
            filtered_fewer (λ row. is_listed tree who start (home row)) (all_rows tree),
          )

-- a start that is found, as the code reads it
pub start_place : (tree seen : List Directory) (who : Principal) (start : Components) (id : DirId) → HasTreeShape tree → seen ≡ tree → Found id ≡ resolve seen who start → IsFoundPlace tree who start id
start_place tree seen who start id shape same is = found_place_of_start tree who start id shape (sym (is ∙ ap (λ (ds : List Directory). resolve ds who start) same))

-- what guards a directory, as the code reads it
pub lists_at-guard : (tree seen : List Directory) (who : Principal) → HasTreeShape tree → seen ≡ tree → (k : ℕ) → k < length tree → (rights : Rights)
    → ((d : Directory) → rights ≡ rights_of (get_or seen k d).rec) → (r : Bool) → r ≡ can_list who rights → r ≡ lists_at tree who (path_at tree k)
lists_at-guard tree seen who shape same k within rights guard r e =
    e ∙ lists_at-place tree who shape k within rights (λ d. guard d ∙ ap (λ (ds : List Directory). rights_of (get_or ds k d).rec) same)

-- where no row of a list meets a query, none meets a question that is met only where the query is
pub none_met : (above : ℕ) (asks query : Row → ℕ → Bool) (rows : List Row) → ((row : Row) (depth : ℕ) → asks row depth ≡ true → query row depth ≡ true) → NoneMeets query rows
    → filter (meets asks above) rows ≡ []
none_met above asks query rows implied none =
    filter-none (meets asks above) rows (λ row h. false_from_ne_true _ (λ e.
    false≢true (sym (All-Has (λ (r : Row). (depth : ℕ) → query r depth ≡ false) rows row (recursion_from_All _ rows none) h (depth_below above row)) ∙ implied row (depth_below above row) e)))

-- the rows that meet a question, of the same pieces in another order
pub rows_of_all : (met : Row → Bool) (P : Components → List Row) (done all : List Components) → IsPermutation all done → IsPermutation (filter met (flat_map P done)) (filter met (flat_map P all))
rows_of_all met P done all p = IsPermutation-filter met _ _ (IsPermutation-flat_map P _ _ (IsPermutation-sym _ _ p))
