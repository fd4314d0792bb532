-- What is at and below a directory, from what is at and below its subdirectories.
use Rattle.std.proofs.Common.{◌≡◌, ℕ, zero, suc, ◌+◌, ◌<◌, ◌≤◌, Bool, true, false, not, ◌&&◌, ◌||◌, cond, List, [], ◌∷◌, ◌++◌, length, take, get_or, inl, inr, refl, sym, ap, ◌∙◌, subst, arith}
use Rattle.std.specs.Prelude.{nat_lt, nat_le}
use Rattle.std.specs.List.{AllByRecursion, list_all, filter, flat_map}
use Rattle.std.proofs.lemmas.Bool.{false≢true, and_from, lt-ltb, le-ltb}
use Rattle.std.proofs.lemmas.List.{length-append, length-map, get_or-map, take_more, take_all}
use Rattle.std.proofs.lemmas.List.Folds.{list_all-append, list_all_more, length-flat_map-take}
use Rattle.std.proofs.lemmas.List.Sorted.{length_permutation}
use Rattle.gufi_base.specs.declared.record.Row.{Row}
use Rattle.gufi_base.specs.Basics.{is_empty}
use Rattle.gufi_base.specs.Paths.{Components, path_eq, parent_path, is_prefix, is_proper_prefix, is_child_of}
use Rattle.gufi_access.specs.Tried.{covers}
use Rattle.gufi_access.specs.declared.class.Guard.{Guard}
use Rattle.gufi_access.specs.Access.{Rights, rights}
use Rattle.gufi_access.proofs.Suffice.{covers_exactly}
use Rattle.gufi_access.proofs.AccessLemmas.{Covers-refl}
use Rattle.gufi_tree.specs.declared.tree.DirId.{DirId}
use Rattle.gufi_tree.specs.Tree.{Directory, rights_of, entry_row, own_rows, subdirs, HasTreeShape}
use Rattle.gufi_tree.specs.Places.{path_at, dir_id, ids_from, child_ids}
use Rattle.gufi_tree.proofs.Built.{Has, path_eq-Decides, parent_path-child}
use Rattle.gufi_tree.proofs.Below.{below_dirs, below_dirs-step}
use Rattle.gufi_tree.proofs.Descent.{child_name, filter-path_eq}
use Rattle.gufi_tree.proofs.Filters.{Has-filter}
use Rattle.gufi_tree.proofs.Flat.{distinct, is_prefix-append, is_prefix-rest}
use Rattle.gufi_tree.proofs.Kids.{Has-get_or, IsLater, kids_later, rows_under, rows_under-few, rows_under-step, subtree_rows-under}
use Rattle.gufi_tree.proofs.Linked.{path_at-get}
use Rattle.gufi_tree.proofs.Placed.{list_all-IsPermutation}
use Rattle.gufi_roll.specs.declared.below.Below.{Below}
use Rattle.gufi_roll.specs.CanRoll.{rows_below, is_covered, can_roll, roll_flags}
use Rattle.gufi_roll.specs.Below.{are_covered, IsBelow, AreBelow}

-- a directory covers itself
pub covers-same : (r s : Rights) → r ≡ s → covers r s ≡ true
covers-same r s e = ap (covers r) (sym e) ∙ (covers_exactly r r).1 (Covers-refl r)

pub all_at_place : {X : Type 0} (P : X → Type 0) (xs : List X) (i : ℕ) (d : X) → AllByRecursion P xs → i < length xs → P (get_or xs i d)
all_at_place P [] i d h lt = absurd (omega arith)
all_at_place P (x ∷ xs) zero d h lt = h.0
all_at_place P (x ∷ xs) (suc i) d h lt = all_at_place P xs i d h.1 (omega arith)

module _ {X : Type 0} where
  -- a test of all that holds of those that another test leaves out
  pub list_all-kept : (p q : X → Bool) (xs : List X) → ((x : X) → q x ≡ false → p x ≡ true) → list_all p xs ≡ list_all p (filter q xs)
  list_all-kept p q [] h = refl
  list_all-kept p q (x ∷ xs) h = by (q x) refl (list_all-kept p q xs h) where
    by : (b : Bool) → q x ≡ b → list_all p xs ≡ list_all p (filter q xs) → (p x && list_all p xs) ≡ list_all p (cond b (x ∷ filter q xs) (filter q xs))
    by true e ih = ap (λ b. p x && b) ih
    by false e ih = ap (λ b. b && list_all p xs) (h x e) ∙ ih

  pub list_all-same : (p q : X → Bool) (xs : List X) → ((x : X) → Has xs x → p x ≡ q x) → list_all p xs ≡ list_all q xs
  list_all-same p q [] h = refl
  list_all-same p q (x ∷ xs) h = ap (λ b. b && list_all p xs) (h x (inl refl)) ∙ ap (λ b. q x && b) (list_all-same p q xs (λ y k. h y (inr k)))

module _ {X Y : Type 0} where
  list_all-flat_map : (p : Y → Bool) (f : X → List Y) (xs : List X) → list_all p (flat_map f xs) ≡ list_all (λ x. list_all p (f x)) xs
  list_all-flat_map p f [] = refl
  list_all-flat_map p f (x ∷ xs) = list_all-append p (f x) (flat_map f xs) ∙ ap (λ b. list_all p (f x) && b) (list_all-flat_map p f xs)

pub and_true : (b : Bool) → (b && true) ≡ b
and_true true = refl
and_true false = refl

pub get_or_other : {X : Type 0} (xs : List X) (i : ℕ) (a b : X) → i < length xs → get_or xs i a ≡ get_or xs i b
get_or_other [] i a b h = absurd (omega arith)
get_or_other (y ∷ ys) zero a b h = refl
get_or_other (y ∷ ys) (suc i) a b h = get_or_other ys i a b (omega arith)

-- what is tested of a subdirectory: all below it, and itself against its parent
abbrev pub kid_covered : List Directory → ℕ → Directory → DirId → Bool
kid_covered tree k d id = are_covered tree (path_at tree id.0) && covers (rights_of (get_or tree k d).rec) (rights_of (get_or tree id.0 d).rec)

-- a test of the places of the directories that pass another
list_all-ids_from : (test : Directory → Bool) (g : ℕ → Bool) (f : Directory → Bool) (from : ℕ) (xs : List Directory)
    → ((j : ℕ) (x : Directory) → j < length xs → x ≡ get_or xs j x → g (from + j) ≡ f x) → list_all (λ (id : DirId). g id.0) (ids_from test from xs) ≡ list_all f (filter test xs)
list_all-ids_from test g f from [] h = refl
list_all-ids_from test g f from (x ∷ xs) h =
    let first : g from ≡ f x = ap g (let z : from ≡ from + 0 = omega arith in z) ∙ h 0 x (omega arith) refl in
    by (test x) first (list_all-ids_from test g f (from + 1) xs (λ j y lt e. ap g (let z : from + 1 + j ≡ from + suc j = omega arith in z) ∙ h (suc j) y (omega arith) e)) where
      by : (b : Bool) → g from ≡ f x → list_all (λ (id : DirId). g id.0) (ids_from test (from + 1) xs) ≡ list_all f (filter test xs)
          → list_all (λ (id : DirId). g id.0) (cond b (dir_id from ∷ ids_from test (from + 1) xs) (ids_from test (from + 1) xs)) ≡ list_all f (cond b (x ∷ filter test xs) (filter test xs))
      by true e k = ap (λ b. b && list_all (λ (id : DirId). g id.0) (ids_from test (from + 1) xs)) e ∙ ap (λ b. f x && b) k
      by false e k = k

-- what is tested of a directory's subdirectories by their places, and the same by the directories
pub kids_tested : (tree : List Directory) (g : Components → Bool) (k : ℕ) (d : Directory)
    → list_all (λ (id : DirId). g (path_at tree id.0) && covers (rights_of (get_or tree k d).rec) (rights_of (get_or tree id.0 d).rec)) (child_ids tree (path_at tree k))
    ≡ list_all (λ c. g c.path && covers (rights_of (get_or tree k d).rec) (rights_of c.rec)) (subdirs tree (path_at tree k))
kids_tested tree g k d =
    list_all-ids_from (λ c. is_child_of (path_at tree k) c.path) (λ j. g (path_at tree j) && covers (rights_of (get_or tree k d).rec) (rights_of (get_or tree j d).rec))
    (λ c. g c.path && covers (rights_of (get_or tree k d).rec) (rights_of c.rec)) 0 tree (λ j x l e. at_zero j x l e) where
      at_zero : (j : ℕ) (x : Directory) → j < length tree → x ≡ get_or tree j x
          → (g (path_at tree (0 + j)) && covers (rights_of (get_or tree k d).rec) (rights_of (get_or tree (0 + j) d).rec)) ≡ (g x.path && covers (rights_of (get_or tree k d).rec) (rights_of x.rec))
      at_zero j x l e =
          let z : 0 + j ≡ j = omega arith in
          let same : get_or tree j d ≡ x = get_or_other tree j d x l ∙ sym e in
          ap (λ i. g (path_at tree i) && covers (rights_of (get_or tree k d).rec) (rights_of (get_or tree i d).rec)) z
          ∙ ap (λ (p : Components). g p && covers (rights_of (get_or tree k d).rec) (rights_of (get_or tree j d).rec)) (path_at-get tree j d l)
          ∙ ap (λ (v : Directory). g v.path && covers (rights_of (get_or tree k d).rec) (rights_of v.rec)) same

-- what is below a child is below its parent
proper_below : (parent child path : Components) → is_child_of parent child ≡ true → is_prefix child path ≡ true → is_proper_prefix parent path ≡ true
proper_below parent child path c p =
    let name = child_name parent child c in
    let rest = is_prefix-rest child path p in
    let whole : path ≡ (parent ++ name.0 ∷ []) ++ rest.0 = rest.1 ∙ ap (λ (q : Components). q ++ rest.0) name.1 in
    let again : (parent ++ name.0 ∷ []) ++ rest.0 ≡ parent ++ name.0 ∷ rest.0 = append_push parent name.0 rest.0 in
    let front : is_prefix parent path ≡ true = ap (is_prefix parent) (whole ∙ again) ∙ is_prefix-append parent (name.0 ∷ rest.0) in
    let longer : length parent < length path = omega (arith, ap length (whole ∙ again), length-append parent (name.0 ∷ rest.0)) in
    and_from (is_prefix parent path) (nat_lt (length parent) (length path)) front (lt-ltb (length parent) (length path) longer) where
      append_push : (xs : Components) (n : List ℕ) (ys : Components) → (xs ++ n ∷ []) ++ ys ≡ xs ++ n ∷ ys
      append_push [] n ys = refl
      append_push (x ∷ xs) n ys = ap (λ (zs : Components). x ∷ zs) (append_push xs n ys)

not_below_itself : (p : Components) → is_proper_prefix p p ≡ false
not_below_itself p = by (is_prefix p p) (nat_lt (length p) (length p)) (le-ltb (length p) (length p) (omega arith)) where
  by : (a b : Bool) → b ≡ false → (a && b) ≡ false
  by true b e = e
  by false b e = refl

module _ (tree : List Directory) (shape : HasTreeShape tree) where
  pub rows_below-under : (path : Components) → rows_below tree path ≡ length (rows_under tree path)
  rows_below-under path = sym (length_permutation _ _ (subtree_rows-under tree shape path))

  pub rows_below-few : (path : Components) → rows_below tree path ≤ length (flat_map own_rows tree)
  rows_below-few path = omega (arith, rows_below-under path, rows_under-few tree path)

  -- the rows at and below a place: one for the directory, its entries', and those of its subdirectories
  pub rows_below-step : (k : ℕ) (d : Directory) → k < length tree
      → rows_below tree (path_at tree k) ≡ length (get_or tree k d).entries + 1 + length (flat_map (λ id. rows_under tree (path_at tree id.0)) (child_ids tree (path_at tree k)))
  rows_below-step k d lt =
      let own = get_or tree k d in
      let step = length_permutation _ _ (rows_under-step tree shape k d lt) in
      let a = length-append (own_rows own) (flat_map (λ id. rows_under tree (path_at tree id.0)) (child_ids tree (path_at tree k))) in
      let b : length (own_rows (get_or tree k d)) ≡ length (get_or tree k d).entries + 1 = length_own own in
      omega (arith, rows_below-under (path_at tree k), step, a, b) where
        length_own : (e : Directory) → length (own_rows e) ≡ length e.entries + 1
        length_own e = let m = length-map e.entries (entry_row e.path) in omega (arith, m)

  abbrev cov : Directory → Bool
  cov = is_covered tree

  abbrev passes : Components → Directory → Bool
  passes path dir = not (is_proper_prefix path dir.path) || is_covered tree dir

  module _ (d : Directory) (there : Has tree d) where
    abbrev kids : List Directory
    kids = subdirs tree d.path

    below_kids : list_all (passes d.path) (flat_map (λ k. below_dirs tree k.path) (subdirs tree d.path)) ≡ list_all cov (flat_map (λ k. below_dirs tree k.path) (subdirs tree d.path))
    below_kids =
        list_all-flat_map (passes d.path) (λ k. below_dirs tree k.path) (subdirs tree d.path)
        ∙ list_all-same (λ k. list_all (passes d.path) (below_dirs tree k.path)) (λ k. list_all cov (below_dirs tree k.path)) (subdirs tree d.path) (λ k h.
        let kid = Has-filter (λ dir. is_child_of d.path dir.path) tree k h in
        list_all-same (passes d.path) cov (below_dirs tree k.path) (λ e m.
        let under = Has-filter (λ dir. is_prefix k.path dir.path) tree e m in
        ap (λ b. not b || is_covered tree e) (proper_below d.path k.path e.path kid.1 under.1)))
        ∙ sym (list_all-flat_map cov (λ k. below_dirs tree k.path) (subdirs tree d.path))

    -- all below a directory is covered where all at and below its subdirectories is
    covered_kids : are_covered tree d.path ≡ list_all cov (flat_map (λ k. below_dirs tree k.path) (subdirs tree d.path))
    covered_kids =
        list_all-kept (passes d.path) (λ dir. is_prefix d.path dir.path) tree (λ x e. ap (λ b. not (b && nat_lt (length d.path) (length x.path)) || is_covered tree x) e)
        ∙ list_all-IsPermutation (passes d.path) (below_dirs tree d.path) (d ∷ flat_map (λ k. below_dirs tree k.path) (subdirs tree d.path)) (below_dirs-step tree shape d there)
        ∙ ap (λ b. (not b || is_covered tree d) && list_all (passes d.path) (flat_map (λ k. below_dirs tree k.path) (subdirs tree d.path))) (not_below_itself d.path)
        ∙ below_kids

    covered_with_own : list_all cov (below_dirs tree d.path) ≡ (is_covered tree d && are_covered tree d.path)
    covered_with_own =
        list_all-IsPermutation cov (below_dirs tree d.path) (d ∷ flat_map (λ k. below_dirs tree k.path) (subdirs tree d.path)) (below_dirs-step tree shape d there)
        ∙ ap (λ b. is_covered tree d && b) (sym covered_kids)

    -- a subdirectory is covered where its one parent covers it
    covered_by_parent : (c : Directory) → is_child_of d.path c.path ≡ true → is_covered tree c ≡ covers (rights_of d.rec) (rights_of c.rec)
    covered_by_parent c child =
        let name = child_name d.path c.path child in
        let parent : parent_path c.path ≡ d.path = ap parent_path name.1 ∙ parent_path-child d.path name.0 in
        list_all-kept (λ v. not (is_child_of v.path c.path) || covers (rights_of v.rec) (rights_of c.rec)) (λ v. path_eq d.path v.path) tree (λ v e. other v (turned v.path parent e))
        ∙ ap (list_all (λ v. not (is_child_of v.path c.path) || covers (rights_of v.rec) (rights_of c.rec))) (filter-path_eq tree d (distinct tree shape.order) there)
        ∙ ap (λ b. (not b || covers (rights_of d.rec) (rights_of c.rec)) && true) child ∙ and_true (covers (rights_of d.rec) (rights_of c.rec)) where
          turned : (p : Components) → parent_path c.path ≡ d.path → path_eq d.path p ≡ false → path_eq p (parent_path c.path) ≡ false
          turned p parent e = by (path_eq p (parent_path c.path)) refl where
            by : (b : Bool) → path_eq p (parent_path c.path) ≡ b → b ≡ false
            by false k = refl
            by true k = absurd (false≢true (sym e ∙ (path_eq-Decides d.path p).1 (sym ((path_eq-Decides p (parent_path c.path)).0 k ∙ parent))))

          other : (v : Directory) → path_eq v.path (parent_path c.path) ≡ false → (not (is_child_of v.path c.path) || covers (rights_of v.rec) (rights_of c.rec)) ≡ true
          other v e = ap (λ b. not (not (is_empty c.path) && b) || covers (rights_of v.rec) (rights_of c.rec)) e ∙ by (is_empty c.path) where
            by : (b : Bool) → (not (not b && false) || covers (rights_of v.rec) (rights_of c.rec)) ≡ true
            by true = refl
            by false = refl

  pub are_covered-step : (k : ℕ) (d : Directory) → k < length tree → are_covered tree (path_at tree k) ≡ list_all (kid_covered tree k d) (child_ids tree (path_at tree k))
  are_covered-step k d lt =
      let own = get_or tree k d in
      let there = Has-get_or tree k d lt in
      let path : path_at tree k ≡ own.path = path_at-get tree k d lt in
      let test : Directory → Bool = λ c. are_covered tree c.path && covers (rights_of (get_or tree k d).rec) (rights_of c.rec) in
      ap (are_covered tree) path ∙ covered_kids own there ∙ list_all-flat_map cov (λ c. below_dirs tree c.path) (subdirs tree own.path)
      ∙ list_all-same (λ c. list_all cov (below_dirs tree c.path)) test (subdirs tree own.path) (λ c h.
      let kid = Has-filter (λ dir. is_child_of own.path dir.path) tree c h in
      covered_with_own c kid.0 ∙ ap (λ b. b && are_covered tree c.path) (covered_by_parent own there c kid.1) ∙ and_flip (covers (rights_of own.rec) (rights_of c.rec)) (are_covered tree c.path))
      ∙ ap (λ (p : Components). list_all test (subdirs tree p)) (sym path)
      ∙ sym (kids_tested tree (are_covered tree) k d) where
        and_flip : (a b : Bool) → (a && b) ≡ (b && a)
        and_flip true true = refl
        and_flip true false = refl
        and_flip false true = refl
        and_flip false false = refl

-- a subdirectory more
module _ (tree : List Directory) (shape : HasTreeShape tree) (k : ℕ) (lt : k < length tree) (ids : List DirId) (are : ids ≡ child_ids tree (path_at tree k)) (found : List Below) (behind : AreBelow tree (k + 1) found)
    (i : ℕ) (id : DirId) (in' : i < length ids) (is : id ≡ get_or ids i id) where
  abbrev under : DirId → List Row
  under v = rows_under tree (path_at tree v.0)

  later : IsLater tree k id
  later =
      let P : List DirId → Type 0 = λ vs. AllByRecursion (IsLater tree k) vs in
      let Q : DirId → Type 0 = λ v. IsLater tree k v in
      subst Q (sym is) (all_at_place (IsLater tree k) ids i id (subst P (sym are) (kids_later tree shape k lt)) in')

  pub kid_within : id.0 < length tree
  kid_within = later.within

  pub kid_found : id.0 < length found
  kid_found = omega (arith, behind.len, later.within)

  pub kid_below : (d : Below) → IsBelow tree id.0 (get_or found id.0 d)
  kid_below d = behind.each id.0 d (omega (arith, later.later)) later.within

  kid_length : (d : Below) → (get_or found id.0 d).rows ≡ length (rows_under tree (path_at tree (get_or ids i id).0))
  kid_length d = (kid_below d).rows ∙ rows_below-under tree shape (path_at tree id.0) ∙ ap (λ (v : DirId). length (rows_under tree (path_at tree v.0))) is

  pub kid_rows : (d : Below) (own rows : ℕ) → rows ≡ own + 1 + length (flat_map under (take i ids)) → rows + (get_or found id.0 d).rows ≡ own + 1 + length (flat_map under (take (i + 1) ids))
  kid_rows d own rows e =
      let all = ap (λ (vs : List DirId). length (flat_map under vs)) (take_more ids i id in') in
      let parts : length (flat_map under (take i ids ++ get_or ids i id ∷ [])) ≡ length (flat_map under (take i ids)) + length (under (get_or ids i id)) = split (take i ids) (get_or ids i id) in
      omega (arith, e, all, parts, kid_length d) where
        split : (vs : List DirId) (v : DirId) → length (flat_map under (vs ++ v ∷ [])) ≡ length (flat_map under vs) + length (under v)
        split [] v = omega (arith, length-append (under v) (flat_map under []))
        split (w ∷ vs) v = omega (arith, split vs v, length-append (under w) (flat_map under (vs ++ v ∷ [])), length-append (under w) (flat_map under vs))

  -- the sum so far is that of some of the rows
  pub kid_few : (e : Directory) (d : Below) (rows n : ℕ) → rows ≡ length (get_or tree k e).entries + 1 + length (flat_map under (take i ids)) → length (flat_map own_rows tree) < n → rows + (get_or found id.0 d).rows < n
  kid_few e d rows n h few =
      let part = length-flat_map-take under ids i id in' in
      let whole = rows_below-step tree shape k e lt in
      let all = ap (λ (vs : List DirId). length (flat_map under vs)) are in
      omega (arith, h, few, part, whole, all, kid_length d, rows_below-few tree shape (path_at tree k))

  pub kid_cover : (d : Directory) (b : Below) (covered : Bool) (parent : Rights) → parent ≡ rights_of (get_or tree k d).rec → covered ≡ list_all (kid_covered tree k d) (take i ids)
      → (covered && ((get_or found id.0 b).covered && covers parent (rights_of (get_or tree id.0 d).rec))) ≡ list_all (kid_covered tree k d) (take (i + 1) ids)
  kid_cover d b covered parent same e =
      let answer : Bool = (get_or found id.0 b).covered && covers (rights_of (get_or tree k d).rec) (rights_of (get_or tree id.0 d).rec) in
      let here : answer ≡ kid_covered tree k d (get_or ids i id) =
      ap (λ c. c && covers (rights_of (get_or tree k d).rec) (rights_of (get_or tree id.0 d).rec)) (kid_below b).covered ∙ ap (kid_covered tree k d) is in
      ap (λ r. covered && ((get_or found id.0 b).covered && covers r (rights_of (get_or tree id.0 d).rec))) same
      ∙ ap (λ c. c && answer) e ∙ ap (λ c. list_all (kid_covered tree k d) (take i ids) && c) here ∙ sym (list_all_more (kid_covered tree k d) ids i id in')

-- what is found of a directory
pub below_is : (tree : List Directory) (shape : HasTreeShape tree) (k : ℕ) (d : Directory) (ids : List DirId) (i rows : ℕ) (covered : Bool) → k < length tree → ids ≡ child_ids tree (path_at tree k) → length ids ≤ i
    → rows ≡ length (get_or tree k d).entries + 1 + length (flat_map (λ (v : DirId). rows_under tree (path_at tree v.0)) (take i ids)) → covered ≡ list_all (kid_covered tree k d) (take i ids)
    → IsBelow tree k (record { rows = rows; covered = covered })
below_is tree shape k d ids i rows covered lt are end e f =
    let all : take i ids ≡ child_ids tree (path_at tree k) = take_all i ids end ∙ are in
    record {
      rows = e ∙ ap (λ (vs : List DirId). length (get_or tree k d).entries + 1 + length (flat_map (λ (v : DirId). rows_under tree (path_at tree v.0)) vs)) all ∙ sym (rows_below-step tree shape k d lt);
      covered = f ∙ ap (λ (vs : List DirId). list_all (kid_covered tree k d) vs) all ∙ sym (are_covered-step tree shape k d lt);
    }

-- the first flags
pub flags_more : (tree : List Directory) (limit : ℕ) (flags : List Bool) (i : ℕ) (b : Below) → flags ≡ take i (roll_flags tree limit) → i < length tree → IsBelow tree i b
    → flags ++ (b.covered && nat_le b.rows limit) ∷ [] ≡ take (i + 1) (roll_flags tree limit)
flags_more tree limit flags i b e lt h =
    let roll : Directory → Bool = λ dir. can_roll tree limit dir.path in
    let in' : i < length (roll_flags tree limit) = omega (arith, length-map tree (λ dir. can_roll tree limit dir.path), lt) in
    let flag = (b.covered && nat_le b.rows limit) in
    let here : (b.covered && nat_le b.rows limit) ≡ can_roll tree limit (path_at tree i) = ap (λ c. c && nat_le b.rows limit) h.covered ∙ ap (λ n. are_covered tree (path_at tree i) && nat_le n limit) h.rows in
    by tree refl lt in' here where
      by : (ds : List Directory) → ds ≡ tree → i < length tree → i < length (roll_flags tree limit) → (b.covered && nat_le b.rows limit) ≡ can_roll tree limit (path_at tree i)
          → flags ++ (b.covered && nat_le b.rows limit) ∷ [] ≡ take (i + 1) (roll_flags tree limit)
      by [] same l in' here = absurd (omega (arith, ap length same, l))
      by (d ∷ ds) same l in' here =
          let at : get_or (roll_flags tree limit) i false ≡ can_roll tree limit (path_at tree i) =
          get_or-map (λ (dir : Directory). can_roll tree limit dir.path) tree i d false l ∙ ap (can_roll tree limit) (sym (path_at-get tree i d l)) in
          ap (λ (fs : List Bool). fs ++ (b.covered && nat_le b.rows limit) ∷ []) e ∙ ap (λ c. take i (roll_flags tree limit) ++ c ∷ []) (here ∙ sym at) ∙ sym (take_more (roll_flags tree limit) i false in')

-- guards whose parts are equal
pub same_rights : (a b : Guard) → a.uid ≡ b.uid → a.gid ≡ b.gid → a.mode ≡ b.mode → a.acl.now ≡ b.acl.now → rights a ≡ rights b
same_rights a b uid gid mode acl = λ i. record { uid = uid i; gid = gid i; mode = mode i; acl = acl i }
