-- What lies at and below the directory at a place, by the places of its subdirectories.
use Rattle.std.proofs.Common.{◌≡◌, ℕ, zero, suc, ◌+◌, ◌<◌, ◌≤◌, inl, inr, Bool, true, false, cond, List, [], ◌∷◌, ◌++◌, length, get_or, refl, sym, ap, ◌∙◌, subst, arith, length-append, add-zero, zero-add, add_assoc}
use Rattle.std.specs.List.{AllByRecursion, filter, flat_map}
use Rattle.std.specs.List.Sorted.{IsPermutation}
use Rattle.std.proofs.lemmas.Bool.{cases_order}
use Rattle.std.proofs.lemmas.Grind.{flat_map-append}
use Rattle.std.proofs.lemmas.List.{append-nil}
use Rattle.gufi_base.specs.declared.record.Row.{Row}
use Rattle.gufi_base.specs.Paths.{Components, path_cmp, path_eq, is_prefix, is_child_of}
use Rattle.gufi_base.proofs.Permutations.{IsPermutation-flat_map}
use Rattle.gufi_base.proofs.Prefixes.{prefix_stands_before}
use Rattle.gufi_tree.specs.declared.tree.DirId.{DirId}
use Rattle.gufi_tree.specs.Tree.{Directory, own_rows, subdirs, home_rows, subtree_rows, HasTreeShape}
use Rattle.gufi_tree.specs.Places.{dir_id, path_at, ids_from, child_ids}
use Rattle.gufi_tree.proofs.Built.{Has}
use Rattle.gufi_tree.proofs.Below.{below_dirs, below_dirs-step}
use Rattle.gufi_tree.proofs.Descent.{child_name, filter-path_eq}
use Rattle.gufi_tree.proofs.Flat.{distinct, is_prefix-append}
use Rattle.gufi_tree.proofs.Linked.{path_at-get}
use Rattle.gufi_tree.proofs.Rests.{longer_differs}
use Rattle.gufi_tree.proofs.RowHomes.{rows_of_homes}
use Rattle.gufi_tree.proofs.Searched.{in_order}

pub Has-get_or : {X : Type 0} (xs : List X) (i : ℕ) (d : X) → i < length xs → Has xs (get_or xs i d)
Has-get_or [] i d h = absurd (omega arith)
Has-get_or (x ∷ xs) zero d h = inl refl
Has-get_or (x ∷ xs) (suc i) d h = inr (Has-get_or xs i d (omega arith))

get_or-same : {X : Type 0} (xs : List X) (i : ℕ) (d e : X) → i < length xs → get_or xs i d ≡ get_or xs i e
get_or-same [] i d e h = absurd (omega arith)
get_or-same (x ∷ xs) zero d e h = refl
get_or-same (x ∷ xs) (suc i) d e h = get_or-same xs i d e (omega arith)

-- the directory at a place
pub at_place : (tree : List Directory) (k : ℕ) → k < length tree → (d : Directory) × Has tree d × (d.path ≡ path_at tree k) × ((e : Directory) → get_or tree k e ≡ d)
at_place tree k within = by tree within refl where
  by : (ds : List Directory) → k < length tree → ds ≡ tree → (d : Directory) × Has tree d × (d.path ≡ path_at tree k) × ((e : Directory) → get_or tree k e ≡ d)
  by [] h e = absurd (omega (arith, h, ap length e))
  by (d ∷ ds) h e = (get_or tree k d, Has-get_or tree k d h, sym (path_at-get tree k d h), λ x. get_or-same tree k x d h)

-- ---- subdirectories by their places

module _ (test : Directory → Bool) (P : DirId → Type 0) where
  all-ids_from : (from : ℕ) (xs : List Directory) → ((j : ℕ) (x : Directory) → j < length xs → x ≡ get_or xs j x → test x ≡ true → P (dir_id (from + j))) → AllByRecursion P (ids_from test from xs)
  all-ids_from from [] h = tt
  all-ids_from from (x ∷ xs) h = one (test x) refl (all-ids_from (from + 1) xs (λ j y k e t. rw add_assoc (rw (one_more j) (h (suc j) y (omega arith) e t)))) where
    one_more : (j : ℕ) → 1 + j ≡ suc j
    one_more j = omega arith

    one : (b : Bool) → test x ≡ b → AllByRecursion P (ids_from test (from + 1) xs) → AllByRecursion P (cond b (dir_id from ∷ ids_from test (from + 1) xs) (ids_from test (from + 1) xs))
    one true e k = (rw add-zero at (h 0 x (omega arith) refl e), k)
    one false e k = k

module _ {Y : Type 0} (test : Directory → Bool) (g : ℕ → List Y) (f : Directory → List Y) where
  flat_map-ids_from : (from : ℕ) (xs : List Directory) → ((j : ℕ) (x : Directory) → j < length xs → x ≡ get_or xs j x → g (from + j) ≡ f x)
      → flat_map (λ id. g id.0) (ids_from test from xs) ≡ flat_map f (filter test xs)
  flat_map-ids_from from [] h = refl
  flat_map-ids_from from (x ∷ xs) h = one (test x) (rw add-zero at (h 0 x (omega arith) refl)) (flat_map-ids_from (from + 1) xs (λ j y k e. rw add_assoc (rw (one_more j) (h (suc j) y (omega arith) e)))) where
    one_more : (j : ℕ) → 1 + j ≡ suc j
    one_more j = omega arith

    one : (b : Bool) → g from ≡ f x → flat_map (λ id. g id.0) (ids_from test (from + 1) xs) ≡ flat_map f (filter test xs)
        → flat_map (λ id. g id.0) (cond b (dir_id from ∷ ids_from test (from + 1) xs) (ids_from test (from + 1) xs)) ≡ flat_map f (cond b (x ∷ filter test xs) (filter test xs))
    one true e k = rw e (ap (λ l. f x ++ l) k)
    one false e k = k

-- A subdirectory stands behind its directory.
pub record IsLater (tree : List Directory) (k : ℕ) (id : DirId) : Type 0 where
  pub within : id.0 < length tree
  pub later : k < id.0

module _ (tree : List Directory) (shape : HasTreeShape tree) (k : ℕ) (within : k < length tree) where
  pub later_place : (j : ℕ) (x : Directory) → j < length tree → x ≡ get_or tree j x → is_child_of (path_at tree k) x.path ≡ true → k < j
  later_place j x h e child =
      let own = path_at-get tree k x within in
      let name = child_name (path_at tree k) x.path child in
      let path : x.path ≡ (get_or tree k x).path ++ name.0 ∷ [] = name.1 ∙ ap (λ (q : Components). q ++ name.0 ∷ []) own in
      elim (cases_order k j) [
        | inl same ↦ absurd (longer_differs (get_or tree k x).path name.0 [] (ap (λ i. (get_or tree i x).path) same ∙ ap (λ (d : Directory). d.path) (sym e) ∙ path))
        | inr (inl before) ↦ before
        | inr (inr behind) ↦ absurd (prefix_stands_before (get_or tree k x).path x.path (ap (is_prefix (get_or tree k x).path) path ∙ is_prefix-append (get_or tree k x).path (name.0 ∷ []))
            (ap (λ (d : Directory). path_cmp d.path (get_or tree k x).path) e ∙ in_order tree shape.order j k x behind within))
      ]

  pub kids_later : AllByRecursion (IsLater tree k) (child_ids tree (path_at tree k))
  kids_later = all-ids_from (λ dir. is_child_of (path_at tree k) dir.path) (IsLater tree k) 0 tree (λ j x h e t. at_zero j h (later_place j x h e t)) where
    at_zero : (j : ℕ) → j < length tree → k < j → IsLater tree k (dir_id (0 + j))
    at_zero j h l = record { within = omega arith; later = omega arith }

-- ---- rows at and below

abbrev pub rows_under : List Directory → Components → List Row
rows_under tree path = flat_map own_rows (below_dirs tree path)

module _ {X Y Z : Type 0} (f : X → List Y) (g : Y → List Z) where
  pub flat_map-flat_map : (xs : List X) → flat_map g (flat_map f xs) ≡ flat_map (λ x. flat_map g (f x)) xs
  flat_map-flat_map [] = refl
  flat_map-flat_map (x ∷ xs) = flat_map-append g (f x) (flat_map f xs) ∙ ap (λ l. flat_map g (f x) ++ l) (flat_map-flat_map xs)

length-kept : {X Y : Type 0} (f : X → List Y) (p : X → Bool) (xs : List X) → length (flat_map f (filter p xs)) ≤ length (flat_map f xs)
length-kept f p [] = omega arith
length-kept f p (x ∷ xs) = one (p x) (length-kept f p xs) where
  one : (b : Bool) → length (flat_map f (filter p xs)) ≤ length (flat_map f xs) → length (flat_map f (cond b (x ∷ filter p xs) (filter p xs))) ≤ length (f x ++ flat_map f xs)
  one true h = let a = length-append (f x) (flat_map f (filter p xs)) in let b = length-append (f x) (flat_map f xs) in omega arith
  one false h = let b = length-append (f x) (flat_map f xs) in omega arith

-- there are no more of them than of all rows
pub rows_under-few : (tree : List Directory) (path : Components) → length (rows_under tree path) ≤ length (flat_map own_rows tree)
rows_under-few tree path = length-kept own_rows (λ dir. is_prefix path dir.path) tree

module _ (tree : List Directory) (shape : HasTreeShape tree) where
  -- the rows at and below a place: the directory's own, and those at and below its subdirectories
  pub rows_under-step : (k : ℕ) (d : Directory) → k < length tree
      → IsPermutation (rows_under tree (path_at tree k)) (own_rows (get_or tree k d) ++ flat_map (λ id. rows_under tree (path_at tree id.0)) (child_ids tree (path_at tree k)))
  rows_under-step k d within =
      let own = get_or tree k d in
      let path : own.path ≡ path_at tree k = sym (path_at-get tree k d within) in
      let step = IsPermutation-flat_map own_rows _ _ (below_dirs-step tree shape own (Has-get_or tree k d within)) in
      let kids : flat_map own_rows (flat_map (λ c. below_dirs tree c.path) (subdirs tree own.path)) ≡ flat_map (λ id. rows_under tree (path_at tree id.0)) (child_ids tree (path_at tree k)) =
      flat_map-flat_map (λ c. below_dirs tree c.path) own_rows (subdirs tree own.path)
      ∙ ap (λ q. flat_map (λ c. rows_under tree c.path) (subdirs tree q)) path
      ∙ sym (flat_map-ids_from (λ c. is_child_of (path_at tree k) c.path) (λ i. rows_under tree (path_at tree i)) (λ c. rows_under tree c.path) 0 tree (λ j x h e. at_zero j x h e)) in
      subst (λ q. IsPermutation (rows_under tree q) (own_rows own ++ flat_map (λ id. rows_under tree (path_at tree id.0)) (child_ids tree (path_at tree k)))) path
      (subst (λ l. IsPermutation (rows_under tree own.path) (own_rows own ++ l)) kids step) where
        at_zero : (j : ℕ) (x : Directory) → j < length tree → x ≡ get_or tree j x → rows_under tree (path_at tree (0 + j)) ≡ rows_under tree x.path
        at_zero j x h e = ap (λ i. rows_under tree (path_at tree i)) (zero-add j) ∙ ap (rows_under tree) (path_at-get tree j x h ∙ ap (λ (d : Directory). d.path) (sym e))

  pub subtree_rows-under : (path : Components) → IsPermutation (subtree_rows tree path) (rows_under tree path)
  subtree_rows-under path = rows_of_homes (is_prefix path) tree shape

  pub home_rows-own : (k : ℕ) (d : Directory) → k < length tree → IsPermutation (home_rows tree (path_at tree k)) (own_rows (get_or tree k d))
  home_rows-own k d within =
      let own = get_or tree k d in
      let path : own.path ≡ path_at tree k = sym (path_at-get tree k d within) in
      let one : flat_map own_rows (filter (λ e. path_eq own.path e.path) tree) ≡ own_rows own = ap (flat_map own_rows) (filter-path_eq tree own (distinct tree shape.order) (Has-get_or tree k d within)) ∙ append-nil (own_rows own) in
      subst (λ q. IsPermutation (home_rows tree q) (own_rows own)) path
      (subst (λ l. IsPermutation (home_rows tree own.path) l) one (rows_of_homes (path_eq own.path) tree shape))
