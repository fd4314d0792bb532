-- Rows by their homes: those of some directories are the directories' own rows, and all rows ascend.
use Rattle.std.proofs.Common.{◌≡◌, ◌≢◌, ℕ, ◌+◌, ◌≤◌, ◌⊎◌, inl, inr, Bool, true, false, cond, not, List, [], ◌∷◌, ◌++◌, map, refl, sym, ap, ◌∙◌, subst, arith}
use Rattle.std.specs.List.{AllByRecursion, filter, flat_map, list_all}
use Rattle.std.specs.List.Sorted.{IsPermutation}
use Rattle.std.specs.declared.cmp.Ordering.{Ordering}
use Rattle.std.specs.declared.cmp.Ordering.TheVariants.{Less, Equal, Greater}
use Rattle.std.specs.Ordering.{is_eq, nat_cmp}
use Rattle.std.specs.Cmp.Lexicographic.{slice_cmp}
use Rattle.std.proofs.lemmas.Cmp.{nat_list_cmp_total, tied_itself}
use Rattle.std.proofs.lemmas.Bool.{true≢false, and_parts, not-true}
use Rattle.std.proofs.lemmas.List.Elements.{filter-append}
use Rattle.std.proofs.lemmas.List.Sorted.{IsPermutation-sym}
use Rattle.gufi_base.specs.declared.record.Row.{Row}
use Rattle.gufi_base.specs.Kinds.{is_dir}
use Rattle.gufi_base.specs.Basics.{ascends}
use Rattle.gufi_base.specs.Paths.{Components, parent_path, base_name}
use Rattle.gufi_base.specs.Rows.{row_cmp, home}
use Rattle.gufi_base.proofs.Orders.{path_cmp-Equal}
use Rattle.gufi_base.proofs.Permutations.{IsPermutation-filter, IsPermutation-respected}
use Rattle.gufi_base.proofs.Prefixes.{rows_total}
use Rattle.gufi_base.proofs.Sorting.{IsPermutation-sort_by}
use Rattle.gufi_base.proofs.SortedOnce.{times, Once, ascends-sort_by, below_all, ascends-tail}
use Rattle.gufi_tree.specs.declared.tree.Entry.{Entry}
use Rattle.gufi_tree.specs.Tree.{Directory, dir_row, entry_row, own_rows, entry_cmp, all_rows, has_dir, is_kinded, HasTreeShape}
use Rattle.gufi_tree.proofs.Built.{Has, All-Has, All-from_Has, entry_cmp-total, parent_path-child, base_name-child}
use Rattle.gufi_tree.proofs.Filters.{filter-agree}
use Rattle.gufi_tree.proofs.Rests.{longer_differs}
use Rattle.gufi_tree.proofs.Descent.{AreDistinct}
use Rattle.gufi_tree.proofs.Flat.{distinct, all_at, found-has_dir}

-- ---- the home of a directory's rows

home-entry : (p : Components) (e : Entry) → not (is_dir e.rec.meta.kind) ≡ true → home (entry_row p e) ≡ p
home-entry p e h = rw (not-true (is_dir e.rec.meta.kind) h) (parent_path-child p e.name)

home-own : (d : Directory) → is_kinded d ≡ true → home (dir_row d) ≡ d.path
home-own d h = let kind : is_dir d.rec.meta.kind ≡ true = (and_parts _ _ h).0 in rw kind refl

home-own_rows : (d : Directory) → is_kinded d ≡ true → (row : Row) → Has (own_rows d) row → home row ≡ d.path
home-own_rows d h row (inl e) = ap home (sym e) ∙ home-own d h
home-own_rows d h row (inr k) = entries d.entries (and_parts _ _ h).1 k where
  entries : (es : List Entry) → list_all (λ (e : Entry). not (is_dir e.rec.meta.kind)) es ≡ true → Has (map (entry_row d.path) es) row → home row ≡ d.path
  entries [] h k = absurd k
  entries (e ∷ es) h (inl q) = ap home (sym q) ∙ home-entry d.path e (and_parts _ _ h).0
  entries (e ∷ es) h (inr k) = entries es (and_parts _ _ h).1 k

pub Has-append : {Y : Type 0} (xs ys : List Y) (y : Y) → Has (xs ++ ys) y → Has xs y ⊎ Has ys y
Has-append [] ys y h = inr h
Has-append (x ∷ xs) ys y (inl e) = inl (inl e)
Has-append (x ∷ xs) ys y (inr h) = elim (Has-append xs ys y h) [ inl k ↦ inl (inr k) | inr k ↦ inr k ]

module _ {X Y : Type 0} where
  pub Has-flat_map : (f : X → List Y) (xs : List X) (y : Y) → Has (flat_map f xs) y → (x : X) × Has xs x × Has (f x) y
  Has-flat_map f [] y h = absurd h
  Has-flat_map f (x ∷ xs) y h = elim (Has-append (f x) (flat_map f xs) y h) [
    | inl k ↦ (x, inl refl, k)
    | inr k ↦ let w = Has-flat_map f xs y k in (w.0, inr w.1, w.2)
  ]

-- what is in a list is in each order of it
pub Has-IsPermutation : {X : Type 0} (x : X) (xs ys : List X) → IsPermutation xs ys → Has xs x → Has ys x
Has-IsPermutation {X} x xs ys h =
    IsPermutation-respected (λ (us vs : List X). Has us x → Has vs x) (λ us k. k) (λ us vs ws f g k. g (f k)) (λ us. us)
    (λ y us vs f. more y us vs f) (λ y z us. turned y z us) xs ys h where
      more : (y : X) (us vs : List X) → (Has us x → Has vs x) → Has (y ∷ us) x → Has (y ∷ vs) x
      more y us vs f (inl e) = inl e
      more y us vs f (inr k) = inr (f k)

      turned : (y z : X) (us : List X) → Has (y ∷ z ∷ us) x → Has (z ∷ y ∷ us) x
      turned y z us (inl e) = inr (inl e)
      turned y z us (inr (inl e)) = inl e
      turned y z us (inr (inr k)) = inr (inr k)

-- each row has its home at a directory
pub home_there : (tree : List Directory) → HasTreeShape tree → (row : Row) → Has (all_rows tree) row → (d : Directory) × Has tree d × (home row ≡ d.path)
home_there tree shape row h =
    let k = Has-IsPermutation row (all_rows tree) (flat_map own_rows tree) (IsPermutation-sym _ _ (IsPermutation-sort_by row_cmp (flat_map own_rows tree))) h in
    let w = Has-flat_map own_rows tree row k in
    (w.0, w.1, home-own_rows w.0 (all_at is_kinded tree w.0 shape.kinds w.1) row w.2)

-- ---- filters by the home

module _ (f : Components → Bool) where
  abbrev pub at_home : Row → Bool
  at_home row = f (home row)

  kept_whole : (b : Bool) (rows : List Row) → filter (λ row. b) rows ≡ cond b rows []
  kept_whole true [] = refl
  kept_whole true (r ∷ rows) = ap (λ l. r ∷ l) (kept_whole true rows)
  kept_whole false [] = refl
  kept_whole false (r ∷ rows) = kept_whole false rows

  own_home : (d : Directory) → is_kinded d ≡ true → filter at_home (own_rows d) ≡ cond (f d.path) (own_rows d) []
  own_home d h = filter-agree at_home (λ row. f d.path) (own_rows d) (λ row k. ap f (home-own_rows d h row k)) ∙ kept_whole (f d.path) (own_rows d)

  rows_at_home : (dirs : List Directory) → list_all is_kinded dirs ≡ true → filter at_home (flat_map own_rows dirs) ≡ flat_map own_rows (filter (λ dir. f dir.path) dirs)
  rows_at_home [] kinds = refl
  rows_at_home (d ∷ dirs) kinds =
      let both = and_parts _ _ kinds in
      filter-append at_home (own_rows d) (flat_map own_rows dirs) ∙ ap (λ rows. rows ++ filter at_home (flat_map own_rows dirs)) (own_home d both.0)
      ∙ ap (λ rows. cond (f d.path) (own_rows d) [] ++ rows) (rows_at_home dirs both.1) ∙ by (f d.path) where
        by : (b : Bool) → cond b (own_rows d) [] ++ flat_map own_rows (filter (λ e. f e.path) dirs) ≡ flat_map own_rows (cond b (d ∷ filter (λ e. f e.path) dirs) (filter (λ e. f e.path) dirs))
        by true = refl
        by false = refl

  -- the rows with a home that passes are, up to their order, the own rows of the directories that pass
  pub rows_of_homes : (tree : List Directory) → HasTreeShape tree → IsPermutation (filter at_home (all_rows tree)) (flat_map own_rows (filter (λ dir. f dir.path) tree))
  rows_of_homes tree shape =
      subst (λ rows. IsPermutation (filter at_home (all_rows tree)) rows) (rows_at_home tree shape.kinds)
      (IsPermutation-filter at_home (all_rows tree) (flat_map own_rows tree) (IsPermutation-sym _ _ (IsPermutation-sort_by row_cmp (flat_map own_rows tree))))

-- ---- no two rows have one path

abbrev AreUnlike : List Row → Type 0
AreUnlike [] = Unit {0}
AreUnlike (r ∷ rows) = AllByRecursion (λ (s : Row). r.path ≢ s.path) rows × AreUnlike rows

AreUnlike-append : (xs ys : List Row) → AreUnlike xs → AreUnlike ys → ((x y : Row) → Has xs x → Has ys y → x.path ≢ y.path) → AreUnlike (xs ++ ys)
AreUnlike-append [] ys a b h = b
AreUnlike-append (x ∷ xs) ys a b h =
    (All-from_Has (λ (s : Row). x.path ≢ s.path) (xs ++ ys) (λ s k. first s (Has-append xs ys s k)), AreUnlike-append xs ys a.1 b (λ u v j k. h u v (inr j) k)) where
      first : (s : Row) → Has xs s ⊎ Has ys s → x.path ≢ s.path
      first s (inl k) = All-Has (λ (s : Row). x.path ≢ s.path) xs s a.0 k
      first s (inr k) = h x s (inl refl) k

Once-from_unlike : (rows : List Row) → AreUnlike rows → Once row_cmp rows
Once-from_unlike [] h = λ z. omega arith
Once-from_unlike (r ∷ rows) h = λ z. by z (row_cmp z r) refl (Once-from_unlike rows h.1 z) where
  none : (z : Row) (ss : List Row) → z.path ≡ r.path → AllByRecursion (λ (s : Row). r.path ≢ s.path) ss → times (λ y. is_eq (row_cmp z y)) ss ≡ 0
  none z [] same unlike = refl
  none z (s ∷ ss) same unlike = first (row_cmp z s) refl (none z ss same unlike.1) where
    first : (o : Ordering) → row_cmp z s ≡ o → times (λ y. is_eq (row_cmp z y)) ss ≡ 0 → cond (is_eq o) 1 0 + times (λ y. is_eq (row_cmp z y)) ss ≡ 0
    first Less e k = omega (arith, k)
    first Equal e k = absurd (unlike.0 (sym same ∙ path_cmp-Equal z.path s.path e))
    first Greater e k = omega (arith, k)

  by : (z : Row) (o : Ordering) → row_cmp z r ≡ o → times (λ y. is_eq (row_cmp z y)) rows ≤ 1 → cond (is_eq o) 1 0 + times (λ y. is_eq (row_cmp z y)) rows ≤ 1
  by z Less e n = omega (arith, n)
  by z Equal e n = omega (arith, none z rows (path_cmp-Equal z.path r.path e) h.0)
  by z Greater e n = omega (arith, n)

child_same : (p q : Components) (m n : List ℕ) → p ++ m ∷ [] ≡ q ++ n ∷ [] → p ≡ q
child_same p q m n e = sym (parent_path-child p m) ∙ ap parent_path e ∙ parent_path-child q n

-- the rows of one directory
own_unlike : (d : Directory) → ascends entry_cmp d.entries ≡ true → AreUnlike (own_rows d)
own_unlike d up = (longer d.entries, each d.entries up) where
  longer : (es : List Entry) → AllByRecursion (λ (s : Row). d.path ≢ s.path) (map (entry_row d.path) es)
  longer [] = tt
  longer (e ∷ es) = (longer_differs d.path e.name [], longer es)

  behind : (e : Entry) (es : List Entry) → AllByRecursion (λ (f : Entry). entry_cmp e f ≡ Less) es → AllByRecursion (λ (s : Row). d.path ++ e.name ∷ [] ≢ s.path) (map (entry_row d.path) es)
  behind e [] below = tt
  behind e (f ∷ es) below = (
    (λ same.
        let names : e.name ≡ f.name = sym (base_name-child d.path e.name) ∙ ap base_name same ∙ base_name-child d.path f.name in
        let tied : Less ≡ Equal = sym below.0 ∙ ap (slice_cmp nat_cmp e.name) (sym names) ∙ tied_itself nat_list_cmp_total e.name in
        cc),
    behind e es below.1,
  )

  each : (es : List Entry) → ascends entry_cmp es ≡ true → AreUnlike (map (entry_row d.path) es)
  each [] up = tt
  each (e ∷ es) up = (behind e es (below_all entry_cmp entry_cmp-total e es up), each es (ascends-tail entry_cmp entry_cmp-total e es up))

module _ (tree : List Directory) (shape : HasTreeShape tree) where
  abbrev IsOwnPath : Directory → Row → Type 0
  IsOwnPath d row = (row.path ≡ d.path) ⊎ ((e : Entry) × Has d.entries e × (row.path ≡ d.path ++ e.name ∷ []))

  own_path : (d : Directory) (row : Row) → Has (own_rows d) row → IsOwnPath d row
  own_path d row (inl e) = inl (ap (λ (r : Row). r.path) (sym e))
  own_path d row (inr k) = inr (within d.entries k) where
    within : (es : List Entry) → Has (map (entry_row d.path) es) row → (e : Entry) × Has es e × (row.path ≡ d.path ++ e.name ∷ [])
    within [] k = absurd k
    within (e ∷ es) (inl q) = (e, inl refl, ap (λ (r : Row). r.path) (sym q))
    within (e ∷ es) (inr k) = let w = within es k in (w.0, inr w.1, w.2)

  -- no directory has an entry's path
  no_dir : (d c : Directory) (e : Entry) → Has tree d → Has tree c → Has d.entries e → c.path ≢ d.path ++ e.name ∷ []
  no_dir d c e h k m = λ same.
      let all = all_at (λ dir. list_all (λ entry. not (has_dir tree (dir.path ++ entry.name ∷ []))) dir.entries) tree d shape.apart h in
      let free = all_at (λ entry. not (has_dir tree (d.path ++ entry.name ∷ []))) d.entries e all m in
      true≢false (sym (found-has_dir tree c k) ∙ ap (has_dir tree) same ∙ not-true _ free)

  differ : (d c : Directory) (x y : Row) → Has tree d → Has tree c → d.path ≢ c.path → IsOwnPath d x → IsOwnPath c y → x.path ≢ y.path
  differ d c x y h k other (inl p) (inl q) = λ same. other (sym p ∙ same ∙ q)
  differ d c x y h k other (inl p) (inr q) = λ same. no_dir c d q.0 k h q.1 (sym p ∙ same ∙ q.2)
  differ d c x y h k other (inr p) (inl q) = λ same. no_dir d c p.0 h k p.1 (sym q ∙ sym same ∙ p.2)
  differ d c x y h k other (inr p) (inr q) = λ same. other (child_same d.path c.path (p.0).name (q.0).name (sym p.2 ∙ same ∙ q.2))

  all_unlike : (dirs : List Directory) → ((d : Directory) → Has dirs d → Has tree d) → AreDistinct dirs → AreUnlike (flat_map own_rows dirs)
  all_unlike [] within apart = tt
  all_unlike (d ∷ dirs) within apart =
      AreUnlike-append (own_rows d) (flat_map own_rows dirs) (own_unlike d (all_at (λ dir. ascends entry_cmp dir.entries) tree d shape.entries (within d (inl refl))))
      (all_unlike dirs (λ c k. within c (inr k)) apart.1)
      (λ x y j k.
      let w = Has-flat_map own_rows dirs y k in
      differ d w.0 x y (within d (inl refl)) (within w.0 (inr w.1)) (All-Has (λ (c : Directory). d.path ≢ c.path) dirs w.0 apart.0 w.1) (own_path d x j) (own_path w.0 y w.2))

  pub rows_once : Once row_cmp (flat_map own_rows tree)
  rows_once = Once-from_unlike (flat_map own_rows tree) (all_unlike tree (λ d k. k) (distinct tree shape.order))

  -- all rows ascend, so no two have one path
  pub all_rows-ascends : ascends row_cmp (all_rows tree) ≡ true
  all_rows-ascends = ascends-sort_by row_cmp rows_total (flat_map own_rows tree) rows_once
