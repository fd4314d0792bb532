-- The rows of the directories that are listed from one on: its own rows, and those from its subdirectories that may be listed.
use Rattle.std.proofs.Common.{◌≡◌, inl, inr, ◌⊎◌, Bool, true, false, not, ◌&&◌, ◌||◌, List, [], ◌∷◌, ◌++◌, map, refl, sym, ap, ◌∙◌, subst}
use Rattle.std.specs.Cmp.Lexicographic.{bytes_decides}
use Rattle.std.specs.List.{filter, flat_map}
use Rattle.std.specs.List.Sorted.{IsPermutation}
use Rattle.std.proofs.lemmas.Bool.{false≢true, false_from_ne_true, and_parts, and_from}
use Rattle.std.proofs.lemmas.List.{map-append}
use Rattle.std.proofs.lemmas.List.Elements.{filter-append}
use Rattle.std.proofs.lemmas.List.Sorted.{IsPermutation-map}
use Rattle.gufi_base.specs.declared.record.Row.{Row}
use Rattle.gufi_base.specs.Paths.{Components, is_prefix}
use Rattle.gufi_base.specs.Rows.{home}
use Rattle.gufi_base.proofs.Permutations.{IsPermutation-flat_map}
use Rattle.gufi_access.specs.declared.class.Principal.{Principal}
use Rattle.gufi_tree.specs.Tree.{Directory, own_rows, all_rows, may_list, has_dir, HasTreeShape}
use Rattle.gufi_tree.specs.Listed.{is_between, is_listed}
use Rattle.gufi_tree.proofs.Built.{Has}
use Rattle.gufi_tree.proofs.Filters.{filter-agree, Has-filter}
use Rattle.gufi_tree.proofs.Flat.{all_at, all-true}
use Rattle.gufi_tree.proofs.Fronts.{listed_dirs, open_dirs, listed_dirs-step}
use Rattle.gufi_roll.proofs.Tops.{prefix_trans}
use Rattle.gufi_walk.proofs.Passed.{filter-wider}
use Rattle.gufi_walk.proofs.Pieces.{flat_map-flat_map, map-flat_map}

-- ---- lists

module _ {X Y : Type 0} (f : X → List Y) (p : Y → Bool) where
  pub filter-flat_map : (xs : List X) → filter p (flat_map f xs) ≡ flat_map (λ x. filter p (f x)) xs
  filter-flat_map [] = refl
  filter-flat_map (x ∷ xs) = filter-append p (f x) (flat_map f xs) ∙ ap (λ l. filter p (f x) ++ l) (filter-flat_map xs)

-- ---- listed directories

-- of two paths that lead to a third, one leads to the other
either_leads : (a b c : Components) → is_prefix a c ≡ true → is_prefix b c ≡ true → (is_prefix a b ≡ true) ⊎ (is_prefix b a ≡ true)
either_leads [] b c h k = inl refl
either_leads (x ∷ a) [] c h k = inr refl
either_leads (x ∷ a) (y ∷ b) [] h k = absurd (false≢true h)
either_leads (x ∷ a) (y ∷ b) (z ∷ c) h k =
    let first = and_parts _ _ h in
    let other = and_parts _ _ k in
    let same : x ≡ y = (bytes_decides x z).0 first.0 ∙ sym ((bytes_decides y z).0 other.0) in
    elim (either_leads a b c first.1 other.1) [
      | inl leads ↦ inl (and_from _ _ ((bytes_decides x y).1 same) leads)
      | inr leads ↦ inr (and_from _ _ ((bytes_decides y x).1 (sym same)) leads)
    ]

module _ (tree : List Directory) (who : Principal) where
  abbrev MayListBetween : Components → Components → Type 0
  MayListBetween start path = (dir : Directory) → Has tree dir → is_prefix start dir.path ≡ true → is_prefix dir.path path ≡ true → may_list who dir ≡ true

  implied : (a b c : Bool) → a ≡ true → b ≡ true → (not (a && b) || c) ≡ true → c ≡ true
  implied a b c e f h = rw (e, f) at h

  listed_parts : (start path : Components) → is_listed tree who start path ≡ true → (is_prefix start path ≡ true) × (has_dir tree path ≡ true) × MayListBetween start path
  listed_parts start path h =
      let outer = and_parts _ _ h in
      let inner = and_parts _ _ outer.0 in
      (inner.0, inner.1, λ dir there first last. implied _ _ _ first last (all_at (λ dir. not (is_between start path dir.path) || may_list who dir) tree dir outer.1 there))

  listed_from : (start path : Components) → is_prefix start path ≡ true → has_dir tree path ≡ true → MayListBetween start path → is_listed tree who start path ≡ true
  listed_from start path leads there between =
      and_from _ _ (and_from _ _ leads there) (all-true (λ dir. not (is_between start path dir.path) || may_list who dir) tree (λ dir h.
      by dir h (is_prefix start dir.path) (is_prefix dir.path path) refl refl)) where
        by : (dir : Directory) → Has tree dir → (a b : Bool) → is_prefix start dir.path ≡ a → is_prefix dir.path path ≡ b → (not (a && b) || may_list who dir) ≡ true
        by dir h true true e f = between dir h e f
        by dir h true false e f = refl
        by dir h false b e f = refl

  from_start : (start top path : Components) → is_listed tree who start top ≡ true → is_listed tree who top path ≡ true → is_listed tree who start path ≡ true
  from_start start top path up down =
      let above = listed_parts start top up in
      let below = listed_parts top path down in
      listed_from start path (prefix_trans start top path above.0 below.0) below.1 (λ dir h first last. elim (either_leads dir.path top path last below.0) [
        | inl leads ↦ above.2 dir h first leads
        | inr leads ↦ below.2 dir h leads last
      ])

  from_top : (start top path : Components) → is_listed tree who start top ≡ true → is_listed tree who start path ≡ true → is_prefix top path ≡ true → is_listed tree who top path ≡ true
  from_top start top path up all leads =
      let above = listed_parts start top up in
      let whole = listed_parts start path all in
      listed_from top path leads whole.1 (λ dir h first last. whole.2 dir h (prefix_trans start top dir.path above.0 first) last)

module _ (tree : List Directory) (who : Principal) (shows : Row → Row) where
  -- rows, directory by directory
  abbrev pub from : Components → List Row
  from top = map shows (flat_map own_rows (listed_dirs tree who top))

  pub from-step : (shape : HasTreeShape tree) (d : Directory) → Has tree d → may_list who d ≡ true
      → IsPermutation (from d.path) (map shows (own_rows d) ++ flat_map (λ k. from k.path) (open_dirs tree who d.path))
  from-step shape d there on =
      let L : Directory → List Directory = λ k. listed_dirs tree who k.path in
      let O : List Directory = open_dirs tree who d.path in
      let split : map shows (own_rows d ++ flat_map own_rows (flat_map L O)) ≡ map shows (own_rows d) ++ flat_map (λ k. from k.path) O =
      map-append shows (own_rows d) (flat_map own_rows (flat_map L O))
      ∙ ap (λ l. map shows (own_rows d) ++ l) (ap (map shows) (flat_map-flat_map L own_rows O) ∙ map-flat_map (λ k. flat_map own_rows (L k)) shows O) in
      subst (IsPermutation (from d.path)) split (IsPermutation-map shows _ _ (IsPermutation-flat_map own_rows _ _ (listed_dirs-step tree who shape d there on)))

-- ---- rows at and below a directory, among those that are listed from a start

module _ (tree : List Directory) (shape : HasTreeShape tree) (who : Principal) (start top : Components) (listed : is_listed tree who start top ≡ true) where
  -- the rows with a home that is listed from the start, at or below the directory, are those with one that is listed from the directory
  pub listed_below : filter (λ (row : Row). is_prefix top (home row)) (filter (λ row. is_listed tree who start (home row)) (all_rows tree)) ≡ filter (λ row. is_listed tree who top (home row)) (all_rows tree)
  listed_below =
      filter-agree (λ (row : Row). is_prefix top (home row)) (λ row. is_listed tree who top (home row)) (filter (λ row. is_listed tree who start (home row)) (all_rows tree))
      (λ row h. alike (home row) (Has-filter (λ (r : Row). is_listed tree who start (home r)) (all_rows tree) row h).1)
      ∙ filter-wider (λ (row : Row). is_listed tree who start (home row)) (λ row. is_listed tree who top (home row)) (λ row h. from_start tree who start top (home row) listed h) (all_rows tree) where
        alike : (path : Components) → is_listed tree who start path ≡ true → is_prefix top path ≡ is_listed tree who top path
        alike path h = by (is_prefix top path) refl where
          by : (b : Bool) → is_prefix top path ≡ b → b ≡ is_listed tree who top path
          by true e = sym (from_top tree who start top path listed h e)
          by false e = sym (false_from_ne_true _ (λ f. false≢true (sym e ∙ (listed_parts tree who top path f).0)))
