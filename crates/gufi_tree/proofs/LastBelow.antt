-- The last directory at or below one is the last one below its last subdirectory, or itself.
use Rattle.std.proofs.Common.{◌≡◌, ℕ, zero, suc, ◌+◌, ◌-◌, ◌<◌, ◌≤◌, ◌⊎◌, inl, inr, Bool, true, false, cond, List, [], ◌∷◌, ◌++◌, length, get_or, refl, sym, ap, ◌∙◌, subst, arith, append_assoc}
use Rattle.std.specs.Prelude.{slice_get, Some, None}
use Rattle.std.specs.List.{filter}
use Rattle.std.specs.declared.cmp.Ordering.TheVariants.{Less}
use Rattle.std.proofs.lemmas.Bool.{cases_order, false_from_ne_true, false≢true, true≢false}
use Rattle.std.proofs.lemmas.List.{append-nil}
use Rattle.std.proofs.lemmas.Option.{get_or_from_slice_get, slice_get-get_or}
use Rattle.gufi_base.specs.Paths.{Components, path_cmp, is_prefix, is_child_of}
use Rattle.gufi_base.proofs.Prefixes.{prefix_of_child}
use Rattle.gufi_tree.specs.declared.tree.DirId.{DirId}
use Rattle.gufi_tree.specs.Subtree.{IsLastBelow}
use Rattle.gufi_tree.specs.Tree.{Directory, HasTreeShape}
use Rattle.gufi_tree.specs.Places.{dir_id, path_at, ids_from, child_ids}
use Rattle.gufi_tree.proofs.Built.{Has}
use Rattle.gufi_tree.proofs.Descent.{child_name, is_child_of-push}
use Rattle.gufi_tree.proofs.Flat.{is_prefix-append, is_prefix-rest, prefix_there}
use Rattle.gufi_tree.proofs.Kids.{at_place, later_place}
use Rattle.gufi_tree.proofs.Linked.{path_at-get}
use Rattle.gufi_tree.proofs.Ranges.{never_again, not_before, own_prefix}
use Rattle.gufi_tree.proofs.Searched.{in_order}

-- ---- the last of the places that pass a test

module _ (test : Directory → Bool) where
  none_pass : (from : ℕ) (xs : List Directory) → length (ids_from test from xs) ≡ 0 → (k : ℕ) (d : Directory) → k < length xs → test (get_or xs k d) ≡ false
  none_pass from [] none k d lt = absurd (omega arith)
  none_pass from (x ∷ xs) none k d lt = by (test x) refl none (λ none k lt. none_pass (from + 1) xs none k d lt) where
    by : (b : Bool) → test x ≡ b → length (cond b (dir_id from ∷ ids_from test (from + 1) xs) (ids_from test (from + 1) xs)) ≡ 0
        → (length (ids_from test (from + 1) xs) ≡ 0 → (k : ℕ) → k < length xs → test (get_or xs k d) ≡ false) → test (get_or (x ∷ xs) k d) ≡ false
    by true e none rest = absurd (omega (arith, none))
    by false e none rest = at k lt where
      at : (k : ℕ) → k < length (x ∷ xs) → test (get_or (x ∷ xs) k d) ≡ false
      at zero lt = e
      at (suc k) lt = rest none k (omega arith)

  -- the last one of them, and that none behind it passes
  record IsLastOf (from : ℕ) (xs : List Directory) (id : DirId) (j : ℕ) : Type 0 where
    place : id.0 ≡ from + j
    within : j < length xs
    passes : (d : Directory) → test (get_or xs j d) ≡ true
    none : (k : ℕ) (d : Directory) → j < k → k < length xs → test (get_or xs k d) ≡ false

  last_passing : (from : ℕ) (xs : List Directory) (id : DirId) → 0 < length (ids_from test from xs)
      → (j : ℕ) × IsLastOf from xs (get_or (ids_from test from xs) (length (ids_from test from xs) - 1) id) j
  last_passing from [] id some = absurd (omega arith)
  last_passing from (x ∷ xs) id some = by (test x) refl (ids_from test (from + 1) xs) refl (λ some. last_passing (from + 1) xs id some) some where
    behind : (j k : ℕ) (d : Directory) → ((k : ℕ) (d : Directory) → j < k → k < length xs → test (get_or xs k d) ≡ false) → suc j < k → k < length (x ∷ xs) → test (get_or (x ∷ xs) k d) ≡ false
    behind j zero d none lt within = absurd (omega arith)
    behind j (suc k) d none lt within = none k d (omega arith) (omega arith)

    first : (k : ℕ) (d : Directory) → length (ids_from test (from + 1) xs) ≡ 0 → 0 < k → k < length (x ∷ xs) → test (get_or (x ∷ xs) k d) ≡ false
    first zero d none lt within = absurd (omega arith)
    first (suc k) d none lt within = none_pass (from + 1) xs none k d (omega arith)

    more : (id : DirId) → (j : ℕ) × IsLastOf (from + 1) xs id j → (j : ℕ) × IsLastOf from (x ∷ xs) id j
    more id w = (suc w.0, record { place = omega (arith, w.1.place); within = omega (arith, w.1.within); passes = w.1.passes; none = λ k d lt in'. behind w.0 k d w.1.none lt in' })

    by : (b : Bool) → test x ≡ b → (rest : List DirId) → rest ≡ ids_from test (from + 1) xs
        → (0 < length rest → (j : ℕ) × IsLastOf (from + 1) xs (get_or rest (length rest - 1) id) j) → 0 < length (cond b (dir_id from ∷ rest) rest)
        → (j : ℕ) × IsLastOf from (x ∷ xs) (get_or (cond b (dir_id from ∷ rest) rest) (length (cond b (dir_id from ∷ rest) rest) - 1) id) j
    by true e [] is again some = (0, record { place = omega arith; within = omega arith; passes = λ d. e; none = λ k d lt in'. first k d (ap length (sym is)) lt in' })
    by false e [] is again some = absurd (omega arith)
    by true e (r ∷ rest) is again some =
        let n : length (dir_id from ∷ r ∷ rest) - 1 ≡ suc (length (r ∷ rest) - 1) = omega arith in
        subst (λ (m : ℕ). (j : ℕ) × IsLastOf from (x ∷ xs) (get_or (dir_id from ∷ r ∷ rest) m id) j) (sym n) (more (get_or (r ∷ rest) (length (r ∷ rest) - 1) id) (again (omega arith)))
    by false e (r ∷ rest) is again some = more (get_or (r ∷ rest) (length (r ∷ rest) - 1) id) (again (omega arith))

last_some : (ids : List DirId) (id : DirId) → slice_get ids (length ids - 1) ≡ Some id → (0 < length ids) × (get_or ids (length ids - 1) id ≡ id)
last_some [] id e = absurd (cc)
last_some (x ∷ ids) id e = (omega arith, get_or_from_slice_get (x ∷ ids) (length (x ∷ ids) - 1) id id e)

last_none : (ids : List DirId) → slice_get ids (length ids - 1) ≡ None → length ids ≡ 0
last_none [] e = refl
last_none (x ∷ ids) e = absurd (let some = slice_get-get_or (x ∷ ids) (length (x ∷ ids) - 1) x (omega arith) in cc)

has_place : {X : Type 0} (xs : List X) (x : X) → Has xs x → (j : ℕ) × (j < length xs) × ((d : X) → get_or xs j d ≡ x)
has_place [] x h = absurd h
has_place (y ∷ xs) x (inl e) = (0, omega arith, λ d. e)
has_place (y ∷ xs) x (inr h) = let w = has_place xs x h in (suc w.0, omega (arith, w.1), w.2)

-- ---- how many directories pass a test from a place to another one

counted : (test : Directory → Bool) (xs : List Directory) (from to : ℕ) → from ≤ to → to ≤ length xs
    → ((k : ℕ) (d : Directory) → k < from → test (get_or xs k d) ≡ false)
    → ((k : ℕ) (d : Directory) → from ≤ k → k < to → test (get_or xs k d) ≡ true)
    → ((k : ℕ) (d : Directory) → to ≤ k → k < length xs → test (get_or xs k d) ≡ false)
    → length (filter test xs) ≡ to - from
counted test [] from to order in' before inside behind = omega arith
counted test (x ∷ xs) zero zero order in' before inside behind =
    rw (behind 0 x (omega arith) (omega arith)) (counted test xs 0 0 (omega arith) (omega arith) (λ k d lt. absurd (omega arith)) (λ k d le lt. absurd (omega arith)) (λ k d le lt. behind (suc k) d (omega arith) (omega arith)))
counted test (x ∷ xs) zero (suc to) order in' before inside behind =
    rw (inside 0 x (omega arith) (omega arith)) (ap suc (counted test xs 0 to (omega arith) (omega arith) (λ k d lt. absurd (omega arith)) (λ k d le lt. inside (suc k) d (omega arith) (omega arith)) (λ k d le lt. behind (suc k) d (omega arith) (omega arith)))
    ∙ (omega arith))
counted test (x ∷ xs) (suc from) zero order in' before inside behind = absurd (omega arith)
counted test (x ∷ xs) (suc from) (suc to) order in' before inside behind =
    rw (before 0 x (omega arith)) (counted test xs from to (omega arith) (omega arith) (λ k d lt. before (suc k) d (omega arith)) (λ k d le lt. inside (suc k) d (omega arith) (omega arith)) (λ k d le lt. behind (suc k) d (omega arith) (omega arith))
    ∙ (omega arith))

-- ---- in a tree

module _ (tree : List Directory) (shape : HasTreeShape tree) where
  -- paths stand in the order of their places
  pub places_ordered : (j k : ℕ) → j < k → k < length tree → path_cmp (path_at tree j) (path_at tree k) ≡ Less
  places_ordered j k before within =
      let d = (at_place tree k within).0 in
      ap (λ (p : Components). path_cmp p (path_at tree k)) (path_at-get tree j d (omega arith))
      ∙ ap (path_cmp (get_or tree j d).path) (path_at-get tree k d within)
      ∙ in_order tree shape.order j k d before within

  -- one doesn't lead to one before it
  pub leads_on : (j k : ℕ) → j < k → k < length tree → is_prefix (path_at tree k) (path_at tree j) ≡ false
  leads_on j k before within = not_before (path_at tree k) (path_at tree j) (places_ordered j k before within)

  -- what stands between a directory and one below it is below it too
  between : (i j k : ℕ) → i < j → j < k → k < length tree → is_prefix (path_at tree i) (path_at tree k) ≡ true → is_prefix (path_at tree i) (path_at tree j) ≡ true
  between i j k low high within leads = by (is_prefix (path_at tree i) (path_at tree j)) refl where
    by : (b : Bool) → is_prefix (path_at tree i) (path_at tree j) ≡ b → is_prefix (path_at tree i) (path_at tree j) ≡ true
    by true e = e
    by false e = absurd (true≢false (sym leads ∙ never_again (path_at tree i) (path_at tree j) (path_at tree k) (places_ordered i j low (omega arith)) e (places_ordered j k high within)))

  -- what is below a directory is at or below a subdirectory of it
  towards : (at k : ℕ) → at < k → k < length tree → is_prefix (path_at tree at) (path_at tree k) ≡ true
      → (j : ℕ) × (j < length tree) × (is_child_of (path_at tree at) (path_at tree j) ≡ true) × (is_prefix (path_at tree j) (path_at tree k) ≡ true)
  towards at k low within leads = let w = is_prefix-rest (path_at tree at) (path_at tree k) leads in by w.0 w.1 where
    own : Components
    own = path_at tree at

    by : (rest : Components) → path_at tree k ≡ own ++ rest
        → (j : ℕ) × (j < length tree) × (is_child_of own (path_at tree j) ≡ true) × (is_prefix (path_at tree j) (path_at tree k) ≡ true)
    by [] e = absurd (true≢false (sym (own_prefix (path_at tree k)) ∙ ap (is_prefix (path_at tree k)) (e ∙ append-nil own) ∙ leads_on at k low within))
    by (name ∷ rest) e =
        let c = at_place tree k within in
        let w = prefix_there tree shape (own ++ name ∷ []) rest c.0 c.1 (c.2 ∙ e ∙ sym (append_assoc own (name ∷ []) rest)) in
        let j = has_place tree w.0 w.1 in
        let path : path_at tree j.0 ≡ own ++ name ∷ [] = path_at-get tree j.0 w.0 j.1 ∙ ap (λ (d : Directory). d.path) (j.2 w.0) ∙ w.2 in (
          j.0,
          j.1,
          ap (is_child_of own) path ∙ is_child_of-push own name,
          ap (λ (p : Components). is_prefix p (path_at tree k)) path ∙ ap (is_prefix (own ++ name ∷ [])) (e ∙ sym (append_assoc own (name ∷ []) rest)) ∙ is_prefix-append (own ++ name ∷ []) rest,
        )

  module _ (at : ℕ) (within : at < length tree) where
    abbrev own : Components
    own = path_at tree at

    abbrev kids : List DirId
    kids = child_ids tree own

    abbrev is_kid : Directory → Bool
    is_kid = λ dir. is_child_of own dir.path

    -- without a subdirectory there is nothing below it
    pub ends_here : slice_get kids (length kids - 1) ≡ None → (k : ℕ) → at < k → k < length tree → is_prefix own (path_at tree k) ≡ false
    ends_here none k low in' = false_from_ne_true _ (λ leads.
        let w = towards at k low in' leads in
        let d = (at_place tree k in').0 in
        true≢false (sym w.2 ∙ ap (is_child_of own) (path_at-get tree w.0 d w.1) ∙ none_pass is_kid 0 tree (last_none kids none) w.0 d w.1))

    later : (j : ℕ) → j < length tree → is_child_of own (path_at tree j) ≡ true → at < j
    later j in' child = let w = at_place tree j in' in later_place tree shape at within j w.0 in' (sym (w.3 w.0)) (ap (is_child_of own) w.2 ∙ child)

    module _ (kid : ℕ) (in' : kid < length tree) (child : is_child_of own (path_at tree kid) ≡ true)
        (none : (k : ℕ) (d : Directory) → kid < k → k < length tree → is_kid (get_or tree k d) ≡ false) where
      name : (name : List ℕ) × (path_at tree kid ≡ own ++ name ∷ [])
      name = child_name own (path_at tree kid) child

      -- what is below it and behind its last subdirectory is below that
      pub goes_on : (k : ℕ) → kid < k → k < length tree → is_prefix own (path_at tree k) ≡ true → is_prefix (path_at tree kid) (path_at tree k) ≡ true
      goes_on k low high below = by (towards at k (omega (arith, later kid in' child, low)) high below) where
        by : (j : ℕ) × (j < length tree) × (is_child_of own (path_at tree j) ≡ true) × (is_prefix (path_at tree j) (path_at tree k) ≡ true)
            → is_prefix (path_at tree kid) (path_at tree k) ≡ true
        by to = elim (cases_order to.0 kid) [
          | inl same ↦ ap (λ (i : ℕ). is_prefix (path_at tree i) (path_at tree k)) (sym same) ∙ to.3
          | inr (inl before) ↦ absurd (elim (prefix_of_child (path_at tree to.0) own name.0 (ap (is_prefix (path_at tree to.0)) (sym name.1) ∙ between to.0 kid k before low high to.3)) [
            | inl equal ↦ true≢false (sym (own_prefix (path_at tree kid)) ∙ ap (is_prefix (path_at tree kid)) (name.1 ∙ sym equal) ∙ leads_on to.0 kid before in')
            | inr back ↦ true≢false (sym back ∙ leads_on at to.0 (later to.0 to.1 to.2) to.1)
          ])
          | inr (inr behind) ↦ (let d = (at_place tree to.0 to.1).0 in absurd (true≢false (sym to.2 ∙ ap (is_child_of own) (path_at-get tree to.0 d to.1) ∙ none to.0 d behind to.1)))
        ]

      pub leads_to : is_prefix own (path_at tree kid) ≡ true
      leads_to = ap (is_prefix own) name.1 ∙ is_prefix-append own (name.0 ∷ [])

    -- the last one of the subdirectories
    pub record IsLastKid (kid : ℕ) : Type 0 where
      pub later : at < kid
      pub there : kid < length tree
      pub leads : is_prefix own (path_at tree kid) ≡ true
      pub on : (k : ℕ) → kid < k → k < length tree → is_prefix own (path_at tree k) ≡ true → is_prefix (path_at tree kid) (path_at tree k) ≡ true

    pub last_kid : (id : DirId) → slice_get kids (length kids - 1) ≡ Some id → IsLastKid id.0
    last_kid id e = let last = last_some kids id e in by last.1 (last_passing is_kid 0 tree id last.0) where
      by : get_or kids (length kids - 1) id ≡ id → (j : ℕ) × IsLastOf is_kid 0 tree (get_or kids (length kids - 1) id) j → IsLastKid id.0
      by is w =
          let last = w.1 in
          let d = (at_place tree at within).0 in
          let place : id.0 ≡ w.0 = ap (λ (i : DirId). i.0) (sym is) ∙ last.place ∙ (omega arith) in
          let child : is_child_of own (path_at tree w.0) ≡ true = ap (is_child_of own) (path_at-get tree w.0 d last.within) ∙ last.passes d in
          let found : IsLastKid w.0 = record { later = later w.0 last.within child; there = last.within; leads = leads_to w.0 last.within child last.none; on = goes_on w.0 last.within child last.none } in
          subst IsLastKid (sym place) found

  -- as many stand at and below it as from its place to the last one
  pub below_count : (at last : ℕ) → IsLastBelow tree at last → length (filter (λ dir. is_prefix (path_at tree at) dir.path) tree) ≡ last - at + 1
  below_count at last is =
      let test : Directory → Bool = λ dir. is_prefix (path_at tree at) dir.path in
      let seen : (k : ℕ) (d : Directory) → k < length tree → test (get_or tree k d) ≡ is_prefix (path_at tree at) (path_at tree k) = λ k d lt. ap (is_prefix (path_at tree at)) (sym (path_at-get tree k d lt)) in
      counted test tree at (last + 1) (omega (arith, is.order)) (omega (arith, is.within))
      (λ k d lt. seen k d (omega (arith, lt, is.order, is.within)) ∙ leads_on k at lt (omega (arith, is.order, is.within)))
      (λ k d low high. seen k d (omega (arith, high, is.within)) ∙ inside k low high)
      (λ k d low high. seen k d high ∙ is.none k (omega (arith, low)) high)
      ∙ (omega (arith, is.order)) where
        inside : (k : ℕ) → at ≤ k → k < last + 1 → is_prefix (path_at tree at) (path_at tree k) ≡ true
        inside k low high = elim (cases_order at k) [
          | inl same ↦ ap (λ (i : ℕ). is_prefix (path_at tree at) (path_at tree i)) (sym same) ∙ own_prefix (path_at tree at)
          | inr (inl before) ↦ elim (cases_order k last) [
            | inl end ↦ ap (λ (i : ℕ). is_prefix (path_at tree at) (path_at tree i)) end ∙ is.below
            | inr (inl earlier) ↦ between at k last before earlier is.within is.below
            | inr (inr later) ↦ absurd (omega (arith, later, high))
          ]
          | inr (inr behind) ↦ absurd (omega (arith, behind, low))
        ]
