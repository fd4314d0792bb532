-- What the rolled directories of a tree come to: each lies at or below one that has no rolled directory above it.
use Rattle.std.proofs.Common.{◌≡◌, ℕ, zero, suc, ◌+◌, ◌<◌, ◌≤◌, Bool, true, false, not, ◌&&◌, ◌||◌, cond, List, [], ◌∷◌, ◌++◌, length, take, get_or, map, ◌⊎◌, inl, inr, refl, sym, ap, ◌∙◌, arith}
use Rattle.std.specs.Prelude.{nat_lt, nat_le, zip, bytes_eq}
use Rattle.std.specs.List.{list_all, list_any, filter, flat_map, sum_by}
use Rattle.std.proofs.lemmas.Bool.{cases_lt, le-ltb, true≢false, false≢true, and_parts, and_from, lt-ltb, le-leb, not-true, not_from_false, false_from_ne_true, or_parts}
use Rattle.std.proofs.lemmas.Bool.Decides.{leb_tells}
use Rattle.std.proofs.lemmas.List.{length-append}
use Rattle.std.proofs.lemmas.List.Concat.{length-flat_map}
use Rattle.std.proofs.lemmas.List.Sums.{sum_by-cons}
use Rattle.std.proofs.lemmas.Slice.Eq.{bytes_eq-Decides}
use Rattle.gufi_base.specs.Basics.{is_empty}
use Rattle.gufi_base.specs.Paths.{Components, path_eq, parent_path, base_name, is_prefix, is_proper_prefix}
use Rattle.gufi_base.proofs.Cuts.{all_but_last_and_last}
use Rattle.gufi_base.proofs.Prefixes.{prefix_of_child}
use Rattle.gufi_base.proofs.SortedOnce.{times}
use Rattle.gufi_tree.specs.Tree.{Directory, own_rows, has_dir, HasTreeShape}
use Rattle.gufi_tree.proofs.Built.{Has, path_eq-Decides}
use Rattle.gufi_tree.proofs.Descent.{AreDistinct-filter, filter-path_eq}
use Rattle.gufi_tree.proofs.Filters.{Has-filter, filter-Has, any-none, any-some}
use Rattle.gufi_tree.proofs.Flat.{distinct, is_prefix-append, is_prefix-rest, has_dir-found}
use Rattle.gufi_tree.proofs.Kids.{rows_under}
use Rattle.gufi_tree.proofs.Placed.{list_all-Has}
use Rattle.gufi_roll.specs.CanRoll.{rows_below, is_covered, can_roll, is_under, rolled_dirs, top_dirs}
use Rattle.gufi_roll.specs.Below.{are_covered}
use Rattle.gufi_roll.proofs.Laws.{rows_below-under}
use Rattle.std.proofs.Common.{is_some, eqb, Option, Some, None, eq-eqb}
use Rattle.std.specs.Prelude.{option_map}
use Rattle.std.specs.declared.cmp.Ordering.TheVariants.{Less, Equal}
use Rattle.std.proofs.lemmas.Bool.{cases_eq, ne_eqb}
use Rattle.std.proofs.lemmas.List.{append-nil, length-map, take_all, get_or-map}
use Rattle.gufi_base.specs.Paths.{path_cmp}
use Rattle.gufi_tree.specs.declared.tree.DirId.{DirId}
use Rattle.gufi_tree.specs.Tree.{entry_row, place_of}
use Rattle.gufi_tree.specs.Places.{path_at, dir_id, parent_id}
use Rattle.gufi_tree.proofs.Kids.{Has-get_or}
use Rattle.gufi_tree.proofs.Linked.{path_at-get, root_first, some_place, list_all-get}
use Rattle.gufi_tree.proofs.Resolving.{parent_before}
use Rattle.gufi_tree.proofs.Searched.{in_order}
use Rattle.gufi_roll.specs.declared.report.RollReport.{RollReport}
use Rattle.gufi_roll.specs.CanRoll.{roll_report}
use Rattle.gufi_roll.specs.Below.{AreFlags, IsReport}

-- the flagged directories, where the flags are a test of them
pub rolled_are : (p : Directory → Bool) (ds : List Directory) → rolled_dirs ds (map p ds) ≡ filter p ds
rolled_are p [] = refl
rolled_are p (d ∷ ds) = by (p d) (rolled_are p ds) where
  by : (b : Bool) → map (λ pair. pair.0) (filter (λ pair. pair.1) (zip ds (map p ds))) ≡ filter p ds
      → map (λ pair. pair.0) (cond b ((d, b) ∷ filter (λ pair. pair.1) (zip ds (map p ds))) (filter (λ pair. pair.1) (zip ds (map p ds)))) ≡ cond b (d ∷ filter p ds) (filter p ds)
  by true e = ap (λ (xs : List Directory). d ∷ xs) e
  by false e = e

-- ---- prefixes

ltb-true : (a b : ℕ) → nat_lt a b ≡ true → a < b
ltb-true a b e = elim (cases_lt a b) [
  | inl less ↦ less
  | inr more ↦ absurd (true≢false (sym e ∙ le-ltb a b more))
]

leb-true : (a b : ℕ) → nat_le a b ≡ true → a ≤ b
leb-true a b e = elim (leb_tells a b) [
  | inl holds ↦ holds.1
  | inr fails ↦ absurd (true≢false (sym e ∙ fails.0))
]

pub prefix_trans : (a p x : Components) → is_prefix a p ≡ true → is_prefix p x ≡ true → is_prefix a x ≡ true
prefix_trans [] p x h k = refl
prefix_trans (n ∷ a) [] x h k = absurd (false≢true h)
prefix_trans (n ∷ a) (m ∷ p) [] h k = absurd (false≢true k)
prefix_trans (n ∷ a) (m ∷ p) (o ∷ x) h k =
    let first = and_parts (bytes_eq n m) (is_prefix a p) h in
    let second = and_parts (bytes_eq m o) (is_prefix p x) k in
    and_from (bytes_eq n o) (is_prefix a x) ((bytes_eq-Decides n o).1 ((bytes_eq-Decides n m).0 first.0 ∙ (bytes_eq-Decides m o).0 second.0)) (prefix_trans a p x first.1 second.1)

prefix_length : (a p : Components) → is_prefix a p ≡ true → length a ≤ length p
prefix_length a p h = let rest = is_prefix-rest a p h in omega (arith, ap length rest.1, length-append a rest.0)

proper_trans : (a p x : Components) → is_prefix a p ≡ true → is_proper_prefix p x ≡ true → is_proper_prefix a x ≡ true
proper_trans a p x h k =
    let both = and_parts (is_prefix p x) (nat_lt (length p) (length x)) k in
    and_from (is_prefix a x) (nat_lt (length a) (length x)) (prefix_trans a p x h both.0) (lt-ltb (length a) (length x) (omega (arith, prefix_length a p h, ltb-true (length p) (length x) both.1)))

comparable : (a b x : Components) → is_prefix a x ≡ true → is_prefix b x ≡ true → (is_prefix a b ≡ true) ⊎ (is_prefix b a ≡ true)
comparable [] b x h k = inl refl
comparable (n ∷ a) [] x h k = inr refl
comparable (n ∷ a) (m ∷ b) [] h k = absurd (false≢true h)
comparable (n ∷ a) (m ∷ b) (o ∷ x) h k =
    let first = and_parts (bytes_eq n o) (is_prefix a x) h in
    let second = and_parts (bytes_eq m o) (is_prefix b x) k in
    let same : n ≡ m = (bytes_eq-Decides n o).0 first.0 ∙ sym ((bytes_eq-Decides m o).0 second.0) in
    by same (comparable a b x first.1 second.1) where
      by : n ≡ m → (is_prefix a b ≡ true) ⊎ (is_prefix b a ≡ true) → ((bytes_eq n m && is_prefix a b) ≡ true) ⊎ ((bytes_eq m n && is_prefix b a) ≡ true)
      by same (inl e) = inl (and_from (bytes_eq n m) (is_prefix a b) ((bytes_eq-Decides n m).1 same) e)
      by same (inr e) = inr (and_from (bytes_eq m n) (is_prefix b a) ((bytes_eq-Decides m n).1 (sym same)) e)

-- a prefix is proper or the path itself
proper_or_same : (a p : Components) → is_prefix a p ≡ true → is_proper_prefix a p ≡ false → a ≡ p
proper_or_same [] [] h k = refl
proper_or_same [] (m ∷ p) h k = absurd (true≢false (sym (lt-ltb 0 (length (m ∷ p)) (omega arith)) ∙ k))
proper_or_same (n ∷ a) [] h k = absurd (false≢true h)
proper_or_same (n ∷ a) (m ∷ p) h k =
    let both = and_parts (bytes_eq n m) (is_prefix a p) h in
    let rest : is_proper_prefix a p ≡ false = false_from_ne_true (is_proper_prefix a p) (λ e.
    let parts = and_parts (is_prefix a p) (nat_lt (length a) (length p)) e in
    absurd (true≢false (sym (and_from (bytes_eq n m && is_prefix a p) (nat_lt (length (n ∷ a)) (length (m ∷ p))) h (lt-ltb (length (n ∷ a)) (length (m ∷ p)) (omega (arith, ltb-true (length a) (length p) parts.1)))) ∙ k))) in
    ap (λ (x : List ℕ). x ∷ a) ((bytes_eq-Decides n m).0 both.0) ∙ ap (λ (xs : Components). m ∷ xs) (proper_or_same a p both.1 rest)

-- ---- sums

module _ {X : Type 0} where
  none_times : (q : X → Bool) (xs : List X) → list_any q xs ≡ false → times q xs ≡ 0
  none_times q [] h = refl
  none_times q (x ∷ xs) h =
      let both = or_parts (q x) (list_any q xs) h in
      let rest : times q xs ≡ 0 = none_times q xs both.1 in
      rw both.0 (omega (arith, rest))

  times_same : (p q : X → Bool) (xs : List X) → ((x : X) → Has xs x → p x ≡ q x) → times p xs ≡ times q xs
  times_same p q [] h = refl
  times_same p q (x ∷ xs) h = ap (λ b. cond b 1 0 + times p xs) (h x (inl refl)) ∙ ap (λ n. cond (q x) 1 0 + n) (times_same p q xs (λ y k. h y (inr k)))

  times_filter : (p : X → Bool) (xs : List X) → times p xs ≡ length (filter p xs)
  times_filter p [] = refl
  times_filter p (x ∷ xs) = by (p x) (times_filter p xs) where
    by : (b : Bool) → times p xs ≡ length (filter p xs) → cond b 1 0 + times p xs ≡ length (cond b (x ∷ filter p xs) (filter p xs))
    by true e = omega (arith, e)
    by false e = omega (arith, e)

module _ {X Y : Type 0} (own : X → List Y) where
  -- an element is counted once for each of the tests that it passes
  parts_sum : {Z : Type 0} (pre : Z → X → Bool) (zs : List Z) (x : X) (xs : List X) (b : Bool) → times (λ z. pre z x) zs ≡ cond b 1 0
      → length (flat_map (λ z. flat_map own (filter (pre z) (x ∷ xs))) zs) ≡ cond b (length (own x)) 0 + length (flat_map (λ z. flat_map own (filter (pre z) xs)) zs)
  parts_sum pre [] x xs true h = absurd (omega (arith, h))
  parts_sum pre [] x xs false h = omega arith
  parts_sum {Z} pre (z ∷ zs) x xs b h =
      let a = length-append (flat_map own (filter (pre z) (x ∷ xs))) (flat_map (λ v. flat_map own (filter (pre v) (x ∷ xs))) zs) in
      let c = length-append (flat_map own (filter (pre z) xs)) (flat_map (λ v. flat_map own (filter (pre v) xs)) zs) in
      by (pre z x) b h (λ d k. parts_sum pre zs x xs d k) a c where
        by : (t b : Bool) → cond t 1 0 + times (λ v. pre v x) zs ≡ cond b 1 0
            → ((d : Bool) → times (λ v. pre v x) zs ≡ cond d 1 0 → length (flat_map (λ v. flat_map own (filter (pre v) (x ∷ xs))) zs) ≡ cond d (length (own x)) 0 + length (flat_map (λ v. flat_map own (filter (pre v) xs)) zs))
            → length (flat_map own (cond t (x ∷ filter (pre z) xs) (filter (pre z) xs)) ++ flat_map (λ v. flat_map own (filter (pre v) (x ∷ xs))) zs)
            ≡ length (flat_map own (cond t (x ∷ filter (pre z) xs) (filter (pre z) xs))) + length (flat_map (λ v. flat_map own (filter (pre v) (x ∷ xs))) zs)
            → length (flat_map own (filter (pre z) xs) ++ flat_map (λ v. flat_map own (filter (pre v) xs)) zs) ≡ length (flat_map own (filter (pre z) xs)) + length (flat_map (λ v. flat_map own (filter (pre v) xs)) zs)
            → length (flat_map own (cond t (x ∷ filter (pre z) xs) (filter (pre z) xs)) ++ flat_map (λ v. flat_map own (filter (pre v) (x ∷ xs))) zs)
            ≡ cond b (length (own x)) 0 + length (flat_map own (filter (pre z) xs) ++ flat_map (λ v. flat_map own (filter (pre v) xs)) zs)
        by true true h ih a c = omega (arith, a, c, ih false (omega (arith, h)), length-append (own x) (flat_map own (filter (pre z) xs)))
        by true false h ih a c = absurd (omega (arith, h))
        by false true h ih a c = omega (arith, a, c, ih true (omega (arith, h)))
        by false false h ih a c = omega (arith, a, c, ih false (omega (arith, h)))

  -- so all parts together are the elements that pass one
  parts_all : {Z : Type 0} (pre : Z → X → Bool) (zs : List Z) (q : X → Bool) (xs : List X) → ((x : X) → Has xs x → times (λ z. pre z x) zs ≡ cond (q x) 1 0)
      → length (flat_map (λ z. flat_map own (filter (pre z) xs)) zs) ≡ length (flat_map own (filter q xs))
  parts_all {Z} pre zs q [] h = nothing zs where
    nothing : (vs : List Z) → length (flat_map (λ z. flat_map own (filter (pre z) [])) vs) ≡ 0
    nothing [] = refl
    nothing (v ∷ vs) = nothing vs
  parts_all {Z} pre zs q (x ∷ xs) h =
      let ih = parts_all pre zs q xs (λ y k. h y (inr k)) in
      let one = parts_sum pre zs x xs (q x) (h x (inl refl)) in
      one ∙ by (q x) ih where
        by : (b : Bool) → length (flat_map (λ z. flat_map own (filter (pre z) xs)) zs) ≡ length (flat_map own (filter q xs))
            → cond b (length (own x)) 0 + length (flat_map (λ z. flat_map own (filter (pre z) xs)) zs) ≡ length (flat_map own (cond b (x ∷ filter q xs) (filter q xs)))
        by true e = omega (arith, e, length-append (own x) (flat_map own (filter q xs)))
        by false e = omega (arith, e)

  parts_fewer : (p q : X → Bool) (xs : List X) → ((x : X) → p x ≡ true → q x ≡ true) → length (flat_map own (filter p xs)) ≤ length (flat_map own (filter q xs))
  parts_fewer p q [] h = omega arith
  parts_fewer p q (x ∷ xs) h = by (p x) (q x) (h x) (parts_fewer p q xs h) where
    by : (a b : Bool) → (a ≡ true → b ≡ true) → length (flat_map own (filter p xs)) ≤ length (flat_map own (filter q xs))
        → length (flat_map own (cond a (x ∷ filter p xs) (filter p xs))) ≤ length (flat_map own (cond b (x ∷ filter q xs) (filter q xs)))
    by true true f e = omega (arith, e, length-append (own x) (flat_map own (filter p xs)), length-append (own x) (flat_map own (filter q xs)))
    by true false f e = absurd (false≢true (f refl))
    by false true f e = omega (arith, e, length-append (own x) (flat_map own (filter q xs)))
    by false false f e = e

module _ (tree : List Directory) (shape : HasTreeShape tree) (limit : ℕ) where
  abbrev pub rolls : Directory → Bool
  rolls dir = can_roll tree limit dir.path

  abbrev pub rolled : List Directory
  rolled = filter (λ dir. can_roll tree limit dir.path) tree

  abbrev pub is_top : Directory → Bool
  is_top dir = not (is_under (filter (λ dir. can_roll tree limit dir.path) tree) [] dir.path)

  abbrev above : Components → Directory → Bool
  above path dir = is_prefix [] dir.path && is_proper_prefix dir.path path

  -- what is below a rolled directory is rolled
  rolls_below : (a p : Components) → is_prefix a p ≡ true → can_roll tree limit a ≡ true → can_roll tree limit p ≡ true
  rolls_below a p h k =
      let both = and_parts (are_covered tree a) (nat_le (rows_below tree a) limit) k in
      and_from (are_covered tree p) (nat_le (rows_below tree p) limit) (covered tree both.0)
      (le-leb (rows_below tree p) limit
      (omega (arith, leb-true (rows_below tree a) limit both.1, rows_below-under tree shape a, rows_below-under tree shape p, parts_fewer own_rows (λ dir. is_prefix p dir.path) (λ dir. is_prefix a dir.path) tree (λ x e. prefix_trans a p x.path h e)))) where
        covered : (ds : List Directory) → list_all (λ dir. not (is_proper_prefix a dir.path) || is_covered tree dir) ds ≡ true → list_all (λ dir. not (is_proper_prefix p dir.path) || is_covered tree dir) ds ≡ true
        covered [] e = refl
        covered (d ∷ ds) e =
            let parts = and_parts (not (is_proper_prefix a d.path) || is_covered tree d) _ e in
            and_from _ _ (by (is_proper_prefix p d.path) refl parts.0) (covered ds parts.1) where
              by : (b : Bool) → is_proper_prefix p d.path ≡ b → (not (is_proper_prefix a d.path) || is_covered tree d) ≡ true → (not b || is_covered tree d) ≡ true
              by false f g = refl
              by true f g = ap (λ c. not c || is_covered tree d) (sym (proper_trans a p d.path h f)) ∙ g

  -- a directory is under a rolled one where its parent is rolled
  pub under_parent : (d p : Directory) → Has tree p → p.path ≡ parent_path d.path → is_empty d.path ≡ false → is_under rolled [] d.path ≡ can_roll tree limit p.path
  under_parent d p there path some = by (can_roll tree limit p.path) refl where
    whole : (q : Components) → is_empty q ≡ false → parent_path q ++ base_name q ∷ [] ≡ q
    whole [] e = absurd (true≢false e)
    whole (n ∷ q) e = all_but_last_and_last (47 ∷ []) n q

    child : d.path ≡ p.path ++ base_name d.path ∷ []
    child = sym (whole d.path some) ∙ ap (λ (q : Components). q ++ base_name d.path ∷ []) (sym path)

    proper : is_proper_prefix p.path d.path ≡ true
    proper =
        and_from (is_prefix p.path d.path) (nat_lt (length p.path) (length d.path)) (ap (is_prefix p.path) child ∙ is_prefix-append p.path (base_name d.path ∷ []))
        (lt-ltb (length p.path) (length d.path) (omega (arith, ap length child, length-append p.path (base_name d.path ∷ []))))

    by : (b : Bool) → can_roll tree limit p.path ≡ b → is_under rolled [] d.path ≡ b
    by true e = any-some (above d.path) rolled p (filter-Has rolls tree p there e) proper
    by false e = any-none (above d.path) rolled (λ a h. false_from_ne_true (above d.path a) (λ k.
        let own = Has-filter rolls tree a h in
        let both = and_parts (is_prefix a.path d.path) (nat_lt (length a.path) (length d.path)) k in
        absurd (true≢false (sym (rolls_below a.path p.path (front a both (prefix_of_child a.path p.path (base_name d.path) (ap (is_prefix a.path) (sym child) ∙ both.0))) own.1) ∙ e)))) where
          front : (a : Directory) → (is_prefix a.path d.path ≡ true) × (nat_lt (length a.path) (length d.path) ≡ true) → (a.path ≡ p.path ++ base_name d.path ∷ []) ⊎ (is_prefix a.path p.path ≡ true) → is_prefix a.path p.path ≡ true
          front a both (inl same) = absurd (let less = ltb-true (length a.path) (length d.path) both.1 in omega (arith, less, ap length (same ∙ sym child)))
          front a both (inr e) = e

  -- the root is under none
  pub under_root : (d : Directory) → is_empty d.path ≡ true → is_under rolled [] d.path ≡ false
  under_root d e = any-none (above d.path) rolled (λ a h. false_from_ne_true (above d.path a) (λ k.
      let both = and_parts (is_prefix a.path d.path) (nat_lt (length a.path) (length d.path)) k in
      let less = ltb-true (length a.path) (length d.path) both.1 in
      absurd (none d.path e less))) where
        none : (p : Components) → is_empty p ≡ true → {n : ℕ} → n < length p → ⊥
        none [] e less = omega (arith, less)
        none (m ∷ p) e less = absurd (true≢false (sym e))

  parent_of : (d : Directory) → Has tree d → (p : Directory) × Has tree p × (p.path ≡ parent_path d.path)
  parent_of d there = has_dir-found tree (parent_path d.path) (list_all-Has (λ dir. has_dir tree (parent_path dir.path)) tree d shape.parents there)

  -- each rolled directory lies at or below one that is under none
  top_of : (n : ℕ) (e : Directory) → Has tree e → can_roll tree limit e.path ≡ true → length e.path < n → (t : Directory) × Has (filter is_top rolled) t × (is_prefix t.path e.path ≡ true)
  top_of zero e there r less = absurd (omega (arith, less))
  top_of (suc n) e there r less = by (λ p h q l. top_of n p h q l) (is_empty e.path) refl where
    itself : is_under rolled [] e.path ≡ false → (t : Directory) × Has (filter is_top rolled) t × (is_prefix t.path e.path ≡ true)
    itself h = (e, filter-Has is_top rolled e (filter-Has rolls tree e there r) (not_from_false (is_under rolled [] e.path) h), itself_prefix e.path) where
      itself_prefix : (q : Components) → is_prefix q q ≡ true
      itself_prefix [] = refl
      itself_prefix (m ∷ q) = and_from (bytes_eq m m) (is_prefix q q) ((bytes_eq-Decides m m).1 refl) (itself_prefix q)

    by : ((p : Directory) → Has tree p → can_roll tree limit p.path ≡ true → length p.path < n → (t : Directory) × Has (filter is_top rolled) t × (is_prefix t.path p.path ≡ true)) → (b : Bool) → is_empty e.path ≡ b → (t : Directory) × Has (filter is_top rolled) t × (is_prefix t.path e.path ≡ true)
    by up true k = itself (under_root e k)
    by up false k = from (parent_of e there) where
      whole : (q : Components) → is_empty q ≡ false → parent_path q ++ base_name q ∷ [] ≡ q
      whole [] m = absurd (true≢false m)
      whole (x ∷ q) m = all_but_last_and_last (47 ∷ []) x q

      from : (p : Directory) × Has tree p × (p.path ≡ parent_path e.path) → (t : Directory) × Has (filter is_top rolled) t × (is_prefix t.path e.path ≡ true)
      from w = on (can_roll tree limit (w.0).path) refl where
        child : e.path ≡ (w.0).path ++ base_name e.path ∷ []
        child = sym (whole e.path k) ∙ ap (λ (q : Components). q ++ base_name e.path ∷ []) (sym w.2)

        on : (c : Bool) → can_roll tree limit (w.0).path ≡ c → (t : Directory) × Has (filter is_top rolled) t × (is_prefix t.path e.path ≡ true)
        on false m = itself (under_parent e w.0 w.1 w.2 k ∙ m)
        on true m =
            let found = up w.0 w.1 m (omega (arith, less, ap length child, length-append (w.0).path (base_name e.path ∷ []))) in
            (found.0, found.1, prefix_trans (found.0).path (w.0).path e.path found.2 (ap (is_prefix (w.0).path) child ∙ is_prefix-append (w.0).path (base_name e.path ∷ [])))

  -- and only one
  tops_over : (e : Directory) → Has tree e → times (λ t. is_prefix t.path e.path) (filter is_top rolled) ≡ cond (can_roll tree limit e.path) 1 0
  tops_over e there = by (can_roll tree limit e.path) refl where
    by : (b : Bool) → can_roll tree limit e.path ≡ b → times (λ t. is_prefix t.path e.path) (filter is_top rolled) ≡ cond b 1 0
    by false r = none_times (λ t. is_prefix t.path e.path) (filter is_top rolled) (any-none (λ t. is_prefix t.path e.path) (filter is_top rolled) (λ t h. false_from_ne_true (is_prefix t.path e.path) (λ k.
        let own = Has-filter rolls tree t (Has-filter is_top rolled t h).0 in
        absurd (true≢false (sym (rolls_below t.path e.path k own.1) ∙ r)))))
    by true r =
        let top = top_of (suc (length e.path)) e there r (omega arith) in
        times_same (λ t. is_prefix t.path e.path) (λ t. path_eq (top.0).path t.path) (filter is_top rolled) (λ t h. one top.0 t top.1 h top.2)
        ∙ times_filter (λ t. path_eq (top.0).path t.path) (filter is_top rolled)
        ∙ ap length (filter-path_eq (filter is_top rolled) top.0 (AreDistinct-filter is_top rolled (AreDistinct-filter rolls tree (distinct tree shape.order))) top.1) where
          not_above : (s t : Directory) → Has (filter is_top rolled) s → Has (filter is_top rolled) t → is_prefix s.path t.path ≡ true → s.path ≡ t.path
          not_above s t hs ht pre = proper_or_same s.path t.path pre (false_from_ne_true (is_proper_prefix s.path t.path) (λ k.
              let under : is_under rolled [] t.path ≡ true = any-some (above t.path) rolled s (Has-filter is_top rolled s hs).0 k in
              absurd (true≢false (sym under ∙ not-true (is_under rolled [] t.path) (Has-filter is_top rolled t ht).1))))

          same_of : (s t : Directory) → Has (filter is_top rolled) s → Has (filter is_top rolled) t → (is_prefix s.path t.path ≡ true) ⊎ (is_prefix t.path s.path ≡ true) → s.path ≡ t.path
          same_of s t hs ht (inl p) = not_above s t hs ht p
          same_of s t hs ht (inr p) = sym (not_above t s ht hs p)

          one : (s t : Directory) → Has (filter is_top rolled) s → Has (filter is_top rolled) t → is_prefix s.path e.path ≡ true → is_prefix t.path e.path ≡ path_eq s.path t.path
          one s t hs ht pre = on (is_prefix t.path e.path) refl where
            on : (b : Bool) → is_prefix t.path e.path ≡ b → b ≡ path_eq s.path t.path
            on true k = sym ((path_eq-Decides s.path t.path).1 (same_of s t hs ht (comparable s.path t.path e.path pre k)))
            on false k = sym (false_from_ne_true (path_eq s.path t.path) (λ q. absurd (true≢false (sym (ap (λ (c : Components). is_prefix c e.path) (sym ((path_eq-Decides s.path t.path).0 q)) ∙ pre) ∙ k))))

  -- the rows at and below the tops are those of all rolled directories
  pub rows_of_tops : sum_by (λ dir. rows_below tree dir.path) (top_dirs rolled) ≡ length (flat_map own_rows rolled)
  rows_of_tops =
      sums (top_dirs rolled) ∙ sym (length-flat_map (λ t. rows_under tree t.path) (filter is_top rolled))
      ∙ parts_all own_rows (λ t dir. is_prefix t.path dir.path) (filter is_top rolled) rolls tree tops_over where
        sums : (ts : List Directory) → sum_by (λ dir. rows_below tree dir.path) ts ≡ sum_by (λ t. length (rows_under tree t.path)) ts
        sums [] = refl
        sums (t ∷ ts) =
            sum_by-cons (λ dir. rows_below tree dir.path) t ts ∙ ap (λ n. n + sum_by (λ dir. rows_below tree dir.path) ts) (rows_below-under tree shape t.path)
            ∙ ap (λ n. length (rows_under tree t.path) + n) (sums ts) ∙ sym (sum_by-cons (λ v. length (rows_under tree v.path)) t ts)

-- ---- by places

rolled_cons : (x : Directory) (xs : List Directory) (b : Bool) (bs : List Bool) → rolled_dirs (x ∷ xs) (b ∷ bs) ≡ cond b (x ∷ rolled_dirs xs bs) (rolled_dirs xs bs)
rolled_cons x xs true bs = refl
rolled_cons x xs false bs = refl

rolled_more : (tree : List Directory) (flags : List Bool) (i : ℕ) (d : Directory) → length flags ≡ length tree → i < length tree
    → rolled_dirs (take (i + 1) tree) (take (i + 1) flags) ≡ rolled_dirs (take i tree) (take i flags) ++ cond (get_or flags i false) (get_or tree i d ∷ []) []
rolled_more [] flags i d len lt = absurd (omega arith)
rolled_more (x ∷ xs) [] i d len lt = absurd (omega (arith, len))
rolled_more (x ∷ xs) (b ∷ bs) zero d len lt = by b where
  by : (c : Bool) → rolled_dirs (x ∷ []) (c ∷ []) ≡ cond c (x ∷ []) []
  by true = refl
  by false = refl
rolled_more (x ∷ xs) (b ∷ bs) (suc i) d len lt =
    let e : suc i + 1 ≡ suc (i + 1) = omega arith in
    ap (λ n. rolled_dirs (take n (x ∷ xs)) (take n (b ∷ bs))) e ∙ rolled_cons x (take (i + 1) xs) b (take (i + 1) bs)
    ∙ by b (rolled_more xs bs i d (omega (arith, len)) (omega (arith, lt))) where
      by : (c : Bool) → rolled_dirs (take (i + 1) xs) (take (i + 1) bs) ≡ rolled_dirs (take i xs) (take i bs) ++ cond (get_or bs i false) (get_or xs i d ∷ []) []
          → cond c (x ∷ rolled_dirs (take (i + 1) xs) (take (i + 1) bs)) (rolled_dirs (take (i + 1) xs) (take (i + 1) bs))
          ≡ rolled_dirs (x ∷ take i xs) (c ∷ take i bs) ++ cond (get_or bs i false) (get_or xs i d ∷ []) []
      by true h = ap (λ (ds : List Directory). x ∷ ds) h
      by false h = h

-- no more of them than of the first, and no more rows than of all
rolled_few : (tree : List Directory) (flags : List Bool) (i : ℕ) → length (rolled_dirs (take i tree) (take i flags)) ≤ i
rolled_few tree flags zero = none tree flags where
  none : (ds : List Directory) (bs : List Bool) → length (rolled_dirs (take 0 ds) (take 0 bs)) ≤ 0
  none ds bs = omega arith
rolled_few [] flags (suc i) = omega arith
rolled_few (x ∷ xs) [] (suc i) = omega arith
rolled_few (x ∷ xs) (b ∷ bs) (suc i) = omega (arith, ap length (rolled_cons x (take i xs) b (take i bs)), by b (rolled_few xs bs i)) where
  by : (c : Bool) → length (rolled_dirs (take i xs) (take i bs)) ≤ i → length (cond c (x ∷ rolled_dirs (take i xs) (take i bs)) (rolled_dirs (take i xs) (take i bs))) ≤ suc i
  by true h = omega (arith, h)
  by false h = omega (arith, h)

rows_few : (tree : List Directory) (flags : List Bool) (i : ℕ) → length (flat_map own_rows (rolled_dirs (take i tree) (take i flags))) ≤ length (flat_map own_rows tree)
rows_few tree flags zero = omega arith
rows_few [] flags (suc i) = omega arith
rows_few (x ∷ xs) [] (suc i) = omega arith
rows_few (x ∷ xs) (b ∷ bs) (suc i) =
    omega (arith, ap (λ (ds : List Directory). length (flat_map own_rows ds)) (rolled_cons x (take i xs) b (take i bs)), by b (rows_few xs bs i), length-append (own_rows x) (flat_map own_rows xs)) where
      by : (c : Bool) → length (flat_map own_rows (rolled_dirs (take i xs) (take i bs))) ≤ length (flat_map own_rows xs)
          → length (flat_map own_rows (cond c (x ∷ rolled_dirs (take i xs) (take i bs)) (rolled_dirs (take i xs) (take i bs)))) ≤ length (own_rows x) + length (flat_map own_rows xs)
      by true h = omega (arith, h, length-append (own_rows x) (flat_map own_rows (rolled_dirs (take i xs) (take i bs))))
      by false h = omega (arith, h)

few_kept : (q : Directory → Bool) (ds : List Directory) → length (filter q ds) ≤ length ds
few_kept q [] = omega arith
few_kept q (d ∷ ds) = by (q d) (few_kept q ds) where
  by : (b : Bool) → length (filter q ds) ≤ length ds → length (cond b (d ∷ filter q ds) (filter q ds)) ≤ suc (length ds)
  by true h = omega (arith, h)
  by false h = omega (arith, h)

module _ (tree : List Directory) (flags : List Bool) (i : ℕ) (d : Directory) (len : length flags ≡ length tree) (lt : i < length tree) (r : RollReport) (h : IsReport tree flags i r) where
  abbrev top : Directory → Bool
  top dir = not (is_under (rolled_dirs tree flags) [] dir.path)

  length_own : (e : Directory) → length (own_rows e) ≡ length e.entries + 1
  length_own e = omega (arith, length-map e.entries (entry_row e.path))

  -- a directory that is not rolled
  pub report_same : get_or flags i false ≡ false → IsReport tree flags (i + 1) r
  report_same off =
      let e : rolled_dirs (take (i + 1) tree) (take (i + 1) flags) ≡ rolled_dirs (take i tree) (take i flags) =
      rolled_more tree flags i d len lt ∙ ap (λ b. rolled_dirs (take i tree) (take i flags) ++ cond b (get_or tree i d ∷ []) []) off ∙ append-nil (rolled_dirs (take i tree) (take i flags)) in
      record {
        dirs = h.dirs;
        rolled = h.rolled ∙ ap length (sym e);
        tops = h.tops ∙ ap (λ (ds : List Directory). length (filter top ds)) (sym e);
        rows = h.rows ∙ ap (λ (ds : List Directory). length (flat_map own_rows ds)) (sym e);
      }

  module _ (on : get_or flags i false ≡ true) where
    grown : rolled_dirs (take (i + 1) tree) (take (i + 1) flags) ≡ rolled_dirs (take i tree) (take i flags) ++ get_or tree i d ∷ []
    grown = rolled_more tree flags i d len lt ∙ ap (λ b. rolled_dirs (take i tree) (take i flags) ++ cond b (get_or tree i d ∷ []) []) on

    grown_rows : length (flat_map own_rows (rolled_dirs (take (i + 1) tree) (take (i + 1) flags))) ≡ length (flat_map own_rows (rolled_dirs (take i tree) (take i flags))) + (length (get_or tree i d).entries + 1)
    grown_rows =
        let a = ap (λ (ds : List Directory). length (flat_map own_rows ds)) grown in
        omega (arith, a, split (rolled_dirs (take i tree) (take i flags)) (get_or tree i d), length_own (get_or tree i d)) where
          split : (ds : List Directory) (x : Directory) → length (flat_map own_rows (ds ++ x ∷ [])) ≡ length (flat_map own_rows ds) + length (own_rows x)
          split [] x = omega (arith, length-append (own_rows x) [])
          split (y ∷ ds) x = omega (arith, split ds x, length-append (own_rows y) (flat_map own_rows (ds ++ x ∷ [])), length-append (own_rows y) (flat_map own_rows ds))

    grown_tops : length (filter top (rolled_dirs (take (i + 1) tree) (take (i + 1) flags))) ≡ length (filter top (rolled_dirs (take i tree) (take i flags))) + cond (top (get_or tree i d)) 1 0
    grown_tops =
        let a = ap (λ (ds : List Directory). length (filter top ds)) grown in
        omega (arith, a, split (rolled_dirs (take i tree) (take i flags)) (get_or tree i d)) where
          split : (ds : List Directory) (x : Directory) → length (filter top (ds ++ x ∷ [])) ≡ length (filter top ds) + cond (top x) 1 0
          split [] x = by (top x) where
            by : (b : Bool) → length (cond b (x ∷ []) []) ≡ 0 + cond b 1 0
            by true = omega arith
            by false = omega arith
          split (y ∷ ds) x = by (top y) (split ds x) where
            by : (b : Bool) → length (filter top (ds ++ x ∷ [])) ≡ length (filter top ds) + cond (top x) 1 0
                → length (cond b (y ∷ filter top (ds ++ x ∷ [])) (filter top (ds ++ x ∷ []))) ≡ length (cond b (y ∷ filter top ds) (filter top ds)) + cond (top x) 1 0
            by true e = omega (arith, e)
            by false e = omega (arith, e)

    pub report_more : (under : Bool) (n one : ℕ) → under ≡ is_under (rolled_dirs tree flags) [] (get_or tree i d).path → n ≡ length (get_or tree i d).entries → one ≡ cond (not under) 1 0
        → IsReport tree flags (i + 1) (record { dirs = r.dirs; rolled = r.rolled + 1; tops = r.tops + one; rows = r.rows + (n + 1) })
    report_more under n one e f g =
        record {
          dirs = h.dirs;
          rolled = (let a = ap length grown in omega (arith, a, h.rolled, length-append (rolled_dirs (take i tree) (take i flags)) (get_or tree i d ∷ [])));
          tops = (let a = ap (λ b. cond {A = ℕ} (not b) 1 0) e in omega (arith, h.tops, grown_tops, a, g));
          rows = omega (arith, h.rows, grown_rows, f);
        }

    -- the sums so far fit
    pub rolled_fits : (n : ℕ) → length tree < n → r.rolled + 1 < n
    rolled_fits n few = omega (arith, h.rolled, rolled_few tree flags i, few, lt)

    pub tops_fit : (n : ℕ) → length tree < n → r.tops + 1 < n
    tops_fit n few = omega (arith, h.tops, few_kept top (rolled_dirs (take i tree) (take i flags)), rolled_few tree flags i, few, lt)

    pub rows_fit : (m n : ℕ) → m ≡ length (get_or tree i d).entries → length (flat_map own_rows tree) < n → r.rows + (m + 1) < n
    rows_fit m n e few = omega (arith, e, h.rows, grown_rows, rows_few tree flags (i + 1), few)

pub flags_len : (tree : List Directory) (flags : List Bool) → AreFlags tree flags → length flags ≡ length tree
flags_len tree flags known = ap length known.same ∙ length-map tree (λ dir. can_roll tree known.limit dir.path)

abbrev report_of : ℕ → ℕ → ℕ → ℕ → RollReport
report_of a b c d = record { dirs = a; rolled = b; tops = c; rows = d }

-- what was counted of all directories
pub report_done : (tree : List Directory) (shape : HasTreeShape tree) (flags : List Bool) (known : AreFlags tree flags) (i : ℕ) (r : RollReport) → length tree ≤ i → IsReport tree flags i r → r ≡ roll_report tree flags
report_done tree shape flags known i r end h =
    let len : length flags ≡ length tree = ap length known.same ∙ length-map tree (λ dir. can_roll tree known.limit dir.path) in
    let a : take i tree ≡ tree = take_all i tree end in
    let b : take i flags ≡ flags = take_all i flags (omega (arith, len, end)) in
    let all : rolled_dirs (take i tree) (take i flags) ≡ rolled_dirs tree flags = ap (λ (ds : List Directory). rolled_dirs ds (take i flags)) a ∙ ap (rolled_dirs tree) b in
    let are : rolled_dirs tree flags ≡ filter (λ dir. can_roll tree known.limit dir.path) tree = ap (rolled_dirs tree) known.same ∙ rolled_are (λ dir. can_roll tree known.limit dir.path) tree in
    let sums : length (flat_map own_rows (rolled_dirs tree flags)) ≡ sum_by (λ dir. rows_below tree dir.path) (top_dirs (rolled_dirs tree flags)) =
    ap (λ (ds : List Directory). length (flat_map own_rows ds)) are ∙ sym (rows_of_tops tree shape known.limit) ∙ ap (λ (ds : List Directory). sum_by (λ dir. rows_below tree dir.path) (top_dirs ds)) (sym are) in
    by r h.dirs (h.rolled ∙ ap length all) (h.tops ∙ ap (λ (ds : List Directory). length (filter (λ dir. not (is_under (rolled_dirs tree flags) [] dir.path)) ds)) all)
    (h.rows ∙ ap (λ (ds : List Directory). length (flat_map own_rows ds)) all ∙ sums) where
      equal_parts : (a b c d e f g j : ℕ) → a ≡ b → c ≡ d → e ≡ f → g ≡ j → report_of a c e g ≡ report_of b d f j
      equal_parts a b c d e f g j p q s t = ap (λ n. report_of n c e g) p ∙ ap (λ n. report_of b n e g) q ∙ ap (λ n. report_of b d n g) s ∙ ap (λ n. report_of b d f n) t

      by : (q : RollReport) → q.dirs ≡ length tree → q.rolled ≡ length (rolled_dirs tree flags) → q.tops ≡ length (top_dirs (rolled_dirs tree flags))
          → q.rows ≡ sum_by (λ dir. rows_below tree dir.path) (top_dirs (rolled_dirs tree flags)) → q ≡ roll_report tree flags
      by q e f g k = equal_parts q.dirs (length tree) q.rolled (length (rolled_dirs tree flags)) q.tops (length (top_dirs (rolled_dirs tree flags))) q.rows _ e f g k

-- ---- whether the directory at a place lies under a rolled one
module _ (tree : List Directory) (shape : HasTreeShape tree) (flags : List Bool) (known : AreFlags tree flags) (k : ℕ) (d : Directory) (lt : k < length tree) where
  are_rolled : rolled_dirs tree flags ≡ filter (λ dir. can_roll tree known.limit dir.path) tree
  are_rolled = ap (rolled_dirs tree) known.same ∙ rolled_are (λ dir. can_roll tree known.limit dir.path) tree

  under_same : is_under (rolled_dirs tree flags) [] (get_or tree k d).path ≡ is_under (filter (λ dir. can_roll tree known.limit dir.path) tree) [] (get_or tree k d).path
  under_same = ap (λ (ds : List Directory). is_under ds [] (get_or tree k d).path) are_rolled

  root_path : (get_or tree 0 d).path ≡ []
  root_path = sym (path_at-get tree 0 d (omega (arith, lt))) ∙ root_first tree shape.order shape.root

  not_root : (k ≡ 0 → ⊥) → is_empty (get_or tree k d).path ≡ false
  not_root some =
      some_name (get_or tree k d).path (ap (λ (p : Components). path_cmp p (get_or tree k d).path) (sym root_path) ∙ in_order tree shape.order 0 k d (above_zero k some) lt) where
        above_zero : (n : ℕ) → (n ≡ 0 → ⊥) → 0 < n
        above_zero zero f = absurd (f refl)
        above_zero (suc n) f = omega arith

        some_name : (p : Components) → path_cmp [] p ≡ Less → is_empty p ≡ false
        some_name [] e = let no : Equal ≡ Less = e in cc
        some_name (n ∷ p) e = refl

  same_place : (get_or tree k d).path ≡ path_at tree k
  same_place = sym (path_at-get tree k d lt)

  parent_is_there : is_some (place_of tree (parent_path (get_or tree k d).path)) ≡ true
  parent_is_there = some_place tree (parent_path (get_or tree k d).path) shape.order (list_all-get (λ v. has_dir tree (parent_path v.path)) tree k d shape.parents lt)

  pub under_none : parent_id tree k ≡ None → false ≡ is_under (rolled_dirs tree flags) [] (get_or tree k d).path
  under_none e = by (cases_eq k 0) where
    by : (k ≡ 0) ⊎ (k ≡ 0 → ⊥) → false ≡ is_under (rolled_dirs tree flags) [] (get_or tree k d).path
    by (inl z) = sym (under_same ∙ under_root tree shape known.limit (get_or tree k d) (ap (λ n. is_empty (get_or tree n d).path) z ∙ ap (λ (p : Components). is_empty p) root_path))
    by (inr some) = absurd (none (place_of tree (parent_path (path_at tree k))) (ap (λ (p : Components). is_some (place_of tree (parent_path p))) (sym same_place) ∙ parent_is_there)
        (cond-at (eqb k 0) (ne_eqb k 0 some) e)) where
          cond-at : (b : Bool) → b ≡ false → cond b None (option_map dir_id (place_of tree (parent_path (path_at tree k)))) ≡ None → option_map dir_id (place_of tree (parent_path (path_at tree k))) ≡ None
          cond-at false f g = g
          cond-at true f g = absurd (true≢false f)

          none : (o : Option ℕ) → is_some o ≡ true → option_map dir_id o ≡ None → ⊥
          none None f g = absurd (false≢true f)
          none (Some j) f g = cc

  pub under_some : (id : DirId) → parent_id tree k ≡ Some id → get_or flags id.0 false ≡ is_under (rolled_dirs tree flags) [] (get_or tree k d).path
  under_some id e = by (cases_eq k 0) where
    by : (k ≡ 0) ⊎ (k ≡ 0 → ⊥) → get_or flags id.0 false ≡ is_under (rolled_dirs tree flags) [] (get_or tree k d).path
    by (inl z) = absurd (at_root (eqb k 0) (eq-eqb k 0 z) e) where
      at_root : (b : Bool) → b ≡ true → cond b None (option_map dir_id (place_of tree (parent_path (path_at tree k)))) ≡ Some id → ⊥
      at_root true f g = cc
      at_root false f g = absurd (false≢true f)
    by (inr some) =
        let place : place_of tree (parent_path (get_or tree k d).path) ≡ Some id.0 = ap (λ (p : Components). place_of tree (parent_path p)) same_place ∙ from (eqb k 0) (ne_eqb k 0 some) (place_of tree (parent_path (path_at tree k))) e in
        let parent = parent_before tree shape k id.0 d lt (not_root some) place in
        let within : id.0 < length tree = omega (arith, parent.0, lt) in
        ap (λ (bs : List Bool). get_or bs id.0 false) known.same ∙ get_or-map (λ (dir : Directory). can_roll tree known.limit dir.path) tree id.0 d false within
        ∙ sym (under_parent tree shape known.limit (get_or tree k d) (get_or tree id.0 d) (Has-get_or tree id.0 d within) parent.1 (not_root some)) ∙ sym under_same where
          from : (b : Bool) → b ≡ false → (o : Option ℕ) → cond b None (option_map dir_id o) ≡ Some id → o ≡ Some id.0
          from true f o g = absurd (true≢false f)
          from false f None g = cc
          from false f (Some j) g = ap Some (ap (λ (v : Option DirId). elim v [ None ↦ j | Some w ↦ w.0 ]) g)
