-- Where parents stand in a tree with a subtree replaced.
use Rattle.std.proofs.Common.{◌≡◌, ℕ, ◌+◌, ◌-◌, ◌<◌, ◌≤◌, Bool, true, false, not, cond, ltb, List, [], ◌∷◌, ◌++◌, length, map, take, drop, get_or, refl, sym, ap, ◌∙◌, subst, arith, length-drop}
use Rattle.std.specs.declared.cmp.Ordering.TheVariants.{Less, Equal}
use Rattle.std.proofs.lemmas.Bool.{true≢false, not-true, ltb-true, ltb-false, le-ltb}
use Rattle.std.proofs.lemmas.List.{append-nil, get_or-map, get_or_append_left, get_or-append-add, get_or-take, get_or-drop, length-append, length-map, length-take-le, map-append, take-map, drop-map}
use Rattle.std.proofs.lemmas.List.Quantifiers.{position-Some}
use Rattle.gufi_base.specs.Paths.{Components, path_cmp, parent_path, is_prefix}
use Rattle.gufi_base.proofs.Cuts.{all_but_last-append}
use Rattle.gufi_base.proofs.Prefixes.{prefix_stands_before}
use Rattle.gufi_tree.specs.Bundled.{no_directory}
use Rattle.gufi_tree.specs.Graft.{put_below, graft, moved, graft_parents}
use Rattle.gufi_tree.specs.Kept.{HasParents}
use Rattle.gufi_tree.specs.Places.{path_at}
use Rattle.gufi_tree.specs.Tree.{Directory, is_at, HasTreeShape}
use Rattle.gufi_tree.proofs.Below.{below_dirs}
use Rattle.gufi_tree.proofs.Built.{Has, path_eq-Decides}
use Rattle.gufi_tree.proofs.Descent.{split_last}
use Rattle.gufi_tree.proofs.Filters.{Has-filter, filter-Has}
use Rattle.gufi_tree.proofs.Flat.{is_prefix-append}
use Rattle.gufi_tree.proofs.Grafted.{grafted, replaced, replaced_ascends}
use Rattle.gufi_tree.proofs.GraftShape.{at_right, from_parent}
use Rattle.gufi_tree.proofs.Kids.{Has-get_or, at_place}
use Rattle.gufi_tree.proofs.Linked.{path_at-get, place_within, root_first}
use Rattle.gufi_tree.proofs.Ranges.{other_dirs, own_prefix, below_range, below_within, other_range}
use Rattle.gufi_tree.proofs.Searched.{in_order, place_of-at}

-- ---- a parent's place

parent_leads : (q : Components) → is_prefix (parent_path q) q ≡ true
parent_leads [] = refl
parent_leads (n ∷ q) =
    let last = split_last (n ∷ q) refl in
    ap (is_prefix (parent_path (n ∷ q))) last.1 ∙ is_prefix-append (parent_path (n ∷ q)) (last.0 ∷ [])

module _ (tree : List Directory) (ps : List ℕ) (shape : HasTreeShape tree) (h : HasParents tree ps) (k : ℕ) (lt : k < length tree) where
  parent_within : get_or ps k 0 < length tree
  parent_within = place_within tree (parent_path (path_at tree k)) (get_or ps k 0) (h.each k lt)

  parent_is : path_at tree (get_or ps k 0) ≡ parent_path (path_at tree k)
  parent_is =
      let found = (position-Some (is_at (parent_path (path_at tree k))) tree (get_or ps k 0) no_directory (h.each k lt)).1 in
      path_at-get tree (get_or ps k 0) no_directory parent_within ∙ sym ((path_eq-Decides (parent_path (path_at tree k)) (get_or tree (get_or ps k 0) no_directory).path).0 found)

  -- no parent stands behind its directory
  parent_before : get_or ps k 0 ≤ k
  parent_before = by (ltb k (get_or ps k 0)) refl where
    by : (b : Bool) → ltb k (get_or ps k 0) ≡ b → get_or ps k 0 ≤ k
    by false e = ltb-false k (get_or ps k 0) e
    by true e =
        let later = in_order tree shape.order k (get_or ps k 0) no_directory (ltb-true k (get_or ps k 0) e) parent_within in
        let own = path_at-get tree k no_directory lt in
        let above = sym (path_at-get tree (get_or ps k 0) no_directory parent_within) ∙ parent_is in
        absurd (prefix_stands_before (parent_path (path_at tree k)) (path_at tree k) (parent_leads (path_at tree k))
        (ap (λ (q : Components). path_cmp q (parent_path (path_at tree k))) own ∙ ap (path_cmp (get_or tree k no_directory).path) (sym above) ∙ later))

-- ---- which directories are replaced

module _ (tree : List Directory) (at : ℕ) (shape : HasTreeShape tree) (within : at < length tree) where
  abbrev below_count : ℕ
  below_count = length (below_dirs tree (path_at tree at))

  replaced_below : (m : ℕ) → at ≤ m → m < at + below_count → is_prefix (path_at tree at) (path_at tree m) ≡ true
  replaced_below m behind before =
      let p = path_at tree at in
      let all = below_within tree at shape.order within in
      let some : m - at < below_count = omega arith in
      let there : at + (m - at) ≡ m = omega arith in
      let is : get_or (below_dirs tree p) (m - at) no_directory ≡ get_or tree m no_directory =
      ap (λ (ds : List Directory). get_or ds (m - at) no_directory) (below_range tree at shape.order within) ∙ get_or-take below_count (drop at tree) (m - at) no_directory some
      ∙ get_or-drop at tree (m - at) no_directory ∙ ap (λ (i : ℕ). get_or tree i no_directory) there in
      let found = (Has-filter (λ (d : Directory). is_prefix p d.path) tree _ (Has-get_or (below_dirs tree p) (m - at) no_directory some)).1 in
      ap (is_prefix p) (path_at-get tree m no_directory (omega arith)) ∙ ap (λ (d : Directory). is_prefix p d.path) (sym is) ∙ found

  rest_outside : (m : ℕ) → at + below_count ≤ m → m < length tree → is_prefix (path_at tree at) (path_at tree m) ≡ false
  rest_outside m behind lt =
      let p = path_at tree at in
      let there : at + below_count + (m - (at + below_count)) ≡ m = omega arith in
      let size = length-drop (at + below_count) tree in
      let is : get_or (drop (at + below_count) tree) (m - (at + below_count)) no_directory ≡ get_or tree m no_directory =
      get_or-drop (at + below_count) tree (m - (at + below_count)) no_directory ∙ ap (λ (i : ℕ). get_or tree i no_directory) there in
      let has : Has (other_dirs tree p) (get_or (drop (at + below_count) tree) (m - (at + below_count)) no_directory) =
      subst (λ (ds : List Directory). Has ds (get_or (drop (at + below_count) tree) (m - (at + below_count)) no_directory)) (sym (other_range tree at shape.order within))
      (at_right (take at tree) (drop (at + below_count) tree) _ (Has-get_or (drop (at + below_count) tree) (m - (at + below_count)) no_directory (omega arith))) in
      let found = not-true _ (Has-filter (λ (d : Directory). not (is_prefix p d.path)) tree _ has).1 in
      ap (is_prefix p) (path_at-get tree m no_directory lt) ∙ ap (λ (d : Directory). is_prefix p d.path) (sym is) ∙ found

-- ---- elements of three lists, one after the other

module _ {X : Type 0} (xs ys zs : List X) (d : X) where
  in_first : (k : ℕ) → k < length xs → get_or (xs ++ (ys ++ zs)) k d ≡ get_or xs k d
  in_first k lt = get_or_append_left xs (ys ++ zs) d k lt

  in_second : (n j : ℕ) → length xs ≡ n → j < length ys → get_or (xs ++ (ys ++ zs)) (n + j) d ≡ get_or ys j d
  in_second n j is lt = ap (λ (m : ℕ). get_or (xs ++ (ys ++ zs)) (m + j) d) (sym is) ∙ get_or-append-add xs (ys ++ zs) j d ∙ get_or_append_left ys zs d j lt

  in_third : (n i : ℕ) → length xs + length ys ≡ n → get_or (xs ++ (ys ++ zs)) (n + i) d ≡ get_or zs i d
  in_third n i is =
      let e : n + i ≡ length xs + (length ys + i) = omega (arith, is) in
      ap (λ (m : ℕ). get_or (xs ++ (ys ++ zs)) m d) e ∙ get_or-append-add xs (ys ++ zs) (length ys + i) d ∙ get_or-append-add ys zs i d

-- ---- the graft's paths and its parents

module _ (tree part : List Directory) (at : ℕ) (shape : HasTreeShape tree) (own : HasTreeShape part) (within : at < length tree) where
  abbrev end : ℕ
  end = at + below_count tree at shape within

  abbrev made : List Directory
  made = replaced tree at part

  abbrev paths : List Directory → List Components
  paths ds = map (λ (d : Directory). d.path) ds

  abbrev below : Components → Components
  below q = path_at tree at ++ q

  made_paths : paths made ≡ take at (paths tree) ++ (map below (paths part) ++ drop end (paths tree))
  made_paths =
      map-append (λ (d : Directory). d.path) (take at tree) (map (put_below (path_at tree at)) part ++ drop end tree)
      ∙ ap (λ (qs : List Components). qs ++ paths (map (put_below (path_at tree at)) part ++ drop end tree)) (sym (take-map (λ (d : Directory). d.path) at tree))
      ∙ ap (λ (qs : List Components). take at (paths tree) ++ qs) (map-append (λ (d : Directory). d.path) (map (put_below (path_at tree at)) part) (drop end tree)
      ∙ ap (λ (qs : List Components). qs ++ paths (drop end tree)) (of_part part)
      ∙ ap (λ (qs : List Components). map below (paths part) ++ qs) (sym (drop-map (λ (d : Directory). d.path) end tree)))
    where
      of_part : (ds : List Directory) → paths (map (put_below (path_at tree at)) ds) ≡ map below (paths ds)
      of_part [] = refl
      of_part (d ∷ ds) = ap (λ (qs : List Components). below d.path ∷ qs) (of_part ds)

  size_tree : length (paths tree) ≡ length tree
  size_tree = length-map tree (λ (d : Directory). d.path)

  size_part : length (paths part) ≡ length part
  size_part = length-map part (λ (d : Directory). d.path)

  size_front : length (take at (paths tree)) ≡ at
  size_front = length-take-le at (paths tree) (omega (arith, size_tree, within))

  size_below : length (map below (paths part)) ≡ length part
  size_below = length-map (paths part) below ∙ size_part

  path_before : (k : ℕ) → k < at → path_at made k ≡ path_at tree k
  path_before k lt =
      ap (λ (qs : List Components). get_or qs k []) made_paths ∙ in_first (take at (paths tree)) (map below (paths part)) (drop end (paths tree)) [] k (omega (arith, size_front, lt))
      ∙ get_or-take at (paths tree) k [] lt

  path_inside : (j : ℕ) → j < length part → path_at made (at + j) ≡ below (path_at part j)
  path_inside j lt =
      ap (λ (qs : List Components). get_or qs (at + j) []) made_paths ∙ in_second (take at (paths tree)) (map below (paths part)) (drop end (paths tree)) [] at j size_front (omega (arith, size_below, lt))
      ∙ get_or-map below (paths part) j [] [] (omega (arith, size_part, lt))

  path_behind : (i : ℕ) → path_at made (at + length part + i) ≡ path_at tree (end + i)
  path_behind i =
      ap (λ (qs : List Components). get_or qs (at + length part + i) []) made_paths ∙ in_third (take at (paths tree)) (map below (paths part)) (drop end (paths tree)) [] (at + length part) i (omega (arith, size_front, size_below))
      ∙ get_or-drop end (paths tree) i []

  some_part : 0 < length part
  some_part = by part own where
    by : (ds : List Directory) → HasTreeShape ds → 0 < length ds
    by [] s = absurd (true≢false (sym s.root))
    by (d ∷ ds) s = omega arith

  -- the root of the part has the path that it takes
  path_up_to : (k : ℕ) → k ≤ at → path_at made k ≡ path_at tree k
  path_up_to k le = by (ltb k at) refl where
    by : (b : Bool) → ltb k at ≡ b → path_at made k ≡ path_at tree k
    by true e = path_before k (ltb-true k at e)
    by false e =
        let more = ltb-false k at e in
        let same : k ≡ at + 0 = omega arith in
        let here : at ≡ k = omega arith in
        ap (path_at made) same ∙ path_inside 0 some_part ∙ ap below (root_first part own.order own.root) ∙ append-nil (path_at tree at) ∙ ap (path_at tree) here

  size_made : length made ≡ at + length part + (length tree - end)
  size_made =
      let a = length-append (take at tree) (map (put_below (path_at tree at)) part ++ drop end tree) in
      let b = length-append (map (put_below (path_at tree at)) part) (drop end tree) in
      let c = length-take-le at tree (omega (arith, within)) in
      let d = length-map part (put_below (path_at tree at)) in
      let e = length-drop end tree in
      omega arith

  module _ (ps qs : List ℕ) (h : HasParents tree ps) (g : HasParents part qs) where
    abbrev parents : List ℕ
    parents = graft_parents ps at end qs

    size_up_to : length (take (at + 1) ps) ≡ at + 1
    size_up_to = length-take-le (at + 1) ps (omega (arith, h.len, within))

    size_inside : length (map (moved 0 at) (drop 1 qs)) ≡ length part - 1
    size_inside = let a = length-map (drop 1 qs) (moved 0 at) in let b = length-drop 1 qs in let c = g.len in omega arith

    size_behind : length (map (moved end (at + length qs)) (drop end ps)) ≡ length tree - end
    size_behind = let a = length-map (drop end ps) (moved end (at + length qs)) in let b = length-drop end ps in let c = h.len in omega arith

    size_parents : length parents ≡ length made
    size_parents =
        let a = length-append (take (at + 1) ps) (map (moved 0 at) (drop 1 qs) ++ map (moved end (at + length qs)) (drop end ps)) in
        let b = length-append (map (moved 0 at) (drop 1 qs)) (map (moved end (at + length qs)) (drop end ps)) in
        omega (arith, size_up_to, size_inside, size_behind, size_made, some_part, a, b)

    parent_up_to : (k : ℕ) → k ≤ at → get_or parents k 0 ≡ get_or ps k 0
    parent_up_to k le =
        in_first (take (at + 1) ps) (map (moved 0 at) (drop 1 qs)) (map (moved end (at + length qs)) (drop end ps)) 0 k (omega (arith, size_up_to, le)) ∙ get_or-take (at + 1) ps k 0 (omega (arith, le))

    parent_inside : (j : ℕ) → 0 < j → j < length part → get_or parents (at + j) 0 ≡ at + get_or qs j 0
    parent_inside j some lt =
        let there : at + j ≡ at + 1 + (j - 1) = omega arith in
        let one : 1 + (j - 1) ≡ j = omega arith in
        let size = length-drop 1 qs in
        let len = g.len in
        ap (λ (m : ℕ). get_or parents m 0) there
        ∙ in_second (take (at + 1) ps) (map (moved 0 at) (drop 1 qs)) (map (moved end (at + length qs)) (drop end ps)) 0 (at + 1) (j - 1) size_up_to (omega (arith, size_inside, some, lt))
        ∙ get_or-map (moved 0 at) (drop 1 qs) (j - 1) 0 0 (omega arith)
        ∙ ap (moved 0 at) (get_or-drop 1 qs (j - 1) 0 ∙ ap (λ (m : ℕ). get_or qs m 0) one)
        ∙ from_root (get_or qs j 0)
      where
        from_root : (n : ℕ) → moved 0 at n ≡ at + n
        from_root n = ap (λ (b : Bool). cond b n (n - 0 + at)) (le-ltb n 0 (omega arith)) ∙ (let e : n - 0 + at ≡ at + n = omega arith in e)

    parent_behind : (i : ℕ) → i < length tree - end → get_or parents (at + length part + i) 0 ≡ moved end (at + length part) (get_or ps (end + i) 0)
    parent_behind i lt =
        let size = length-drop end ps in
        let len = h.len in
        in_third (take (at + 1) ps) (map (moved 0 at) (drop 1 qs)) (map (moved end (at + length qs)) (drop end ps)) 0 (at + length part) i (omega (arith, size_up_to, size_inside, some_part))
        ∙ get_or-map (moved end (at + length qs)) (drop end ps) i 0 0 (omega arith)
        ∙ ap (moved end (at + length qs)) (get_or-drop end ps i 0)
        ∙ ap (λ (n : ℕ). moved end (at + n) (get_or ps (end + i) 0)) g.len

    -- a place is that of the parent where it has the parent's path
    abbrev IsParent : ℕ → ℕ → Type 0
    IsParent k j = (j < length made) × (path_at made j ≡ parent_path (path_at made k))

    is_up_to : (k : ℕ) → k ≤ at → IsParent k (get_or ps k 0)
    is_up_to k le =
        let lt : k < length tree = omega arith in
        let before = parent_before tree ps shape h k lt in
        (omega (arith, size_made, some_part, before, le), path_up_to (get_or ps k 0) (omega (arith, before, le)) ∙ parent_is tree ps shape h k lt ∙ ap parent_path (sym (path_up_to k le)))

    is_inside : (j : ℕ) → 0 < j → j < length part → IsParent (at + j) (at + get_or qs j 0)
    is_inside j some lt =
        let in' = parent_within part qs own g j lt in (
          omega (arith, size_made, in'),
          path_inside (get_or qs j 0) in' ∙ ap below (parent_is part qs own g j lt) ∙ joined (path_at part j) not_root ∙ ap parent_path (sym (path_inside j lt)),
        )
      where
        not_root : path_at part j ≡ [] → ⊥
        not_root e =
            let later = in_order part own.order 0 j no_directory some lt in
            let root = sym (path_at-get part 0 no_directory some_part) ∙ root_first part own.order own.root in
            let here = sym (path_at-get part j no_directory lt) ∙ e in
            let no : Equal ≡ Less = ap (λ (q : Components). path_cmp q []) (sym root) ∙ ap (path_cmp (get_or part 0 no_directory).path) (sym here) ∙ later in
            cc

        joined : (q : Components) → (q ≡ [] → ⊥) → below (parent_path q) ≡ parent_path (below q)
        joined [] other = absurd (other refl)
        joined (n ∷ q) other = sym (all_but_last-append (path_at tree at) n q)

    is_behind : (i : ℕ) → i < length tree - end → IsParent (at + length part + i) (moved end (at + length part) (get_or ps (end + i) 0))
    is_behind i lt =
        let in' : end + i < length tree = omega arith in
        let own_path = parent_is tree ps shape h (end + i) in' in
        let there = parent_within tree ps shape h (end + i) in' in
        by (get_or ps (end + i) 0) (ltb (get_or ps (end + i) 0) end) refl there (own_path ∙ ap parent_path (sym (path_behind i))) (ap (is_prefix (path_at tree at)) own_path)
      where
        outside : end + i < length tree → is_prefix (path_at tree at) (parent_path (path_at tree (end + i))) ≡ true → ⊥
        outside in' e = true≢false (sym (from_parent (path_at tree at) (path_at tree (end + i)) e) ∙ rest_outside tree at shape within (end + i) (omega arith) in')

        by : (n : ℕ) (b : Bool) → ltb n end ≡ b → n < length tree → path_at tree n ≡ parent_path (path_at made (at + length part + i))
            → is_prefix (path_at tree at) (path_at tree n) ≡ is_prefix (path_at tree at) (parent_path (path_at tree (end + i)))
            → IsParent (at + length part + i) (moved end (at + length part) n)
        by n true e there is leads =
            let less = ltb-true n end e in
            let in' : end + i < length tree = omega arith in
            let front : n < at = front_of (ltb n at) refl less leads in' in
            rw e (omega (arith, size_made, front), path_before n front ∙ is)
          where
            front_of : (c : Bool) → ltb n at ≡ c → n < end → is_prefix (path_at tree at) (path_at tree n) ≡ is_prefix (path_at tree at) (parent_path (path_at tree (end + i))) → end + i < length tree → n < at
            front_of true f l same in' = ltb-true n at f
            front_of false f l same in' = absurd (outside in' (sym same ∙ replaced_below tree at shape within n (ltb-false n at f) l))
        by n false e there is leads =
            let more = ltb-false n end e in
            let place : n - end + (at + length part) ≡ at + length part + (n - end) = omega arith in
            let back : end + (n - end) ≡ n = omega arith in
            rw e (omega (arith, size_made, there, more), ap (path_at made) place ∙ path_behind (n - end) ∙ ap (path_at tree) back ∙ is)

    each_parent : (k : ℕ) → k < length made → IsParent k (get_or parents k 0)
    each_parent k lt = by (ltb at k) refl where
      by : (b : Bool) → ltb at k ≡ b → IsParent k (get_or parents k 0)
      by false e = let le = ltb-false at k e in subst (IsParent k) (sym (parent_up_to k le)) (is_up_to k le)
      by true e = inner (ltb k (at + length part)) refl (ltb-true at k e) where
        inner : (c : Bool) → ltb k (at + length part) ≡ c → at < k → IsParent k (get_or parents k 0)
        inner true f more =
            let less = ltb-true k (at + length part) f in
            let there : at + (k - at) ≡ k = omega arith in
            subst (λ (m : ℕ). IsParent m (get_or parents m 0)) there
            (subst (IsParent (at + (k - at))) (sym (parent_inside (k - at) (omega arith) (omega arith))) (is_inside (k - at) (omega arith) (omega arith)))
        inner false f more =
            let le = ltb-false k (at + length part) f in
            let there : at + length part + (k - (at + length part)) ≡ k = omega arith in
            let room : k - (at + length part) < length tree - end = omega (arith, size_made, lt, le) in
            subst (λ (m : ℕ). IsParent m (get_or parents m 0)) there
            (subst (IsParent (at + length part + (k - (at + length part)))) (sym (parent_behind (k - (at + length part)) room)) (is_behind (k - (at + length part)) room))

    made_has_parents : HasParents made parents
    made_has_parents = record {
      len = size_parents;
      each = λ k lt.
          let w = each_parent k lt in
          place_of-at made (parent_path (path_at made k)) (get_or parents k 0) no_directory (replaced_ascends tree part at shape.order own.order within) w.0
          (sym (path_at-get made (get_or parents k 0) no_directory w.0) ∙ w.1);
    }

-- The parents in a graft are those of the tree and of the part, moved.
pub graft_has_parents : (tree part : List Directory) (at count : ℕ) (ps qs given : List ℕ) → HasTreeShape tree → HasTreeShape part → at < length tree → count ≡ length (below_dirs tree (path_at tree at))
    → HasParents tree ps → HasParents part qs → given ≡ graft_parents ps at (at + count) qs → HasParents (graft tree (path_at tree at) part) given
graft_has_parents tree part at count ps qs given shape own within counted h g is =
    subst (HasParents (graft tree (path_at tree at) part)) (sym (is ∙ ap (λ (n : ℕ). graft_parents ps at (at + n) qs) counted))
    (subst (λ (ds : List Directory). HasParents ds (graft_parents ps at (at + length (below_dirs tree (path_at tree at))) qs)) (sym (grafted tree part at shape.order own.order within))
    (made_has_parents tree part at shape own within ps qs h g))

-- ---- how many there are

-- a directory is one of those at its path and below it
pub some_below : (tree : List Directory) (k : ℕ) → k < length tree → 0 < length (below_dirs tree (path_at tree k))
some_below tree k within =
    let w = at_place tree k within in
    by (below_dirs tree (path_at tree k)) w.0 (filter-Has (λ (d : Directory). is_prefix (path_at tree k) d.path) tree w.0 w.1 (ap (is_prefix (path_at tree k)) w.2 ∙ own_prefix (path_at tree k)))
  where
    by : (ds : List Directory) (d : Directory) → Has ds d → 0 < length ds
    by [] d h = absurd h
    by (e ∷ ds) d h = omega arith

pub graft_size : (made kept put : List Directory) (p : Components) (at end : ℕ) → made ≡ take at kept ++ (map (put_below p) put ++ drop end kept) → at ≤ end → end ≤ length kept
    → length made ≡ at + length put + (length kept - end)
graft_size made kept put p at end is order within =
    let a = ap length is in
    let b = length-append (take at kept) (map (put_below p) put ++ drop end kept) in
    let c = length-append (map (put_below p) put) (drop end kept) in
    let d = length-take-le at kept (omega arith) in
    let e = length-map put (put_below p) in
    let f = length-drop end kept in
    omega arith
