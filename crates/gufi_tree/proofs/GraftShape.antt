-- A tree with a subtree replaced by a tree is a tree.
use Rattle.std.proofs.Common.{◌≡◌, ℕ, ◌+◌, ◌<◌, ◌⊎◌, inl, inr, Bool, true, false, not, List, [], ◌∷◌, ◌++◌, map, length, take, drop, refl, sym, ap, ◌∙◌, subst}
use Rattle.std.specs.List.{list_all}
use Rattle.std.proofs.lemmas.Bool.{true≢false, false_from_ne_true, not-true}
use Rattle.std.proofs.lemmas.List.{append-nil, append_assoc, append_cancel_left}
use Rattle.std.proofs.lemmas.List.Sorted.{IsPermutation-sym}
use Rattle.gufi_base.specs.Basics.{ascends}
use Rattle.gufi_base.specs.Paths.{Components, parent_path, is_prefix}
use Rattle.gufi_base.proofs.Prefixes.{prefix_of_child}
use Rattle.gufi_base.proofs.Sorting.{IsPermutation-sort_by}
use Rattle.gufi_tree.specs.declared.tree.Entry.{Entry}
use Rattle.gufi_tree.specs.Tree.{Directory, dir_cmp, entry_cmp, has_dir, is_kinded, HasTreeShape}
use Rattle.gufi_tree.specs.Places.{path_at}
use Rattle.gufi_tree.specs.Graft.{put_below, graft}
use Rattle.gufi_tree.proofs.Below.{below_dirs}
use Rattle.gufi_tree.proofs.Built.{Has, parent_path-child}
use Rattle.gufi_tree.proofs.Descent.{split_last}
use Rattle.gufi_tree.proofs.Filters.{Has-filter, filter-Has}
use Rattle.gufi_tree.proofs.Flat.{is_prefix-append, is_prefix-rest, all_at, all-true, has_dir-found, found-has_dir}
use Rattle.gufi_tree.proofs.Grafted.{grafted, replaced_ascends}
use Rattle.gufi_tree.proofs.Kids.{at_place}
use Rattle.gufi_tree.proofs.Ranges.{other_dirs}
use Rattle.gufi_tree.proofs.Rests.{bytes_eq-refl}
use Rattle.gufi_tree.proofs.RowHomes.{Has-append, Has-IsPermutation}

module _ {X : Type 0} where
  at_left : (xs ys : List X) (x : X) → Has xs x → Has (xs ++ ys) x
  at_left [] ys x h = absurd h
  at_left (y ∷ xs) ys x (inl e) = inl e
  at_left (y ∷ xs) ys x (inr h) = inr (at_left xs ys x h)

  pub at_right : (xs ys : List X) (x : X) → Has ys x → Has (xs ++ ys) x
  at_right [] ys x h = h
  at_right (y ∷ xs) ys x h = inr (at_right xs ys x h)

module _ {X Y : Type 0} (f : X → Y) where
  mapped : (xs : List X) (y : Y) → Has (map f xs) y → (x : X) × Has xs x × (f x ≡ y)
  mapped [] y h = absurd h
  mapped (x ∷ xs) y (inl e) = (x, inl refl, e)
  mapped (x ∷ xs) y (inr h) = let w = mapped xs y h in (w.0, inr w.1, w.2)

  in_map : (xs : List X) (x : X) → Has xs x → Has (map f xs) (f x)
  in_map [] x h = absurd h
  in_map (y ∷ xs) x (inl e) = inl (ap f e)
  in_map (y ∷ xs) x (inr h) = inr (in_map xs x h)

-- what leads to a path's parent leads to the path
pub from_parent : (p q : Components) → is_prefix p (parent_path q) ≡ true → is_prefix p q ≡ true
from_parent p [] h = h
from_parent p (n ∷ q) h =
    let last = split_last (n ∷ q) refl in
    let w = is_prefix-rest p (parent_path (n ∷ q)) h in
    let e : n ∷ q ≡ p ++ (w.0 ++ last.0 ∷ []) = last.1 ∙ ap (λ (r : Components). r ++ last.0 ∷ []) w.1 ∙ append_assoc p w.0 (last.0 ∷ []) in
    ap (is_prefix p) e ∙ is_prefix-append p (w.0 ++ last.0 ∷ [])

-- a path that isn't the root's doesn't lead to its parent
not_to_parent : (n : List ℕ) (p : Components) → is_prefix (n ∷ p) (parent_path (n ∷ p)) ≡ false
not_to_parent n [] = refl
not_to_parent n (m ∷ p) = by (not_to_parent m p) where
  by : is_prefix (m ∷ p) (parent_path (m ∷ p)) ≡ false → is_prefix (n ∷ m ∷ p) (n ∷ parent_path (m ∷ p)) ≡ false
  by h = rw (bytes_eq-refl n, h) refl

module _ (tree part : List Directory) (p : Components) where
  came_from : (d : Directory) → Has (graft tree p part) d → (Has tree d × (is_prefix p d.path ≡ false)) ⊎ ((e : Directory) × Has part e × (put_below p e ≡ d))
  unfolding graft
  came_from d h =
      let all = Has-IsPermutation d _ _ (IsPermutation-sym _ _ (IsPermutation-sort_by dir_cmp (other_dirs tree p ++ map (put_below p) part))) h in
      elim (Has-append (other_dirs tree p) (map (put_below p) part) d all) [
        | inl k ↦ (let w = Has-filter (λ (dir : Directory). not (is_prefix p dir.path)) tree d k in inl (w.0, not-true _ w.1))
        | inr k ↦ inr (mapped (put_below p) part d k)
      ]

  stays : (d : Directory) → Has tree d → is_prefix p d.path ≡ false → Has (graft tree p part) d
  unfolding graft
  stays d h out = Has-IsPermutation d _ _ (IsPermutation-sort_by dir_cmp (other_dirs tree p ++ map (put_below p) part))
      (at_left (other_dirs tree p) (map (put_below p) part) d (filter-Has (λ (dir : Directory). not (is_prefix p dir.path)) tree d h (ap not out)))

  comes : (e : Directory) → Has part e → Has (graft tree p part) (put_below p e)
  unfolding graft
  comes e h = Has-IsPermutation (put_below p e) _ _ (IsPermutation-sort_by dir_cmp (other_dirs tree p ++ map (put_below p) part))
      (at_right (other_dirs tree p) (map (put_below p) part) (put_below p e) (in_map (put_below p) part e h))

  there : (q : Components) → has_dir tree q ≡ true → is_prefix p q ≡ false → has_dir (graft tree p part) q ≡ true
  there q h out =
      let w = has_dir-found tree q h in
      ap (has_dir (graft tree p part)) (sym w.2) ∙ found-has_dir (graft tree p part) w.0 (stays w.0 w.1 (ap (is_prefix p) w.2 ∙ out))

  there_below : (q : Components) → has_dir part q ≡ true → has_dir (graft tree p part) (p ++ q) ≡ true
  there_below q h =
      let w = has_dir-found part q h in
      ap (λ (r : Components). has_dir (graft tree p part) (p ++ r)) (sym w.2) ∙ found-has_dir (graft tree p part) (put_below p w.0) (comes w.0 w.1)

  -- where there is a directory, it stands in the tree and not below the path, or in the part
  is_there : (q : Components) → has_dir (graft tree p part) q ≡ true → ((has_dir tree q ≡ true) × (is_prefix p q ≡ false)) ⊎ ((r : Components) × (has_dir part r ≡ true) × (p ++ r ≡ q))
  is_there q h =
      let w = has_dir-found (graft tree p part) q h in
      elim (came_from w.0 w.1) [
        | inl k ↦ inl (ap (has_dir tree) (sym w.2) ∙ found-has_dir tree w.0 k.0, ap (is_prefix p) (sym w.2) ∙ k.1)
        | inr k ↦ inr ((k.0).path, found-has_dir part k.0 k.1, ap (λ (d : Directory). d.path) k.2 ∙ w.2)
      ]

  module _ (shape : HasTreeShape tree) (own : HasTreeShape part) (here : has_dir tree p ≡ true) where
    -- the parent of the path is there, where the path isn't the root
    above : (q : Components) → q ≡ p → has_dir (graft tree p part) (parent_path q) ≡ true
    above [] e = ap (has_dir (graft tree p part)) (e ∙ sym (append-nil p)) ∙ there_below [] own.root
    above (n ∷ q) e =
        let w = has_dir-found tree p here in
        let up : has_dir tree (parent_path p) ≡ true = ap (λ (r : Components). has_dir tree (parent_path r)) (sym w.2) ∙ all_at (λ (dir : Directory). has_dir tree (parent_path dir.path)) tree w.0 shape.parents w.1 in
        there (parent_path (n ∷ q)) (ap (λ (r : Components). has_dir tree (parent_path r)) e ∙ up) (subst (λ (r : Components). is_prefix r (parent_path (n ∷ q)) ≡ false) e (not_to_parent n q))

    below_parent : (q : Components) → has_dir part (parent_path q) ≡ true → has_dir (graft tree p part) (parent_path (p ++ q)) ≡ true
    below_parent [] h = ap (λ (r : Components). has_dir (graft tree p part) (parent_path r)) (append-nil p) ∙ above p refl
    below_parent (n ∷ q) h =
        let last = split_last (n ∷ q) refl in
        let e : p ++ n ∷ q ≡ (p ++ parent_path (n ∷ q)) ++ last.0 ∷ [] = ap (λ (r : Components). p ++ r) last.1 ∙ sym (append_assoc p (parent_path (n ∷ q)) (last.0 ∷ [])) in
        ap (λ (r : Components). has_dir (graft tree p part) (parent_path r)) e
        ∙ ap (has_dir (graft tree p part)) (parent_path-child (p ++ parent_path (n ∷ q)) last.0)
        ∙ there_below (parent_path (n ∷ q)) h

    has_parent : (d : Directory) → Has (graft tree p part) d → has_dir (graft tree p part) (parent_path d.path) ≡ true
    has_parent d h = elim (came_from d h) [
      | inl k ↦ there (parent_path d.path) (all_at (λ (dir : Directory). has_dir tree (parent_path dir.path)) tree d shape.parents k.0)
          (false_from_ne_true _ (λ b. true≢false (sym (from_parent p d.path b) ∙ k.1)))
      | inr k ↦ ap (λ (dir : Directory). has_dir (graft tree p part) (parent_path dir.path)) (sym k.2)
          ∙ below_parent (k.0).path (all_at (λ (dir : Directory). has_dir part (parent_path dir.path)) part k.0 own.parents k.1)
    ]

    -- what holds of directories by their records and entries
    holds_still : (t : Directory → Bool) → ((d : Directory) → t (put_below p d) ≡ t d) → list_all t tree ≡ true → list_all t part ≡ true → list_all t (graft tree p part) ≡ true
    holds_still t same inside also = all-true t (graft tree p part) (λ d h. elim (came_from d h) [
      | inl k ↦ all_at t tree d inside k.0
      | inr k ↦ ap t (sym k.2) ∙ same k.0 ∙ all_at t part k.0 also k.1
    ])

    abbrev apart_in : List Directory → Directory → Entry → Bool
    apart_in all dir entry = not (has_dir all (dir.path ++ entry.name ∷ []))

    apart_at : (all : List Directory) → HasTreeShape all → (d : Directory) → Has all d → (e : Entry) → Has d.entries e → has_dir all (d.path ++ e.name ∷ []) ≡ false
    apart_at all h d at e k = not-true _ (all_at (apart_in all d) d.entries e (all_at (λ (dir : Directory). list_all (apart_in all dir) dir.entries) all d h.apart at) k)

    other_apart : (d : Directory) → Has tree d → is_prefix p d.path ≡ false → (e : Entry) → Has d.entries e → has_dir (graft tree p part) (d.path ++ e.name ∷ []) ≡ false
    other_apart d at out e k = false_from_ne_true _ (λ h.
        let none : has_dir tree (d.path ++ e.name ∷ []) ≡ false = apart_at tree shape d at e k in
        elim (is_there (d.path ++ e.name ∷ []) h) [
          | inl w ↦ true≢false (sym w.0 ∙ none)
          | inr w ↦ (let leads : is_prefix p (d.path ++ e.name ∷ []) ≡ true = ap (is_prefix p) (sym w.2) ∙ is_prefix-append p w.0 in
              elim (prefix_of_child p d.path e.name leads) [
                | inl same ↦ true≢false (sym (ap (has_dir tree) (sym same) ∙ here) ∙ none)
                | inr up ↦ true≢false (sym up ∙ out)
              ])
        ])

    part_apart : (d : Directory) → Has part d → (e : Entry) → Has d.entries e → has_dir (graft tree p part) ((p ++ d.path) ++ e.name ∷ []) ≡ false
    part_apart d at e k = false_from_ne_true _ (λ h.
        let q : (p ++ d.path) ++ e.name ∷ [] ≡ p ++ (d.path ++ e.name ∷ []) = append_assoc p d.path (e.name ∷ []) in
        elim (is_there ((p ++ d.path) ++ e.name ∷ []) h) [
          | inl w ↦ true≢false (sym (ap (is_prefix p) q ∙ is_prefix-append p (d.path ++ e.name ∷ [])) ∙ w.1)
          | inr w ↦ (let same : w.0 ≡ d.path ++ e.name ∷ [] = append_cancel_left p w.0 (d.path ++ e.name ∷ []) (w.2 ∙ q) in
              true≢false (sym (ap (has_dir part) (sym same) ∙ w.1) ∙ apart_at part own d at e k))
        ])

    entries_apart : (d : Directory) → Has (graft tree p part) d → list_all (apart_in (graft tree p part) d) d.entries ≡ true
    entries_apart d h = elim (came_from d h) [
      | inl k ↦ all-true (apart_in (graft tree p part) d) d.entries (λ e m. ap not (other_apart d k.0 k.1 e m))
      | inr k ↦ subst (λ (dir : Directory). list_all (apart_in (graft tree p part) dir) dir.entries ≡ true) k.2
          (all-true (apart_in (graft tree p part) (put_below p k.0)) (k.0).entries (λ e m. ap not (part_apart k.0 k.1 e m)))
    ]

    rooted : (q : Components) → q ≡ p → has_dir (graft tree p part) [] ≡ true
    rooted [] e = ap (has_dir (graft tree p part)) (e ∙ sym (append-nil p)) ∙ there_below [] own.root
    rooted (n ∷ q) e = there [] shape.root (subst (λ (r : Components). is_prefix r [] ≡ false) e refl)

-- The directory at a place and all below it replaced by a tree: what is made is a tree.
pub graft_shape : (tree part : List Directory) (k : ℕ) → HasTreeShape tree → HasTreeShape part → k < length tree → HasTreeShape (graft tree (path_at tree k) part)
graft_shape tree part k shape own within =
    let p = path_at tree k in
    let at = at_place tree k within in
    let here : has_dir tree p ≡ true = ap (has_dir tree) (sym at.2) ∙ found-has_dir tree at.0 at.1 in
    record {
      root = rooted tree part p shape own here p refl;
      order = ap (ascends dir_cmp) (grafted tree part k shape.order own.order within) ∙ replaced_ascends tree part k shape.order own.order within;
      parents = all-true (λ (dir : Directory). has_dir (graft tree p part) (parent_path dir.path)) (graft tree p part) (has_parent tree part p shape own here);
      entries = holds_still tree part p shape own here (λ (dir : Directory). ascends entry_cmp dir.entries) (λ d. refl) shape.entries own.entries;
      kinds = holds_still tree part p shape own here is_kinded (λ d. refl) shape.kinds own.kinds;
      apart = all-true (λ (dir : Directory). list_all (apart_in tree part p shape own here (graft tree p part) dir) dir.entries) (graft tree p part) (entries_apart tree part p shape own here);
    }

-- What is put together of a tree's own directories and those of a part is the graft.
pub graft_made : (tree part kept kept_part made : List Directory) (at count : ℕ) → HasTreeShape tree → HasTreeShape part → at < length tree
    → count ≡ length (below_dirs tree (path_at tree at)) → kept ≡ tree → kept_part ≡ part
    → made ≡ take at kept ++ (map (put_below (path_at kept at)) kept_part ++ drop (at + count) kept) → made ≡ graft tree (path_at tree at) part
graft_made tree part kept kept_part made at count shape own within counted same same_part is =
    is ∙ ap (λ (t : List Directory). take at t ++ (map (put_below (path_at t at)) kept_part ++ drop (at + count) t)) same
    ∙ ap (λ (p : List Directory). take at tree ++ (map (put_below (path_at tree at)) p ++ drop (at + count) tree)) same_part
    ∙ ap (λ (n : ℕ). take at tree ++ (map (put_below (path_at tree at)) part ++ drop (at + n) tree)) counted
    ∙ sym (grafted tree part at shape.order own.order within)
