-- Sums of which those of a subtree are replaced stay right, but for those of the directories above it.
use Rattle.std.proofs.Common.{◌≡◌, ◌⊎◌, ℕ, ◌+◌, ◌-◌, ◌<◌, ◌≤◌, false, not, List, [], ◌∷◌, ◌++◌, length, take, drop, map, get_or, inl, inr, refl, sym, ap, ◌∙◌, subst, arith, length-drop}
use Rattle.std.proofs.lemmas.Bool.{cases_lt, not-true}
use Rattle.std.proofs.lemmas.List.{append-nil, length-append, length-take, get_or_append_left, get_or-append-add, get_or-take, get_or-drop}
use Rattle.gufi_base.specs.declared.record.Meta.{Meta}
use Rattle.gufi_base.specs.declared.record.Row.{Row}
use Rattle.gufi_base.specs.Paths.{Components, is_prefix}
use Rattle.gufi_tree.specs.Tree.{Directory, own_rows, HasTreeShape}
use Rattle.gufi_tree.specs.Places.{path_at}
use Rattle.gufi_tree.specs.Graft.{graft}
use Rattle.gufi_tree.proofs.Below.{below_dirs}
use Rattle.gufi_tree.proofs.Filters.{Has-filter, filter-Has}
use Rattle.gufi_tree.proofs.Flat.{has_dir-found}
use Rattle.gufi_tree.proofs.GraftBelow.{put_row_below, own_rows-below, rows_outside, rows_inside, graft_length, graft_before, graft_in, graft_behind, path_before, path_in, path_behind}
use Rattle.gufi_tree.proofs.Kids.{at_place, Has-get_or, rows_under}
use Rattle.gufi_tree.proofs.LastBelow.{leads_on}
use Rattle.gufi_tree.proofs.Linked.{path_at-get, root_first}
use Rattle.gufi_tree.proofs.Ranges.{other_dirs, other_range, below_within, own_prefix}
use Rattle.gufi_tree.proofs.Built.{Has}
use Rattle.gufi_sums.specs.declared.summary.Summary.{Summary}
use Rattle.gufi_sums.specs.SumLists.{SumLists}
use Rattle.gufi_sums.specs.Total.{total, total_of, IsTotal}
use Rattle.gufi_snap.specs.SumsByPlace.{AreOwn, AreSumsBut}
use Rattle.gufi_snap.specs.Kept.{IsContents}

-- ---- a list of which those between two places are replaced by others

abbrev pub spliced : {X : Type 0} → List X → ℕ → ℕ → List X → List X
spliced xs k end ys = take k xs ++ (ys ++ drop end xs)

module _ {X : Type 0} (xs ys : List X) (k end : ℕ) (order : k ≤ end) (within : end ≤ length xs) where
  front : length (take k xs) ≡ k
  front = omega (arith, length-take k xs)

  pub spliced_length : length (spliced xs k end ys) + end ≡ length xs + (k + length ys)
  spliced_length = omega (arith, front, length-append (take k xs) (ys ++ drop end xs), length-append ys (drop end xs), length-drop end xs)

  pub spliced_before : (j : ℕ) (d : X) → j < k → get_or (spliced xs k end ys) j d ≡ get_or xs j d
  spliced_before j d h = get_or_append_left (take k xs) (ys ++ drop end xs) d j (omega (arith, front)) ∙ get_or-take k xs j d h

  past : (j : ℕ) (d : X) → get_or (spliced xs k end ys) (k + j) d ≡ get_or (ys ++ drop end xs) j d
  past j d = ap (λ (i : ℕ). get_or (spliced xs k end ys) (i + j) d) (sym front) ∙ get_or-append-add (take k xs) (ys ++ drop end xs) j d

  pub spliced_in : (j : ℕ) (d : X) → j < length ys → get_or (spliced xs k end ys) (k + j) d ≡ get_or ys j d
  spliced_in j d h = past j d ∙ get_or_append_left ys (drop end xs) d j h

  pub spliced_behind : (j : ℕ) (d : X) → get_or (spliced xs k end ys) (k + (length ys + j)) d ≡ get_or xs (end + j) d
  spliced_behind j d = past (length ys + j) d ∙ get_or-append-add ys (drop end xs) j d ∙ get_or-drop end xs j d

-- ---- rows put below a path have the same sum

metas_below : (path : Components) (rows : List Row) → map (λ (row : Row). row.rec.meta) (map (put_row_below path) rows) ≡ map (λ (row : Row). row.rec.meta) rows
metas_below path [] = refl
metas_below path (row ∷ rows) = ap (λ (l : List Meta). row.rec.meta ∷ l) (metas_below path rows)

pub total_below : (path : Components) (sum : Summary) (rows : List Row) → IsTotal sum rows → IsTotal sum (map (put_row_below path) rows)
unfolding total
total_below path sum rows h = record { is = h.is ∙ ap total_of (sym (metas_below path rows)); bounded = h.bounded }

Has-some : {X : Type 0} (xs : List X) (x : X) → Has xs x → 0 < length xs
Has-some [] x h = absurd h
Has-some (y ∷ xs) x h = omega arith

-- a tree has its root
pub has_root : (tree : List Directory) → HasTreeShape tree → 0 < length tree
has_root tree shape = let w = has_dir-found tree [] shape.root in Has-some tree w.0 w.1

module _ (tree part : List Directory) (k : ℕ) (shape : HasTreeShape tree) (own : HasTreeShape part) (within : k < length tree) where
  abbrev pub after : List Directory
  after = graft tree (path_at tree k) part

  abbrev pub gone : ℕ
  gone = length (below_dirs tree (path_at tree k))

  -- where the directories of the new tree come from
  pub by_region : (P : ℕ → Type 0) → ((j : ℕ) → j < k → P j) → ((j : ℕ) → j < length part → P (k + j)) → ((j : ℕ) → k + gone + j < length tree → P (k + (length part + j)))
      → (j : ℕ) → j < length after → P j
  by_region P before inside behind j h = elim (cases_lt j k) [
    | inl l ↦ before j l
    | inr g ↦ elim (cases_lt (j - k) (length part)) [
      | inl l ↦ (let e : k + (j - k) ≡ j = omega arith in subst P e (inside (j - k) l))
      | inr m ↦ (let e : k + (length part + (j - k - length part)) ≡ j = omega arith in
          subst P e (behind (j - k - length part) (omega (arith, graft_length tree part k shape own within))))
    ]
  ]

  -- behind the replaced directories none lies below the path
  pub apart_behind : (j : ℕ) → k + gone + j < length tree → is_prefix (path_at tree k) (path_at tree (k + gone + j)) ≡ false
  apart_behind j h =
      let d = (at_place tree k within).0 in
      let rest = drop (k + gone) tree in
      let front : length (take k tree) ≡ k = omega (arith, length-take k tree) in
      let is : get_or (take k tree ++ rest) (k + j) d ≡ get_or tree (k + gone + j) d =
      ap (λ (i : ℕ). get_or (take k tree ++ rest) (i + j) d) (sym front) ∙ get_or-append-add (take k tree) rest j d ∙ get_or-drop (k + gone) tree j d in
      let there : Has (other_dirs tree (path_at tree k)) (get_or tree (k + gone + j) d) =
      subst (λ (ds : List Directory). Has ds (get_or tree (k + gone + j) d)) (sym (other_range tree k shape.order within))
      (subst (Has (take k tree ++ rest)) is (Has-get_or (take k tree ++ rest) (k + j) d (omega (arith, front, length-append (take k tree) rest, length-drop (k + gone) tree)))) in
      ap (is_prefix (path_at tree k)) (path_at-get tree (k + gone + j) d h)
      ∙ not-true _ (Has-filter (λ (dir : Directory). not (is_prefix (path_at tree k) dir.path)) tree (get_or tree (k + gone + j) d) there).1

  end_within : k + gone ≤ length tree
  end_within = below_within tree k shape.order within

  starts : k ≤ k + gone
  starts = omega arith

  pub own_spliced : (sums others : List Summary) → AreOwn tree sums → AreOwn part others → AreOwn after (spliced sums k (k + gone) others)
  own_spliced sums others old new = record {
    len = omega (arith, spliced_length sums others k (k + gone) starts in', old.len, new.len, graft_length tree part k shape own within);
    each = λ j d s h. by_region (λ i. IsTotal (get_or (spliced sums k (k + gone) others) i s) (own_rows (get_or after i d)))
        (λ i l. rw (spliced_before sums others k (k + gone) starts in' i s l, graft_before tree part k shape own within i d l) (old.each i d s (omega arith)))
        (λ i l. rw (spliced_in sums others k (k + gone) starts in' i s (omega (arith, new.len)), graft_in tree part k shape own within i d l, own_rows-below (path_at tree k) (get_or part i d))
        (total_below (path_at tree k) _ _ (new.each i d s l)))
        (λ i l. subst (λ n. IsTotal (get_or (spliced sums k (k + gone) others) (k + (n + i)) s) (own_rows (get_or after (k + (length part + i)) d))) new.len
        (rw (spliced_behind sums others k (k + gone) starts in' i s, graft_behind tree part k shape own within i d) (old.each (k + gone + i) d s l)))
        j h;
  } where
    in' : k + gone ≤ length sums
    in' = omega (arith, end_within, old.len)

  -- the directory itself is among those replaced
  some_gone : 0 < gone
  some_gone =
      let d = at_place tree k within in
      Has-some (below_dirs tree (path_at tree k)) d.0 (filter-Has (λ (dir : Directory). is_prefix (path_at tree k) dir.path) tree d.0 d.1 (ap (is_prefix (path_at tree k)) d.2 ∙ own_prefix (path_at tree k)))

  at_path : (j : ℕ) → j ≡ k → path_at after j ≡ path_at tree k
  at_path j e =
      let d = (at_place part 0 some).0 in
      let here : k + 0 ≡ j = omega arith in
      ap (path_at after) (sym here) ∙ path_in tree part k shape own within 0 some ∙ ap (λ (p : Components). path_at tree k ++ p) (root_first part own.order own.root) ∙ append-nil (path_at tree k)
    where
      some : 0 < length part
      some = has_root part own

  -- what stands before the directory, and isn't above it, doesn't lead to its path
  pub not_above : (i : ℕ) → (k ≤ i) ⊎ (is_prefix (path_at after i) (path_at after k) ≡ false) → i < k → is_prefix (path_at tree i) (path_at tree k) ≡ false
  not_above i (inl g) l = absurd (omega arith)
  not_above i (inr out) l = ap (λ (p : Components). is_prefix p (path_at tree k)) (sym (path_before tree part k shape own within i l)) ∙ ap (is_prefix (path_at after i)) (sym (at_path k refl)) ∙ out

  -- nor does what stands behind those replaced
  pub not_back : (i : ℕ) → k + gone + i < length tree → is_prefix (path_at tree (k + gone + i)) (path_at tree k) ≡ false
  not_back i l = leads_on tree shape k (k + gone + i) (omega (arith, some_gone)) l

  -- The sums of the new tree, but for those of the directories above the path.
  pub sums_spliced : (sums others : SumLists) → IsContents tree sums → IsContents part others
      → AreSumsBut after (path_at after k) k (record { own = spliced sums.own k (k + gone) others.own; below = spliced sums.below k (k + gone) others.below })
  sums_spliced sums others old new = record {
    own = own_spliced sums.own others.own old.own new.own;
    len = omega (arith, spliced_length sums.below others.below k (k + gone) starts in', old.len, new.len, graft_length tree part k shape own within);
    each = λ j s h right. by_region (λ i. (k ≤ i) ⊎ (is_prefix (path_at after i) (path_at after k) ≡ false) → IsTotal (get_or (spliced sums.below k (k + gone) others.below) i s) (rows_under after (path_at after i)))
        (λ i l out. rw (
          spliced_before sums.below others.below k (k + gone) starts in' i s l,
          path_before tree part k shape own within i l,
          rows_outside tree part k (path_at tree i) shape own within (not_above i out l) (leads_on tree shape i k l within),
        ) (old.under i s (omega arith) (omega arith)))
        (λ i l out. rw (spliced_in sums.below others.below k (k + gone) starts in' i s (omega (arith, new.len)), path_in tree part k shape own within i l, rows_inside tree part k (path_at part i) shape own within)
        (total_below (path_at tree k) _ _ (new.under i s (omega arith) l)))
        (λ i l out. subst (λ n. IsTotal (get_or (spliced sums.below k (k + gone) others.below) (k + (n + i)) s) (rows_under after (path_at after (k + (length part + i))))) new.len
        (rw (
          spliced_behind sums.below others.below k (k + gone) starts in' i s,
          path_behind tree part k shape own within i l,
          rows_outside tree part k (path_at tree (k + gone + i)) shape own within (not_back i l) (apart_behind i l),
        ) (old.under (k + gone + i) s (omega arith) l)))
        j h right;
  } where
    in' : k + gone ≤ length sums.below
    in' = omega (arith, end_within, old.len)

-- The same of what is kept of two trees, where what is made is told by its parts.
module _ (tree part : List Directory) (k count : ℕ) (sums others : SumLists) (old : IsContents tree sums) (new : IsContents part others) (within : k < length tree) (counted : count ≡ length (below_dirs tree (path_at tree k))) where
  pub range_fits : k + count ≤ length sums.own
  range_fits = omega (arith, counted, old.own.len, below_within tree k old.shape.order within)

  module _ (made : List Directory) (is : made ≡ graft tree (path_at tree k) part) where
    pub place_fits : k < length made
    place_fits =
        omega (arith, ap (λ (ds : List Directory). length ds) is, graft_length tree part k old.shape new.shape within, below_within tree k old.shape.order within, has_root part new.shape)

    pub sums_made : (joined : SumLists) → joined ≡ record { own = take k sums.own ++ (others.own ++ drop (k + count) sums.own); below = take k sums.below ++ (others.below ++ drop (k + count) sums.below) }
        → AreSumsBut made (path_at made k) k joined
    sums_made joined e =
        subst (λ (s : SumLists). AreSumsBut made (path_at made k) k s) (sym e)
        (subst (λ (n : ℕ). AreSumsBut made (path_at made k) k (record { own = take k sums.own ++ (others.own ++ drop (k + n) sums.own); below = take k sums.below ++ (others.below ++ drop (k + n) sums.below) })) (sym counted)
        (subst (λ (ds : List Directory). AreSumsBut ds (path_at ds k) k
        (record { own = spliced sums.own k (k + length (below_dirs tree (path_at tree k))) others.own; below = spliced sums.below k (k + length (below_dirs tree (path_at tree k))) others.below })) (sym is)
        (sums_spliced tree part k old.shape new.shape within sums others old new)))
