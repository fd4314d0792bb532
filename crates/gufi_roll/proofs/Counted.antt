-- The rows at and below a directory, counted by places: the directories below one stand behind it, side by side.
use Rattle.std.proofs.Common.{◌≡◌, ℕ, ◌+◌, ◌-◌, ◌<◌, ◌≤◌, ◌⊎◌, inl, inr, true, false, not, cond, List, [], ◌∷◌, ◌++◌, length, take, drop, get_or, Option, Some, None, is_some, refl, sym, ap, ◌∙◌, arith, length-drop}
use Rattle.std.specs.Prelude.{nat_lt, nat_le, option_map}
use Rattle.std.specs.List.{flat_map}
use Rattle.std.specs.declared.cmp.Ordering.TheVariants.{Less, Equal}
use Rattle.std.proofs.lemmas.Bool.{true≢false, false≢true, not-true, cases_lt, lt-ltb, le-ltb, le-leb, ne_eqb}
use Rattle.std.proofs.lemmas.Bool.Decides.{leb_tells}
use Rattle.std.proofs.lemmas.Cmp.{tied_itself}
use Rattle.std.proofs.lemmas.Grind.{flat_map-append}
use Rattle.std.proofs.lemmas.List.{length-append, length-map, length-take, get_or-take, get_or-drop, get_or-append-add, take_more, take_all}
use Rattle.std.proofs.lemmas.List.Folds.{length-flat_map-take}
use Rattle.gufi_base.specs.Basics.{is_empty}
use Rattle.gufi_base.specs.Paths.{Components, path_cmp, parent_path, is_prefix}
use Rattle.gufi_base.proofs.Prefixes.{prefix_of_child}
use Rattle.gufi_tree.specs.declared.tree.DirId.{DirId}
use Rattle.gufi_tree.specs.Tree.{Directory, entry_row, own_rows, has_dir, place_of, HasTreeShape}
use Rattle.gufi_tree.specs.Places.{dir_id, path_at, parent_id}
use Rattle.gufi_tree.proofs.Below.{below_dirs}
use Rattle.gufi_tree.proofs.Built.{path_cmp-total}
use Rattle.gufi_tree.proofs.Descent.{split_last}
use Rattle.gufi_tree.proofs.Filters.{Has-filter}
use Rattle.gufi_tree.proofs.Flat.{is_prefix-append}
use Rattle.gufi_tree.proofs.Kids.{Has-get_or, at_place}
use Rattle.gufi_tree.proofs.Linked.{path_at-get, list_all-get, some_place}
use Rattle.gufi_tree.proofs.Ranges.{other_dirs, below_range, other_range, below_within, own_prefix, not_before}
use Rattle.gufi_tree.proofs.Resolving.{parent_before}
use Rattle.gufi_tree.proofs.Searched.{in_order}
use Rattle.gufi_roll.specs.CanRoll.{rows_below}
use Rattle.gufi_roll.proofs.Laws.{rows_below-under}
use Rattle.gufi_roll.proofs.Tops.{prefix_trans}

-- ---- a path and its parent's

not_empty : (p q : Components) → path_cmp p q ≡ Less → not (is_empty q) ≡ true
not_empty [] [] e = let no : Equal ≡ Less = e in cc
not_empty (n ∷ p) [] e = absurd (cc e)
not_empty p (m ∷ q) e = refl

-- what leads to a path behind it leads to its parent, and the other way round
to_parent : (p q : Components) → path_cmp p q ≡ Less → is_prefix p q ≡ true → is_prefix p (parent_path q) ≡ true
to_parent p q less h =
    let last = split_last q (not_empty p q less) in
    elim (prefix_of_child p (parent_path q) last.0 (ap (is_prefix p) (sym last.1) ∙ h)) [
      | inl same ↦ (let no : Equal ≡ Less = sym (tied_itself path_cmp-total p) ∙ ap (path_cmp p) (same ∙ sym last.1) ∙ less in absurd (cc))
      | inr up ↦ up
    ]

from_parent : (p q : Components) → not (is_empty q) ≡ true → is_prefix p (parent_path q) ≡ true → is_prefix p q ≡ true
from_parent p q some h =
    let last = split_last q some in
    prefix_trans p (parent_path q) q h (ap (is_prefix (parent_path q)) last.1 ∙ is_prefix-append (parent_path q) (last.0 ∷ []))

module _ (tree : List Directory) (shape : HasTreeShape tree) where
  place_order : (i j : ℕ) → i < j → j < length tree → path_cmp (path_at tree i) (path_at tree j) ≡ Less
  place_order i j less lt =
      let d = (at_place tree j lt).0 in
      ap (λ (p : Components). path_cmp p (path_at tree j)) (path_at-get tree i d (omega arith))
      ∙ ap (λ (p : Components). path_cmp (get_or tree i d).path p) (path_at-get tree j d lt) ∙ in_order tree shape.order i j d less lt

  -- each directory but the root has a parent, which stands before it
  parent_is : (j : ℕ) → 0 < j → j < length tree → (m : ℕ) × (parent_id tree j ≡ Some (dir_id m)) × (m < j) × (path_at tree m ≡ parent_path (path_at tree j))
  parent_is j some lt =
      let d = (at_place tree j lt).0 in
      let here : path_at tree j ≡ (get_or tree j d).path = path_at-get tree j d lt in
      let there : has_dir tree (parent_path (path_at tree j)) ≡ true =
      ap (λ (p : Components). has_dir tree (parent_path p)) here ∙ list_all-get (λ (v : Directory). has_dir tree (parent_path v.path)) tree j d shape.parents lt in
      by d here (place_of tree (parent_path (path_at tree j))) refl (some_place tree (parent_path (path_at tree j)) shape.order there) where
        named : not (is_empty (path_at tree j)) ≡ true
        named = not_empty (path_at tree 0) (path_at tree j) (place_order 0 j some lt)

        by : (d : Directory) → path_at tree j ≡ (get_or tree j d).path → (o : Option ℕ) → place_of tree (parent_path (path_at tree j)) ≡ o → is_some o ≡ true
            → (m : ℕ) × (parent_id tree j ≡ Some (dir_id m)) × (m < j) × (path_at tree m ≡ parent_path (path_at tree j))
        by d here None e h = absurd (false≢true h)
        by d here (Some m) e h =
            let at = parent_before tree shape j m d lt (not-true _ (ap (λ (p : Components). not (is_empty p)) (sym here) ∙ named)) (ap (λ (p : Components). place_of tree (parent_path p)) (sym here) ∙ e) in
            let below : m < j = at.0 in (
              m,
              ap (λ b. cond b None (option_map dir_id (place_of tree (parent_path (path_at tree j))))) (ne_eqb j 0 (λ z. absurd (omega arith))) ∙ ap (option_map dir_id) e,
              below,
              path_at-get tree m d (omega arith) ∙ at.1 ∙ ap parent_path (sym here),
            )

module _ (tree : List Directory) (shape : HasTreeShape tree) (k : ℕ) (within : k < length tree) where
  abbrev here : Components
  here = path_at tree k

  -- how many directories there are at and below the place
  abbrev pub many : ℕ
  many = length (below_dirs tree (path_at tree k))

  abbrev under : List Directory
  under = below_dirs tree (path_at tree k)

  under_get : (j : ℕ) (d : Directory) → j < many → get_or under j d ≡ get_or tree (k + j) d
  under_get j d h =
      ap (λ (ds : List Directory). get_or ds j d) (below_range tree k shape.order within)
      ∙ get_or-take many (drop k tree) j d h ∙ get_or-drop k tree j d

  -- those so many places behind it are below it, and one behind them isn't
  in_range : (j : ℕ) → j < many → is_prefix here (path_at tree (k + j)) ≡ true
  in_range j h =
      let d = (at_place tree k within).0 in
      ap (is_prefix here) (path_at-get tree (k + j) d (omega (arith, below_within tree k shape.order within)) ∙ ap (λ (e : Directory). e.path) (sym (under_get j d h)))
      ∙ (Has-filter (λ (dir : Directory). is_prefix (path_at tree k) dir.path) tree (get_or under j d) (Has-get_or under j d h)).1

  past_range : (j : ℕ) → many ≤ j → k + j < length tree → is_prefix here (path_at tree (k + j)) ≡ false
  past_range j h lt = by (j - many) (omega arith) where
    by : (i : ℕ) → k + j ≡ k + many + i → is_prefix here (path_at tree (k + j)) ≡ false
    by i e =
        let d = (at_place tree k within).0 in
        let rest = drop (k + many) tree in
        let others : length (other_dirs tree here) ≡ length (take k tree) + length (drop (k + many) tree) =
        ap (λ (ds : List Directory). length ds) (other_range tree k shape.order within) ∙ length-append (take k tree) (drop (k + many) tree) in
        let front : length (take k tree) ≡ k = omega (arith, length-take k tree) in
        let in' : k + i < length (other_dirs tree here) = omega (arith, others, length-drop (k + many) tree, length-take k tree) in
        let same : get_or (other_dirs tree here) (k + i) d ≡ get_or tree (k + j) d =
        ap (λ (ds : List Directory). get_or ds (k + i) d) (other_range tree k shape.order within)
        ∙ ap (λ (n : ℕ). get_or (take k tree ++ drop (k + many) tree) (n + i) d) (sym front)
        ∙ get_or-append-add (take k tree) (drop (k + many) tree) i d
        ∙ get_or-drop (k + many) tree i d ∙ ap (λ (n : ℕ). get_or tree n d) (sym e) in
        ap (is_prefix here) (path_at-get tree (k + j) d lt ∙ ap (λ (e : Directory). e.path) (sym same))
        ∙ not-true _ (Has-filter (λ (dir : Directory). not (is_prefix (path_at tree k) dir.path)) tree (get_or (other_dirs tree here) (k + i) d) (Has-get_or (other_dirs tree here) (k + i) d in')).1

  pub some_under : 0 < many
  some_under = elim (cases_lt 0 many) [
    | inl less ↦ less
    | inr none ↦ (let z : k + 0 ≡ k = omega arith in
        absurd (true≢false (sym (own_prefix here) ∙ ap (λ (n : ℕ). is_prefix here (path_at tree n)) (sym z) ∙ past_range 0 none (omega arith))))
  ]

  -- whether the one behind so many of them is one of them: where its parent stands
  pub ends : (j : ℕ) → length tree ≤ k + j → false ≡ nat_lt j many
  ends j h = sym (le-ltb j many (omega (arith, below_within tree k shape.order within)))

  pub no_parent : (j : ℕ) (P : Type 0) → 0 < j → k + j < length tree → parent_id tree (k + j) ≡ None → P
  no_parent j P some lt e = let w = parent_is tree shape (k + j) (omega arith) lt in absurd (cc (w.1, e))

  pub parent_tells : (j : ℕ) (id : DirId) → 0 < j → j ≤ many → k + j < length tree → parent_id tree (k + j) ≡ Some id → nat_le k id.0 ≡ nat_lt j many
  parent_tells j id some few lt e =
      let w = parent_is tree shape (k + j) (omega arith) lt in
      let is : id.0 ≡ w.0 = cc (w.1, e) in
      ap (nat_le k) is ∙ by w.0 w.2 w.3 (cases_lt j many) (cases_lt w.0 k) where
        by : (m : ℕ) → m < k + j → path_at tree m ≡ parent_path (path_at tree (k + j)) → (j < many) ⊎ (many ≤ j) → (m < k) ⊎ (k ≤ m) → nat_le k m ≡ nat_lt j many
        by m less path (inl inside) (inl before) =
            let up : is_prefix here (parent_path (path_at tree (k + j))) ≡ true = to_parent here (path_at tree (k + j)) (place_order tree shape k (k + j) (omega arith) lt) (in_range j inside) in
            absurd (true≢false (sym (ap (is_prefix here) path ∙ up) ∙ not_before here (path_at tree m) (place_order tree shape m k before within)))
        by m less path (inl inside) (inr behind) = le-leb k m behind ∙ sym (lt-ltb j many inside)
        by m less path (inr outside) (inl before) = elim (leb_tells k m) [
          | inl at ↦ absurd (omega (arith, at.1))
          | inr at ↦ at.0 ∙ sym (le-ltb j many outside)
        ]
        by m less path (inr outside) (inr behind) = absurd (at (m - k) (omega arith) (omega arith)) where
          at : (i : ℕ) → m ≡ k + i → i < many → ⊥
          at i same in' =
              let up : is_prefix here (parent_path (path_at tree (k + j))) ≡ true = ap (is_prefix here) (sym path ∙ ap (path_at tree) same) ∙ in_range i in' in
              true≢false (sym (from_parent here (path_at tree (k + j)) (not_empty here (path_at tree (k + j)) (place_order tree shape k (k + j) (omega arith) lt)) up) ∙ past_range j outside lt)

  -- ---- the rows of so many of them

  abbrev pub counted : ℕ → ℕ
  counted j = length (flat_map own_rows (take j (below_dirs tree (path_at tree k))))

  pub counted_more : (j : ℕ) (d : Directory) → j < many → counted (j + 1) ≡ counted j + (length (get_or tree (k + j) d).entries + 1)
  counted_more j d h =
      let all = ap (λ (ds : List Directory). length (flat_map own_rows ds)) (take_more under j d h) in
      let parts = ap length (flat_map-append own_rows (take j under) (get_or under j d ∷ [])) in
      let sum = length-append (flat_map own_rows (take j under)) (flat_map own_rows (get_or under j d ∷ [])) in
      let last = length-append (own_rows (get_or under j d)) [] in
      let own = length_own (get_or under j d) in
      let same = ap (λ (e : Directory). length e.entries) (under_get j d h) in
      omega (arith, all, parts, sum, last, own, same) where
        length_own : (e : Directory) → length (own_rows e) ≡ length e.entries + 1
        length_own e = let m = length-map e.entries (entry_row e.path) in omega (arith, m)

  -- they are no more than all
  pub counted_few : (j : ℕ) → j ≤ many → counted j ≤ rows_below tree (path_at tree k)
  counted_few j h = elim (cases_lt j many) [
    | inl less ↦ (let d = (at_place tree k within).0 in omega (arith, length-flat_map-take own_rows under j d less, rows_below-under tree shape (path_at tree k)))
    | inr all ↦ (let e = ap (λ (ds : List Directory). length (flat_map own_rows ds)) (take_all j under all) in omega (arith, e, rows_below-under tree shape (path_at tree k)))
  ]

  pub counted_all : (j : ℕ) → many ≤ j → counted j ≡ rows_below tree (path_at tree k)
  counted_all j h =
      ap (λ (ds : List Directory). length (flat_map own_rows ds)) (take_all j under h) ∙ sym (rows_below-under tree shape (path_at tree k))

  -- the first is the directory itself
  pub counted_one : (d : Directory) → counted 1 ≡ length (get_or tree k d).entries + 1
  counted_one d =
      let one : 0 + 1 ≡ 1 = omega arith in
      let at : k + 0 ≡ k = omega arith in
      let none : counted 0 ≡ 0 = refl in
      omega (arith, ap counted one, counted_more 0 d some_under, ap (λ (n : ℕ). length (get_or tree n d).entries) at, none)

  -- a number that the rows of the first pass is passed by all
  pub over_limit : (j limit : ℕ) → j ≤ many → limit < counted j → nat_le (counted j) limit ≡ nat_le (rows_below tree (path_at tree k)) limit
  over_limit j limit few over = low (counted j) over ∙ sym (low (rows_below tree (path_at tree k)) (omega (arith, over, counted_few j few))) where
    low : (n : ℕ) → limit < n → nat_le n limit ≡ false
    low n h = elim (leb_tells n limit) [
      | inl at ↦ absurd (omega (arith, at.1))
      | inr at ↦ at.0
    ]
