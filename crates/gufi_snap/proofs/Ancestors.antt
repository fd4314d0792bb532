-- From a directory up to the root: what stands between a directory and the one that it lies in doesn't lead to it.
use Rattle.std.proofs.Common.{◌≡◌, ◌⊎◌, ℕ, ◌<◌, ◌≤◌, Bool, true, false, not, cond, eqb, List, [], ◌∷◌, ◌++◌, length, get_or, Option, Some, None, is_some, inl, inr, refl, sym, ap, ◌∙◌, arith}
use Rattle.std.specs.Prelude.{option_map}
use Rattle.std.specs.declared.cmp.Ordering.TheVariants.{Less}
use Rattle.std.proofs.lemmas.Bool.{cases_eq, cases_lt, eq-eqb, ne_eqb, false≢true, true≢false, false_from_ne_true}
use Rattle.gufi_base.specs.Basics.{is_empty}
use Rattle.gufi_base.specs.Paths.{Components, path_cmp, parent_path, is_prefix}
use Rattle.gufi_base.proofs.Prefixes.{prefix_of_child}
use Rattle.gufi_tree.specs.declared.tree.DirId.{DirId}
use Rattle.gufi_tree.specs.Tree.{Directory, has_dir, place_of, HasTreeShape}
use Rattle.gufi_tree.specs.Places.{dir_id, path_at, parent_id}
use Rattle.gufi_tree.proofs.Descent.{split_last}
use Rattle.gufi_tree.proofs.GraftBelow.{one_leads, longer_prefix}
use Rattle.gufi_tree.proofs.Kids.{at_place}
use Rattle.gufi_tree.proofs.LastBelow.{leads_on, places_ordered}
use Rattle.gufi_tree.proofs.Linked.{path_at-get, list_all-get, root_first, some_place}
use Rattle.gufi_tree.proofs.Ranges.{not_before, own_prefix}
use Rattle.gufi_tree.proofs.Resolving.{parent_before}
use Rattle.gufi_tree.proofs.Searched.{in_order}

-- a place that was found, from the directory there
pub found_none : (o : Option ℕ) → option_map dir_id o ≡ None → o ≡ None
found_none None e = refl
found_none (Some k) e = absurd (let no : Some (dir_id k) ≡ None = e in cc)

pub found_some : (o : Option ℕ) (id : DirId) → option_map dir_id o ≡ Some id → o ≡ Some id.0
found_some None id e = absurd (let no : None ≡ Some id = e in cc)
found_some (Some k) id e = ap Some (ap (λ (v : Option DirId). elim v [ None ↦ k | Some w ↦ w.0 ]) e)

module _ (tree : List Directory) (shape : HasTreeShape tree) where
  module _ (k : ℕ) (within : k < length tree) where
    has_names : 0 < k → is_empty (path_at tree k) ≡ false
    has_names some = by (path_at tree k) (ap (λ (p : Components). path_cmp p (path_at tree k)) (sym (root_first tree shape.order shape.root)) ∙ places_ordered tree shape 0 k some within) where
      by : (p : Components) → path_cmp [] p ≡ Less → is_empty p ≡ false
      by [] e = absurd (cc e)
      by (n ∷ p) e = refl

    abbrev found : Option ℕ
    found = place_of tree (parent_path (path_at tree k))

    -- the root alone lies in none
    pub parent_none : parent_id tree k ≡ None → k ≡ 0
    parent_none e = by (cases_eq k 0) where
      none : (b : Bool) → b ≡ false → (o : Option ℕ) → is_some o ≡ true → cond b None (option_map dir_id o) ≡ None → k ≡ 0
      none true f o g h = absurd (true≢false f)
      none false f o g h = absurd (false≢true (sym (ap (λ (v : Option ℕ). is_some v) (found_none o h)) ∙ g))

      by : (k ≡ 0) ⊎ (k ≡ 0 → ⊥) → k ≡ 0
      by (inl z) = z
      by (inr some) =
          let d = (at_place tree k within).0 in
          let there : is_some found ≡ true = some_place tree (parent_path (path_at tree k)) shape.order
          (ap (λ (p : Components). has_dir tree (parent_path p)) (path_at-get tree k d within) ∙ list_all-get (λ (v : Directory). has_dir tree (parent_path v.path)) tree k d shape.parents within) in
          none (eqb k 0) (ne_eqb k 0 some) found there e

    -- where a directory lies
    pub parent_some : (id : DirId) → parent_id tree k ≡ Some id → (id.0 < k) × (path_at tree id.0 ≡ parent_path (path_at tree k)) × (is_empty (path_at tree k) ≡ false)
    parent_some id e = by (cases_eq k 0) where
      some_of : (b : Bool) → (o : Option ℕ) → cond b None (option_map dir_id o) ≡ Some id → (b ≡ false) × (o ≡ Some id.0)
      some_of true o g = absurd (let no : None ≡ Some id = g in cc)
      some_of false o g = (refl, found_some o id g)

      by : (k ≡ 0) ⊎ (k ≡ 0 → ⊥) → (id.0 < k) × (path_at tree id.0 ≡ parent_path (path_at tree k)) × (is_empty (path_at tree k) ≡ false)
      by (inl z) = absurd (true≢false (sym (eq-eqb k 0 z) ∙ (some_of (eqb k 0) found e).0))
      by (inr other) =
          let d = (at_place tree k within).0 in
          let same = path_at-get tree k d within in
          let some : is_empty (path_at tree k) ≡ false = has_names (omega (arith, other)) in
          let up = parent_before tree shape k id.0 d within (ap (λ (p : Components). is_empty p) (sym same) ∙ some) (ap (λ (p : Components). place_of tree (parent_path p)) (sym same) ∙ (some_of (eqb k 0) found e).1) in
          (up.0, path_at-get tree id.0 d (omega (arith, up.0)) ∙ up.1 ∙ ap parent_path (sym same), some)

    module _ (path : Components) (id : DirId) (is : parent_id tree k ≡ Some id) (leads : is_prefix (path_at tree k) path ≡ true) where
      up : (id.0 < k) × (path_at tree id.0 ≡ parent_path (path_at tree k)) × (is_empty (path_at tree k) ≡ false)
      up = parent_some id is

      last : (name : List ℕ) × (path_at tree k ≡ path_at tree id.0 ++ name ∷ [])
      last =
          let w = split_last (path_at tree k) (ap not up.2) in
          (w.0, w.1 ∙ ap (λ (p : Components). p ++ w.0 ∷ []) (sym up.1))

      -- where a directory leads, the one that it lies in leads too
      pub parent_leads : is_prefix (path_at tree id.0) path ≡ true
      parent_leads = longer_prefix (path_at tree id.0) (last.0 ∷ []) path (ap (λ (p : Components). is_prefix p path) (sym last.1) ∙ leads)

      between : (j : ℕ) → id.0 < j → j < k → is_prefix (path_at tree j) path ≡ false
      between j above below = false_from_ne_true _ (λ h.
          let on : is_prefix (path_at tree j) (path_at tree k) ≡ true = one_leads (path_at tree k) (path_at tree j) path leads h (leads_on tree shape j k below within) in
          elim (prefix_of_child (path_at tree j) (path_at tree id.0) last.0 (ap (is_prefix (path_at tree j)) (sym last.1) ∙ on)) [
            | inl same ↦ true≢false (sym (own_prefix (path_at tree k)) ∙ ap (is_prefix (path_at tree k)) (last.1 ∙ sym same) ∙ leads_on tree shape j k below within)
            | inr back ↦ true≢false (sym back ∙ leads_on tree shape id.0 j above (omega arith))
          ])

      -- what stands behind the one that it lies in stands behind it too, or doesn't lead there
      pub passed : (j : ℕ) → id.0 < j → (k ≤ j) ⊎ (is_prefix (path_at tree j) path ≡ false)
      passed j above = elim (cases_lt j k) [
        | inl below ↦ inr (between j above below)
        | inr behind ↦ inl behind
      ]
