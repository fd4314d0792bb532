-- Sums that are put from a directory up to the root.
use Rattle.std.proofs.Common.{◌≡◌, ◌⊎◌, ℕ, ◌+◌, ◌<◌, ◌≤◌, true, false, List, length, get_or, set, Some, inl, inr, sym, ◌∙◌, subst, arith}
use Rattle.std.proofs.lemmas.Bool.{cases_order}
use Rattle.std.proofs.lemmas.List.{length-set, get_or-set_same, get_or-set_other}
use Rattle.gufi_base.specs.Paths.{Components, is_prefix}
use Rattle.gufi_tree.specs.declared.tree.DirId.{DirId}
use Rattle.gufi_tree.specs.Tree.{Directory, HasTreeShape}
use Rattle.gufi_tree.specs.Places.{path_at, parent_id}
use Rattle.gufi_tree.proofs.Kids.{rows_under}
use Rattle.gufi_sums.specs.declared.summary.Summary.{Summary}
use Rattle.gufi_sums.specs.SumLists.{SumLists}
use Rattle.gufi_sums.specs.Total.{IsTotal}
use Rattle.gufi_snap.specs.SumsByPlace.{AreUnderFrom, AreSumsBut}
use Rattle.gufi_snap.proofs.Ancestors.{parent_some, passed}

module _ (tree : List Directory) (shape : HasTreeShape tree) (k : ℕ) (within : k < length tree) (path : Components) (id : DirId) (is : parent_id tree k ≡ Some id) (leads : is_prefix (path_at tree k) path ≡ true)
    (sums : SumLists) (old : AreSumsBut tree path k sums) where
  before : id.0 < k
  before = (parent_some tree shape k within id is).0

  -- behind the directory above all are known
  pub known_behind : AreUnderFrom tree (id.0 + 1) sums.below
  known_behind = λ j s h l. old.each j s l (passed tree shape k within path id is leads j (omega arith))

  pub sums_raised : (sum : Summary) → IsTotal sum (rows_under tree (path_at tree id.0)) → AreSumsBut tree path id.0 (record { own = sums.own; below = set sums.below id.0 sum })
  sums_raised sum own = record {
    own = old.own;
    len = length-set sums.below id.0 sum ∙ old.len;
    each = λ j s h right. elim (cases_order j id.0) [
      | inl e ↦ subst (λ i. IsTotal (get_or (set sums.below id.0 sum) i s) (rows_under tree (path_at tree i))) (sym e)
          (subst (λ (x : Summary). IsTotal x (rows_under tree (path_at tree id.0))) (sym (get_or-set_same sums.below id.0 sum s (omega (arith, before, within, old.len)))) own)
      | inr (inl l) ↦ other j s (λ e. omega arith) (old.each j s h (out j right l))
      | inr (inr g) ↦ other j s (λ e. omega arith) (old.each j s h (passed tree shape k within path id is leads j g))
    ];
  } where
    other : (j : ℕ) (s : Summary) → (j ≡ id.0 → ⊥) → IsTotal (get_or sums.below j s) (rows_under tree (path_at tree j)) → IsTotal (get_or (set sums.below id.0 sum) j s) (rows_under tree (path_at tree j))
    other j s ne h = subst (λ (x : Summary). IsTotal x (rows_under tree (path_at tree j))) (sym (get_or-set_other sums.below id.0 j sum s ne)) h

    out : (j : ℕ) → (id.0 ≤ j) ⊎ (is_prefix (path_at tree j) path ≡ false) → j < id.0 → (k ≤ j) ⊎ (is_prefix (path_at tree j) path ≡ false)
    out j (inl g) l = absurd (omega arith)
    out j (inr e) l = inr e
