-- A list in order, and what a search among entries finds.
use Rattle.std.proofs.Common.{◌≡◌, ℕ, zero, suc, ◌+◌, ◌<◌, ◌≤◌, true, false, List, [], ◌∷◌, length, get_or, Result, Ok, Err, sym, ap, ◌∙◌, arith, ⊎_elim}
use Rattle.std.specs.Prelude.{bytes_eq}
use Rattle.std.specs.declared.cmp.Ordering.TheVariants.{Less, Equal, Greater}
use Rattle.std.specs.declared.cmp.Ordering.{Ordering}
use Rattle.std.specs.Ordering.{nat_cmp, is_lt, ordering_index, ordering_reverse}
use Rattle.std.specs.Cmp.{IsTotalOrder}
use Rattle.std.specs.Cmp.Lexicographic.{slice_cmp}
use Rattle.std.specs.List.{AllByRecursion, list_any}
use Rattle.std.specs.Result.{is_ok}
use Rattle.std.specs.List.Sorted.{IsBinarySearchResult, IsNonDecreasingBy, IsSearchInRange, IsSortedBy}
use Rattle.std.proofs.lemmas.Bool.{cases_lt, false_from_ne_true}
use Rattle.std.proofs.lemmas.Cmp.{nat_list_cmp_total, tied_itself}
use Rattle.std.proofs.lemmas.List.Folds.{list_any_at, list_any_none}
use Rattle.std.proofs.lemmas.List.Sorted.{searchable_from_sorted}
use Rattle.std.proofs.lemmas.Map.Lookups.{exact_bytes}
use Rattle.std.proofs.lemmas.Slice.Eq.{bytes_eq-Decides}
use Rattle.gufi_base.specs.Basics.{ascends}
use Rattle.gufi_base.proofs.SortedOnce.{below_all, ascends-tail}
use Rattle.gufi_tree.specs.declared.tree.Entry.{Entry}
use Rattle.gufi_tree.specs.Tree.{entry_cmp}
use Rattle.gufi_tree.proofs.Built.{entry_cmp-total}

-- the elements of a list in order
pub in_order_by : {X : Type 0} (cmp : X → X → Ordering) → IsTotalOrder cmp → (xs : List X) → ascends cmp xs ≡ true → (i j : ℕ) (d : X) → i < j → j < length xs → cmp (get_or xs i d) (get_or xs j d) ≡ Less
in_order_by cmp total [] up i j d lt within = absurd (omega (arith, within))
in_order_by cmp total (x ∷ xs) up i zero d lt within = absurd (omega (arith, lt))
in_order_by {X} cmp total (x ∷ xs) up zero (suc j) d lt within = at xs j (below_all cmp total x xs up) (omega (arith, within)) where
  at : (ys : List X) (k : ℕ) → AllByRecursion (λ y. cmp x y ≡ Less) ys → k < length ys → cmp x (get_or ys k d) ≡ Less
  at [] k h l = absurd (omega (arith, l))
  at (y ∷ ys) zero h l = h.0
  at (y ∷ ys) (suc k) h l = at ys k h.1 (omega (arith, l))
in_order_by cmp total (x ∷ xs) up (suc i) (suc j) d lt within = in_order_by cmp total xs (ascends-tail cmp total x xs up) i j d (omega (arith, lt)) (omega (arith, within))

sorted_by : {X : Type 0} (cmp : X → X → Ordering) → IsTotalOrder cmp → (xs : List X) → ascends cmp xs ≡ true → IsSortedBy (λ x y. is_lt (cmp x y)) xs
sorted_by cmp total xs up = λ k d low high.
    let less = in_order_by cmp total xs up k (k + 1) d (omega arith) high in
    ap is_lt (total.antisymm (get_or xs (k + 1) d) (get_or xs k d) ∙ ap ordering_reverse less)

unlike : (a b : List ℕ) → (slice_cmp nat_cmp a b ≡ Equal → ⊥) → bytes_eq b a ≡ false
unlike a b never = false_from_ne_true (bytes_eq b a) (λ e. never (ap (λ (x : List ℕ). slice_cmp nat_cmp a x) ((bytes_eq-Decides b a).0 e) ∙ tied_itself nat_list_cmp_total a))

-- a name, sought among entries in order
pub rising_names : (entries : List Entry) (name : List ℕ) → ascends entry_cmp entries ≡ true → IsNonDecreasingBy (λ (e : Entry). ordering_index (slice_cmp nat_cmp e.name name)) entries
rising_names entries name up = searchable_from_sorted nat_list_cmp_total (λ (e : Entry). e.name) entries name (sorted_by entry_cmp entry_cmp-total entries up)

-- an entry is found where one has the name
pub found_entry : (entries : List Entry) (name : List ℕ) (r : Result ℕ ℕ) → ascends entry_cmp entries ≡ true → IsSearchInRange r (length entries)
    → IsBinarySearchResult (λ (e : Entry). slice_cmp nat_cmp e.name name) entries r → is_ok r ≡ list_any (λ (e : Entry). bytes_eq name e.name) entries
found_entry [] name (Ok i) up range found = absurd (omega (arith, range))
found_entry (x ∷ xs) name (Ok i) up range found =
    let same : (get_or (x ∷ xs) i x).name ≡ name = exact_bytes (get_or (x ∷ xs) i x).name name (found x) in
    sym (list_any_at (λ (e : Entry). bytes_eq name e.name) (x ∷ xs) i x range ((bytes_eq-Decides name (get_or (x ∷ xs) i x).name).1 (sym same)))
found_entry entries name (Err i) up range found =
    let parts = found (rising_names entries name up) in
    sym (list_any_none (λ (e : Entry). bytes_eq name e.name) entries (λ k d lt.
    unlike (get_or entries k d).name name (λ same. ⊎_elim
    (λ (below : k < i). let clash : Less ≡ Equal = sym (parts.0 k d (omega arith) below) ∙ same in absurd cc)
    (λ (from : i ≤ k). let clash : Greater ≡ Equal = sym (parts.1 k d from lt) ∙ same in absurd cc) (cases_lt k i))))
