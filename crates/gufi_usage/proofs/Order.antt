-- Paths in order: of rows, of directories, and of places.
use Rattle.std.proofs.Common.{◌≡◌, ℕ, zero, suc, ◌+◌, ◌<◌, inl, inr, ◌⊎◌, true, false, cond, List, [], ◌∷◌, map, length, get_or, refl, sym, ap, ◌∙◌, arith}
use Rattle.std.specs.List.{AllByRecursion}
use Rattle.std.specs.List.Sorted.{IsPermutation, IsSortedBy}
use Rattle.std.specs.Ordering.{nat_cmp, is_lt}
use Rattle.std.specs.declared.cmp.Ordering.{Ordering}
use Rattle.std.specs.declared.cmp.Ordering.TheVariants.{Less}
use Rattle.std.proofs.lemmas.Bool.Decides.{nat_tests}
use Rattle.std.proofs.lemmas.Cmp.{tied_itself}
use Rattle.std.proofs.lemmas.List.{get_or-map, length-map}
use Rattle.gufi_base.specs.Basics.{ascends}
use Rattle.gufi_base.specs.Paths.{Components, path_cmp}
use Rattle.gufi_base.proofs.SortedOnce.{sort_by-to, sort_by-ascends, same_from_sorted, less_turned}
use Rattle.gufi_base.proofs.Prefixes.{paths_total}
use Rattle.gufi_tree.specs.Tree.{Directory, dir_cmp}
use Rattle.gufi_tree.specs.Places.{path_at}
use Rattle.gufi_tree.proofs.Kids.{at_place}
use Rattle.gufi_tree.proofs.Linked.{path_at-get}
use Rattle.gufi_tree.proofs.Searched.{in_order}

-- what ascends by a value has ascending values
pub ascends-map : {X Y : Type 0} (cmp : Y → Y → Ordering) (f : X → Y) (xs : List X) → ascends (λ a b. cmp (f a) (f b)) xs ≡ true → ascends cmp (map f xs) ≡ true
ascends-map cmp f xs h = same xs ∙ h where
  same : (xs : List _) → ascends cmp (map f xs) ≡ ascends (λ a b. cmp (f a) (f b)) xs
  same [] = refl
  same (x ∷ []) = refl
  same (x ∷ y ∷ xs) = ap (λ b. cond (is_lt (cmp (f x) (f y))) b false) (same (y ∷ xs))

-- two lists of the same paths that both ascend
pub same_paths : (ps qs : List Components) → IsPermutation ps qs → ascends path_cmp ps ≡ true → ascends path_cmp qs ≡ true → ps ≡ qs
same_paths ps qs moved up down = sym (sort_by-ascends path_cmp paths_total ps up) ∙ sort_by-to path_cmp paths_total ps qs moved down

module _ (tree : List Directory) (order : ascends dir_cmp tree ≡ true) where
  -- of two places the later has no path that stands before that of the other
  later_behind : (i j : ℕ) → i < length tree → j < length tree → is_lt (nat_cmp j i) ≡ false → is_lt (path_cmp (path_at tree j) (path_at tree i)) ≡ false
  later_behind i j in_i in_j h = by (cases i j h) where
    cases : (i j : ℕ) → is_lt (nat_cmp j i) ≡ false → (i ≡ j) ⊎ (i < j)
    cases i j h = grind (arith, nat_tests)

    by : (i ≡ j) ⊎ (i < j) → is_lt (path_cmp (path_at tree j) (path_at tree i)) ≡ false
    by (inl same) = ap (λ k. is_lt (path_cmp (path_at tree j) (path_at tree k))) same ∙ ap is_lt (tied_itself paths_total (path_at tree j))
    by (inr less) =
        let d : Directory = (at_place tree i in_i).0 in
        let before : path_cmp (path_at tree i) (path_at tree j) ≡ Less = (λ n. path_cmp (path_at-get tree i d in_i n) (path_at-get tree j d in_j n)) ∙ in_order tree order i j d less in_j in
        ap is_lt (less_turned path_cmp paths_total (path_at tree i) (path_at tree j) before)

  module _ {X : Type 0} (n : X → ℕ) where
    at_each : (xs : List X) (k : ℕ) (d : X) → AllByRecursion (λ x. n x < length tree) xs → k < length xs → n (get_or xs k d) < length tree
    at_each [] k d all h = absurd (omega arith)
    at_each (x ∷ xs) zero d all h = all.0
    at_each (x ∷ xs) (suc k) d all h = at_each xs k d all.1 (omega arith)

    paths_sorted : (xs : List X) → AllByRecursion (λ x. n x < length tree) xs → IsSortedBy (λ a b. is_lt (nat_cmp (n a) (n b))) xs → IsSortedBy (λ p q. is_lt (path_cmp p q)) (map (λ x. path_at tree (n x)) xs)
    paths_sorted [] all up = λ k d a b. absurd (omega arith)
    paths_sorted (x ∷ xs) all up = λ k d a b.
        let P : X → Components = λ y. path_at tree (n y) in
        let few : k + 1 < length (x ∷ xs) = omega (arith, length-map (x ∷ xs) P) in
        ap (λ p. is_lt (path_cmp p (get_or (map P (x ∷ xs)) k d))) (get_or-map P (x ∷ xs) (k + 1) x d few)
        ∙ ap (λ p. is_lt (path_cmp (P (get_or (x ∷ xs) (k + 1) x)) p)) (get_or-map P (x ∷ xs) k x d (omega arith))
        ∙ later_behind (n (get_or (x ∷ xs) k x)) (n (get_or (x ∷ xs) (k + 1) x)) (at_each (x ∷ xs) k x all (omega arith)) (at_each (x ∷ xs) (k + 1) x all few) (up k x a few)

    -- the paths of places that are sorted are those that ascend
    pub paths_from_sorted : (xs : List X) (paths : List Components) → AllByRecursion (λ x. n x < length tree) xs → IsSortedBy (λ a b. is_lt (nat_cmp (n a) (n b))) xs
        → ascends path_cmp paths ≡ true → IsPermutation paths (map (λ x. path_at tree (n x)) xs) → map (λ x. path_at tree (n x)) xs ≡ paths
    paths_from_sorted xs paths all up down moved = same_from_sorted path_cmp paths_total paths (map (λ x. path_at tree (n x)) xs) down moved (paths_sorted xs all up)
