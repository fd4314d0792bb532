-- What a search in path order finds.
use Rattle.std.proofs.Common.{◌≡◌, ℕ, zero, suc, ◌+◌, ◌<◌, ◌≤◌, true, false, List, [], ◌∷◌, map, length, get_or, Result, Ok, Err, Some, None, refl, sym, ap, ◌∙◌, arith, ⊎_elim}
use Rattle.std.specs.declared.cmp.Ordering.TheVariants.{Less}
use Rattle.std.specs.declared.cmp.Ordering.{Ordering}
use Rattle.std.specs.Ordering.{is_lt, ordering_index, ordering_reverse}
use Rattle.std.specs.List.{AllByRecursion, position_or_len}
use Rattle.std.specs.Result.{result_ok}
use Rattle.std.specs.List.Sorted.{IsBinarySearchResult, IsNonDecreasingBy, IsSearchInRange, IsSortedBy}
use Rattle.std.proofs.lemmas.Bool.{cases_lt, cond-true, cond-false, lt-ltb, le-ltb}
use Rattle.std.proofs.lemmas.List.{get_or-map, length-map}
use Rattle.std.proofs.lemmas.List.Sums.{position_or_len_is}
use Rattle.std.proofs.lemmas.List.Sorted.{searchable_from_sorted}
use Rattle.gufi_base.specs.Basics.{ascends}
use Rattle.gufi_base.specs.Paths.{Components, path_cmp, path_eq}
use Rattle.gufi_base.proofs.SortedOnce.{below_all, ascends-tail}
use Rattle.gufi_tree.specs.declared.tree.Stored.{Stored}
use Rattle.gufi_tree.specs.Tree.{Directory, dir_cmp, place_of, is_at}
use Rattle.gufi_tree.specs.Stored.{directory_of, directories_of, AreInOrder}
use Rattle.gufi_tree.proofs.Built.{path_cmp-total, dir_cmp-total, path_eq-Decides, path_eq-more, path_eq-less}
use Rattle.gufi_tree.proofs.Faultless.{exact_paths}

-- the paths of directories in order
pub in_order : (tree : List Directory) → ascends dir_cmp tree ≡ true → (i j : ℕ) (d : Directory) → i < j → j < length tree → path_cmp (get_or tree i d).path (get_or tree j d).path ≡ Less
in_order [] up i j d lt in' = absurd (omega arith)
in_order (x ∷ tree) up i zero d lt in' = absurd (omega arith)
in_order (x ∷ tree) up zero (suc j) d lt in' = at tree j (below_all dir_cmp dir_cmp-total x tree up) (omega arith) where
  at : (ys : List Directory) (k : ℕ) → AllByRecursion (λ (y : Directory). dir_cmp x y ≡ Less) ys → k < length ys → path_cmp x.path (get_or ys k d).path ≡ Less
  at [] k h l = absurd (omega arith)
  at (y ∷ ys) zero h l = h.0
  at (y ∷ ys) (suc k) h l = at ys k h.1 (omega arith)
in_order (x ∷ tree) up (suc i) (suc j) d lt in' = in_order tree (ascends-tail dir_cmp dir_cmp-total x tree up) i j d (omega arith) (omega arith)

-- a directory is at the place where its path stands, and nowhere else
pub place_of-at : (tree : List Directory) (path : Components) (k : ℕ) (d : Directory) → ascends dir_cmp tree ≡ true → k < length tree → (get_or tree k d).path ≡ path → place_of tree path ≡ Some k
place_of-at tree path k d up lt e =
    let here : path_eq path (get_or tree k d).path ≡ true = (path_eq-Decides path (get_or tree k d).path).1 (sym e) in
    let first : position_or_len (is_at path) tree ≡ k =
    position_or_len_is (is_at path) tree k d (omega arith)
    (λ i below. path_eq-more path (get_or tree i d).path (ap (path_cmp (get_or tree i d).path) (sym e) ∙ in_order tree up i k d below lt)) (λ l. here) in
    rw first (cond-true _ (Some k) None (lt-ltb k (length tree) lt))

pub place_of-none : (tree : List Directory) (path : Components) → ((k : ℕ) (d : Directory) → k < length tree → path_eq path (get_or tree k d).path ≡ false) → place_of tree path ≡ None
place_of-none [] path none = refl
place_of-none (x ∷ tree) path none =
    let first : position_or_len (is_at path) (x ∷ tree) ≡ length (x ∷ tree) =
    position_or_len_is (is_at path) (x ∷ tree) (length (x ∷ tree)) x (omega arith) (λ i below. none i x below) (λ l. absurd (omega arith)) in
    rw first (cond-false _ (Some (length (x ∷ tree))) None (le-ltb (length (x ∷ tree)) (length (x ∷ tree)) (omega arith)))

sorted_from : (tree : List Directory) → ascends dir_cmp tree ≡ true → IsSortedBy (λ x y. is_lt (dir_cmp x y)) tree
sorted_from tree up = λ k d low high.
    let less : path_cmp (get_or tree k d).path (get_or tree (k + 1) d).path ≡ Less = in_order tree up k (k + 1) d (omega arith) high in
    ap is_lt (path_cmp-total.antisymm (get_or tree (k + 1) d).path (get_or tree k d).path ∙ ap ordering_reverse less)

-- a path, sought among directories in order
pub rising_paths : (tree : List Directory) (path : Components) → ascends dir_cmp tree ≡ true → IsNonDecreasingBy (λ (d : Directory). ordering_index (path_cmp d.path path)) tree
rising_paths tree path up = searchable_from_sorted path_cmp-total (λ (d : Directory). d.path) tree path (sorted_from tree up)

pub searched_dirs : (tree : List Directory) (path : Components) (r : Result ℕ ℕ) → ascends dir_cmp tree ≡ true → IsSearchInRange r (length tree) → IsBinarySearchResult (λ (d : Directory). path_cmp d.path path) tree r
    → result_ok r ≡ place_of tree path
searched_dirs [] path (Ok i) up range found = absurd (omega (arith, range))
searched_dirs (x ∷ tree) path (Ok i) up range found = sym (place_of-at (x ∷ tree) path i x up range (exact_paths (get_or (x ∷ tree) i x).path path (found x)))
searched_dirs tree path (Err i) up range found =
    let parts = found (rising_paths tree path up) in
    sym (place_of-none tree path (λ k d lt. ⊎_elim
    (λ (below : k < i). path_eq-more path (get_or tree k d).path (parts.0 k d (omega arith) below))
    (λ (from : i ≤ k). path_eq-less path (get_or tree k d).path (path_cmp-total.antisymm path (get_or tree k d).path ∙ ap ordering_reverse (parts.1 k d from lt))) (cases_lt k i)))

-- a search by what is seen of each element
module _ {A B : Type 0} (f : A → B) where
  seen_range : (xs : List A) (r : Result ℕ ℕ) → IsSearchInRange r (length xs) → IsSearchInRange r (length (map f xs))
  seen_range xs (Ok i) range = omega (arith, length-map xs f, range)
  seen_range xs (Err i) range = omega (arith, length-map xs f, range)

  seen_search : (ord : B → Ordering) (xs : List A) (r : Result ℕ ℕ) → IsSearchInRange r (length xs) → IsBinarySearchResult (λ a. ord (f a)) xs r → IsBinarySearchResult ord (map f xs) r
  seen_search ord [] (Ok i) range found = absurd (omega (arith, range))
  seen_search ord (x ∷ xs) (Ok i) range found = λ b. ap ord (get_or-map f (x ∷ xs) i x b range) ∙ found x
  seen_search ord [] (Err i) range found = λ rising. (λ k b low high. absurd (omega (arith, range, high)), λ k b low high. absurd (omega (arith, high)))
  seen_search ord (x ∷ xs) (Err i) range found = λ rising.
      let len = length-map (x ∷ xs) f in
      let at : (k : ℕ) (a : A) → k < length (x ∷ xs) → ordering_index (ord (get_or (map f (x ∷ xs)) k (f a))) ≡ ordering_index (ord (f (get_or (x ∷ xs) k a))) = λ k a lt. ap (λ b. ordering_index (ord b)) (get_or-map f (x ∷ xs) k a (f a) lt) in
      let parts = found (λ k j a le lt. omega (arith, rising k j (f a) le (omega (arith, len, lt)), at k a (omega (arith, le, lt)), at j a lt)) in (
        λ k b low high. ap ord (get_or-map f (x ∷ xs) k x b (omega (arith, range, high))) ∙ parts.0 k x low high,
        λ k b low high. let within : k < length (x ∷ xs) = omega (arith, len, high) in ap ord (get_or-map f (x ∷ xs) k x b within) ∙ parts.1 k x low within,
      )

pub searched : (stored : List Stored) (path : Components) (r : Result ℕ ℕ) → AreInOrder stored → IsSearchInRange r (length stored) → IsBinarySearchResult (λ (s : Stored). path_cmp s.path path) stored r
    → result_ok r ≡ place_of (directories_of stored) path
searched stored path r order range found =
    searched_dirs (directories_of stored) path r order (seen_range directory_of stored r range) (seen_search directory_of (λ (d : Directory). path_cmp d.path path) stored r range found)
