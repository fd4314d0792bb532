-- The directories of a generated trace are a tree.
use Rattle.std.proofs.Common.{◌≡◌, ℕ, zero, suc, ◌+◌, ◌<◌, ◌≤◌, ◌⊎◌, inl, inr, Bool, true, false, not, cond, List, [], ◌∷◌, ◌++◌, map, refl, sym, ap, ◌∙◌, subst, arith}
use Rattle.std.specs.Prelude.{◌/◌, ◌%◌, decimal}
use Rattle.std.specs.Fmt.{digits}
use Rattle.std.specs.Ordering.{is_eq}
use Rattle.std.specs.List.{list_all, range_with_len}
use Rattle.std.specs.List.Sorted.{IsPermutation}
use Rattle.std.proofs.lemmas.Bool.{and_from, not_from_false, false_from_ne_true, cases_order}
use Rattle.gufi_base.specs.Basics.{ascends}
use Rattle.gufi_base.specs.Kinds.{is_dir}
use Rattle.gufi_base.specs.Limits.{max_dirs}
use Rattle.gufi_base.specs.Paths.{path_cmp, parent_path}
use Rattle.gufi_base.proofs.Sorting.{IsPermutation-sort_by}
use Rattle.gufi_base.proofs.SortedOnce.{times, ascends-sort_by}
use Rattle.std.proofs.lemmas.List.Sorted.{IsPermutation-sym}
use Rattle.gufi_tree.specs.declared.tree.Entry.{Entry}
use Rattle.gufi_tree.specs.Tree.{Directory, dir_cmp, entry_cmp, has_dir, is_at, is_kinded, HasTreeShape}
use Rattle.gufi_tree.proofs.Built.{Has, path_eq-Decides, parent_path-child, dir_cmp-total}
use Rattle.gufi_tree.proofs.Faultless.{is_eq-path_cmp}
use Rattle.gufi_tree.proofs.Filters.{any-none}
use Rattle.gufi_tree.proofs.Flat.{found-has_dir}
use Rattle.gufi_tree.proofs.Placed.{list_all-from_Has}
use Rattle.gufi_tree.proofs.RowHomes.{Has-IsPermutation}
use Rattle.gufi_gen.specs.Generated.{directory_path, made_file, made_dir, made_dirs}
use Rattle.gufi_gen.specs.MadeTree.{made_tree}
use Rattle.gufi_gen.proofs.MadeNames.{made_path, same_directory, not_an_entry}

-- ---- what is made of numbers

module _ {X : Type 0} (f : ℕ → X) where
  pub range_found : (a n : ℕ) (x : X) → Has (map f (range_with_len a n)) x → (i : ℕ) × (a ≤ i) × (i < a + n) × (f i ≡ x)
  range_found a zero x k = absurd k
  range_found a (suc n) x (inl e) = (a, omega arith, omega arith, e)
  range_found a (suc n) x (inr k) =
      let w = range_found (a + 1) n x k in
      let low = w.1 in
      let high = w.2 in
      (w.0, omega arith, omega arith, w.3)

  pub range_has : (a n i : ℕ) → a ≤ i → i < a + n → Has (map f (range_with_len a n)) (f i)
  range_has a zero i low high = absurd (omega arith)
  range_has a (suc n) i low high = by (range_has (a + 1) n i) (cases_order a i) where
    by : (a + 1 ≤ i → i < a + 1 + n → Has (map f (range_with_len (a + 1) n)) (f i)) → (a ≡ i) ⊎ ((a < i) ⊎ (i < a)) → Has (map f (range_with_len a (suc n))) (f i)
    by rest (inl e) = inl (ap f e)
    by rest (inr (inl lt)) = inr (rest (omega arith) (omega arith))
    by rest (inr (inr lt)) = absurd (omega arith)

  none_passes : (q : X → Bool) (xs : List X) → ((x : X) → Has xs x → q x ≡ false) → times q xs ≡ 0
  none_passes q [] h = refl
  none_passes q (x ∷ xs) h = let rest = none_passes q xs (λ y k. h y (inr k)) in rw (h x (inl refl)) (omega arith)

  -- where at most one number passes
  range_once : (q : X → Bool) (a n : ℕ) → ((i j : ℕ) → i < a + n → j < a + n → q (f i) ≡ true → q (f j) ≡ true → i ≡ j) → times q (map f (range_with_len a n)) ≤ 1
  range_once q a zero h = omega arith
  range_once q a (suc n) h = by (q (f a)) refl (range_once q (a + 1) n (λ i j l m e g. h i j (omega arith) (omega arith) e g)) where
    by : (b : Bool) → q (f a) ≡ b → times q (map f (range_with_len (a + 1) n)) ≤ 1 → cond b 1 0 + times q (map f (range_with_len (a + 1) n)) ≤ 1
    by true e rest =
        let none = none_passes q (map f (range_with_len (a + 1) n)) (λ x k. false_from_ne_true (q x) (λ g.
        let w = range_found (a + 1) n x k in
        let low = w.1 in
        let high = w.2 in
        let same = h a w.0 (omega arith) (omega arith) e (ap q w.3 ∙ g) in
        omega arith)) in
        omega arith
    by false e rest = omega arith

-- ---- each directory

made_kinded : (i : ℕ) → is_kinded (made_dir i) ≡ true
made_kinded i = and_from _ _ refl (list_all-from_Has (λ (e : Entry). not (is_dir e.rec.meta.kind)) (map (made_file i) (range_with_len 0 (i % 5))) (λ e k.
    let w = range_found (made_file i) 0 (i % 5) e k in
    ap (λ (v : Entry). not (is_dir v.rec.meta.kind)) (sym w.3)))

files_ascend : (i k : ℕ) → k < 5 → ascends entry_cmp (map (made_file i) (range_with_len 0 k)) ≡ true
unfolding digits
files_ascend i zero h = refl
files_ascend i (suc zero) h = refl
files_ascend i (suc (suc zero)) h = refl
files_ascend i (suc (suc (suc zero))) h = refl
files_ascend i (suc (suc (suc (suc zero)))) h = refl
files_ascend i (suc (suc (suc (suc (suc k))))) h = absurd (omega arith)

pub dirs_kinded : (n : ℕ) → list_all is_kinded (made_dirs n) ≡ true
dirs_kinded n = list_all-from_Has is_kinded (made_dirs n) (λ d k. let w = range_found made_dir 0 n d k in subst (λ (v : Directory). is_kinded v ≡ true) w.3 (made_kinded w.0))

pub tree_moved : (n : ℕ) → IsPermutation (made_dirs n) (made_tree n)
unfolding made_tree
tree_moved n = IsPermutation-sort_by dir_cmp (made_dirs n)

module _ (n : ℕ) (some : 1 ≤ n) (few : n ≤ max_dirs) where
  -- each directory of the tree has a number
  pub numbered : (d : Directory) → Has (made_tree n) d → (i : ℕ) × (i < n) × (made_dir i ≡ d)
  numbered d k =
      let w = range_found made_dir 0 n d (Has-IsPermutation d (made_tree n) (made_dirs n) (IsPermutation-sym _ _ (tree_moved n)) k) in
      let high = w.2 in
      (w.0, omega arith, w.3)

  there : (i : ℕ) → i < n → has_dir (made_tree n) (directory_path i) ≡ true
  there i lt = found-has_dir (made_tree n) (made_dir i) (Has-IsPermutation (made_dir i) (made_dirs n) (made_tree n) (tree_moved n) (range_has made_dir 0 n i (omega arith) (omega arith)))

  each : (p : Directory → Bool) → ((i : ℕ) → i < n → p (made_dir i) ≡ true) → list_all p (made_tree n) ≡ true
  each p h = list_all-from_Has p (made_tree n) (λ d k. let w = numbered d k in subst (λ (v : Directory). p v ≡ true) w.2 (h w.0 w.1))

  parent_there : (i : ℕ) → i < n → has_dir (made_tree n) (parent_path (directory_path i)) ≡ true
  parent_there zero lt = there 0 lt
  parent_there (suc i) lt =
      let parent : parent_path (directory_path (suc i)) ≡ directory_path (i / 8) = ap parent_path (made_path i) ∙ parent_path-child (directory_path (i / 8)) (100 ∷ decimal (suc i)) in
      ap (has_dir (made_tree n)) parent ∙ there (i / 8) (omega arith)

  pub in_order : ascends dir_cmp (made_tree n) ≡ true
  unfolding made_tree
  in_order = ascends-sort_by dir_cmp dir_cmp-total (made_dirs n) (λ z.
      let at : (i : ℕ) → is_eq (path_cmp z.path (directory_path i)) ≡ true → z.path ≡ directory_path i = λ i e. (path_eq-Decides z.path (directory_path i)).0 (sym (is_eq-path_cmp z.path (directory_path i)) ∙ e) in
      range_once made_dir (λ (d : Directory). is_eq (dir_cmp z d)) 0 n (λ i j l m e g. same_directory i j (omega arith) (omega arith) (sym (at i e) ∙ at j g)))

  no_directory : (i j : ℕ) → has_dir (made_tree n) (directory_path i ++ (102 ∷ decimal j) ∷ []) ≡ false
  no_directory i j = any-none (is_at (directory_path i ++ (102 ∷ decimal j) ∷ [])) (made_tree n) (λ c k. false_from_ne_true _ (λ h.
      let w = numbered c k in
      not_an_entry w.0 (directory_path i) (decimal j)
      ((path_eq-Decides (directory_path i ++ (102 ∷ decimal j) ∷ []) c.path).0 h ∙ ap (λ (v : Directory). v.path) (sym w.2))))

  free : (i : ℕ) → list_all (λ (e : Entry). not (has_dir (made_tree n) (directory_path i ++ e.name ∷ []))) (made_dir i).entries ≡ true
  free i = list_all-from_Has (λ (e : Entry). not (has_dir (made_tree n) (directory_path i ++ e.name ∷ []))) (made_dir i).entries (λ e k.
      let w = range_found (made_file i) 0 (i % 5) e k in
      subst (λ (v : Entry). not (has_dir (made_tree n) (directory_path i ++ v.name ∷ [])) ≡ true) w.3 (not_from_false _ (no_directory i w.0)))

  pub made_shape : HasTreeShape (made_tree n)
  made_shape = record {
    root = there 0 (omega arith);
    order = in_order;
    parents = each (λ (d : Directory). has_dir (made_tree n) (parent_path d.path)) parent_there;
    entries = each (λ (d : Directory). ascends entry_cmp d.entries) (λ i lt. files_ascend i (i % 5) (omega arith));
    kinds = each is_kinded (λ i lt. made_kinded i);
    apart = each (λ (d : Directory). list_all (λ (e : Entry). not (has_dir (made_tree n) (d.path ++ e.name ∷ []))) d.entries) (λ i lt. free i);
  }
