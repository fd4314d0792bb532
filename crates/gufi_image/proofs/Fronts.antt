-- Lists that grow by one.
use Rattle.std.proofs.Common.{◌≡◌, ℕ, zero, suc, ◌<◌, Bool, true, false, not, ◌||◌, cond, List, [], ◌∷◌, ◌++◌, get_or, Some, refl, sym, ap, ◌∙◌, inl, inr, ◌⊎◌}
use Rattle.std.specs.Prelude.{slice_get}
use Rattle.std.specs.declared.cmp.Ordering.TheVariants.{Less, Equal, Greater}
use Rattle.std.specs.declared.cmp.Ordering.{Ordering}
use Rattle.std.specs.Ordering.{is_lt, ordering_then}
use Rattle.std.specs.List.{list_any, list_all}
use Rattle.std.proofs.lemmas.Bool.{and_parts, and_from, cases_order}
use Rattle.std.proofs.lemmas.Cmp.{nat_list_cmp_total, tied_itself}
use Rattle.std.proofs.lemmas.List.Folds.{list_any-append}
use Rattle.std.proofs.lemmas.Option.{slice_get_within, get_or_from_slice_get}
use Rattle.gufi_base.specs.Basics.{ascends, last_of}
use Rattle.gufi_base.specs.Paths.{Components, path_cmp, path_eq}
use Rattle.gufi_tree.specs.Tree.{Directory, dir_cmp, has_dir, is_at}
use Rattle.gufi_tree.proofs.Built.{path_cmp-total, dir_cmp-total}
use Rattle.gufi_image.proofs.Searches.{in_order, some_same}

pub cond_parts : (b c : Bool) → cond b c false ≡ true → (b ≡ true) × (c ≡ true)
cond_parts true c e = (refl, e)
cond_parts false c e = absurd cc

pub or_none : (b : Bool) → (b || false) ≡ b
or_none true = refl
or_none false = refl

pub push_up : {X : Type 0} (cmp : X → X → Ordering) (first : X) (xs : List X) (x : X) → ascends cmp (first ∷ xs) ≡ true → is_lt (cmp (last_of first xs) x) ≡ true → ascends cmp ((first ∷ xs) ++ x ∷ []) ≡ true
push_up cmp first [] x up lt = rw lt refl
push_up cmp first (y ∷ ys) x up lt =
    let both = cond_parts (is_lt (cmp first y)) (ascends cmp (y ∷ ys)) up in
    rw both.0 (push_up cmp y ys x both.1 lt)

pub all_push : {X : Type 0} (q : X → Bool) (xs : List X) (x : X) → list_all q xs ≡ true → q x ≡ true → list_all q (xs ++ x ∷ []) ≡ true
all_push q [] x all here = rw here refl
all_push q (y ∷ ys) x all here =
    let both = and_parts (q y) (list_all q ys) all in
    and_from (q y) (list_all q (ys ++ x ∷ [])) both.0 (all_push q ys x both.1 here)

pub all_weaken : {X : Type 0} (q r : X → Bool) (xs : List X) → ((i : ℕ) (x : X) → slice_get xs i ≡ Some x → q x ≡ true → r x ≡ true) → list_all q xs ≡ true → list_all r xs ≡ true
all_weaken q r [] h all = refl
all_weaken q r (x ∷ xs) h all =
    let both = and_parts (q x) (list_all q xs) all in
    and_from (r x) (list_all r xs) (h 0 x refl both.0) (all_weaken q r xs (λ i y e p. h (suc i) y e p) both.1)

pub any_there : {X : Type 0} (q : X → Bool) (xs : List X) (i : ℕ) (x : X) → slice_get xs i ≡ Some x → q x ≡ true → list_any q xs ≡ true
any_there q [] i x e here = absurd cc
any_there q (y ∷ ys) zero x e here = let own : q y ≡ true = ap q (some_same y x e) ∙ here in rw own refl
any_there q (y ∷ ys) (suc i) x e here = by (q y) (any_there q ys i x e here) where
  by : (b : Bool) → list_any q ys ≡ true → (b || list_any q ys) ≡ true
  by true h = refl
  by false h = h

-- a path with one name more is above the path
pub path_more : (p : Components) (name : List ℕ) → path_cmp (p ++ name ∷ []) p ≡ Greater
path_more [] name = refl
path_more (n ∷ p) name = ap (λ (o : Ordering). ordering_then o (path_cmp (p ++ name ∷ []) p)) (tied_itself nat_list_cmp_total n) ∙ path_more p name

-- one directory more
pub has_more : (dirs : List Directory) (d : Directory) (path : Components) → has_dir dirs path ≡ true → has_dir (dirs ++ d ∷ []) path ≡ true
has_more dirs d path h = list_any-append (is_at path) dirs (d ∷ []) ∙ ap (λ b. b || (path_eq path d.path || false)) h

pub has_neither : (dirs : List Directory) (d : Directory) (path : Components) → has_dir dirs path ≡ false → path_eq path d.path ≡ false → has_dir (dirs ++ d ∷ []) path ≡ false
has_neither dirs d path h k = list_any-append (is_at path) dirs (d ∷ []) ∙ ap (λ b. b || (path_eq path d.path || false)) h ∙ ap (λ b. b || false) k

pub not_true : (b : Bool) → not b ≡ true → b ≡ false
not_true true e = absurd cc
not_true false e = refl

-- a directory is the only one with its path
pub one_path : (dirs : List Directory) (i j : ℕ) (a b : Directory) → ascends dir_cmp dirs ≡ true → slice_get dirs i ≡ Some a → slice_get dirs j ≡ Some b → a.path ≡ b.path → a ≡ b
one_path dirs i j a b up ei ej same = by (cases_order i j) where
  a-is : get_or dirs i a ≡ a
  a-is = get_or_from_slice_get dirs i a a ei

  b-is : get_or dirs j a ≡ b
  b-is = get_or_from_slice_get dirs j b a ej

  tied : path_cmp (get_or dirs i a).path (get_or dirs j a).path ≡ Equal
  tied = ap (λ (v : Directory). path_cmp v.path (get_or dirs j a).path) a-is ∙ ap (λ (v : Directory). path_cmp a.path v.path) b-is ∙ ap (λ (p : Components). path_cmp a.path p) (sym same) ∙ tied_itself path_cmp-total a.path

  back : path_cmp (get_or dirs j a).path (get_or dirs i a).path ≡ Equal
  back = ap (λ (v : Directory). path_cmp v.path (get_or dirs i a).path) b-is ∙ ap (λ (v : Directory). path_cmp b.path v.path) a-is ∙ ap (λ (p : Components). path_cmp b.path p) same ∙ tied_itself path_cmp-total b.path

  by : (i ≡ j) ⊎ ((i < j) ⊎ (j < i)) → a ≡ b
  by (inr (inl lt)) = let clash : Less ≡ Equal = sym (in_order dir_cmp dir_cmp-total dirs up i j a lt (slice_get_within dirs j b ej)) ∙ tied in absurd cc
  by (inl e) = some_same a b (sym ei ∙ ap (slice_get dirs) e ∙ ej)
  by (inr (inr lt)) = let clash : Less ≡ Equal = sym (in_order dir_cmp dir_cmp-total dirs up j i a lt (slice_get_within dirs i a ei)) ∙ back in absurd cc
