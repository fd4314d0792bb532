-- What is below all others comes first of what is sorted.
use Rattle.std.proofs.Common.{◌≡◌, Bool, true, false, cond, List, [], ◌∷◌, ◌++◌, refl, ap, ◌∙◌}
use Rattle.std.specs.declared.cmp.Ordering.{Ordering}
use Rattle.std.specs.declared.cmp.Ordering.TheVariants.{Less}
use Rattle.std.specs.Ordering.{is_lt}
use Rattle.std.specs.Cmp.{IsTotalOrder}
use Rattle.std.specs.List.{AllByRecursion}
use Rattle.gufi_base.specs.Basics.{insert_by, sort_by}
use Rattle.gufi_base.proofs.SortedOnce.{less_turned}

module _ {A : Type 0} (cmp : A → A → Ordering) (o : IsTotalOrder cmp) where
  abbrev pub Below : A → List A → Type 0
  Below x xs = AllByRecursion (λ y. cmp x y ≡ Less) xs

  inserted_below : (x y : A) (ys : List A) → cmp x y ≡ Less → Below x ys → Below x (insert_by cmp y ys)
  inserted_below x y [] e below = (e, tt)
  inserted_below x y (z ∷ zs) e below = by (is_lt (cmp z y)) (inserted_below x y zs e below.1) where
    by : (b : Bool) → Below x (insert_by cmp y zs) → Below x (cond b (z ∷ insert_by cmp y zs) (y ∷ z ∷ zs))
    by true rest = (below.0, rest)
    by false rest = (e, below)

  sorted_below : (x : A) (ys : List A) → Below x ys → Below x (sort_by cmp ys)
  sorted_below x [] below = tt
  sorted_below x (y ∷ ys) below = inserted_below x y (sort_by cmp ys) below.0 (sorted_below x ys below.1)

  in_front : (x : A) (ys : List A) → Below x ys → insert_by cmp x ys ≡ x ∷ ys
  in_front x [] below = refl
  in_front x (y ∷ ys) below = rw (less_turned cmp o x y below.0) refl

  behind : (x z : A) (ys : List A) → cmp x z ≡ Less → insert_by cmp z (x ∷ ys) ≡ x ∷ insert_by cmp z ys
  behind x z ys e = rw e refl

  pub sort_by-least : (x : A) (xs ys : List A) → Below x (xs ++ ys) → sort_by cmp (xs ++ x ∷ ys) ≡ x ∷ sort_by cmp (xs ++ ys)
  sort_by-least x [] ys below = in_front x (sort_by cmp ys) (sorted_below x ys below)
  sort_by-least x (z ∷ xs) ys below = ap (insert_by cmp z) (sort_by-least x xs ys below.1) ∙ behind x z (sort_by cmp (xs ++ ys)) below.0
