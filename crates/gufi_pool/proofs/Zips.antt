-- Two lists, member by member.
use Rattle.std.proofs.Common.{◌≡◌, ℕ, zero, suc, ◌+◌, ◌<◌, List, [], ◌∷◌, ◌++◌, map, length, get_or, arith, refl, sym, subst, Ok, IfOk, Result, ap, All, sum_by, set, add-one}
use Rattle.std.proofs.lemmas.List.Sums.{sum_by-cons}
use Rattle.std.proofs.lemmas.List.Elements.{All-nil, All-cons, All-head, All-tail}
use Rattle.std.specs.List.{AllZip}
use Rattle.gufi_pool.specs.Members.{changed}

module _ {A B : Type 0} (R : A → B → Type 0) where
  zip_values : (E : Type 0) (xs : List A) (ys : List B) → AllZip (λ a r. IfOk r (R a)) xs (map {B = Result B E} Ok ys) → AllZip R xs ys
  zip_values E [] [] z = tt
  zip_values E [] (b ∷ ys) z = absurd z
  zip_values E (a ∷ xs) [] z = absurd z
  zip_values E (a ∷ xs) (b ∷ ys) z = (z.0, zip_values E xs ys z.1)

  -- results of which each is there
  pub zip_results : {E : Type 0} (xs : List A) (rs : List (Result B E)) (ys : List B) → rs ≡ map Ok ys → AllZip (λ a r. IfOk r (R a)) xs rs → AllZip R xs ys
  zip_results {E} xs rs ys is z = zip_values E xs ys (subst (AllZip (λ a r. IfOk r (R a)) xs) is z)

module _ {A B : Type 0} (f : A → B) where
  -- what follows from a part of each member that has stayed
  pub all_through : (P : B → Type 0) (xs ys : List A) → map f ys ≡ map f xs → All (λ x. P (f x)) xs → All (λ y. P (f y)) ys
  all_through P xs [] e h = All-nil _
  all_through P [] (y ∷ ys) e h = cc
  all_through P (x ∷ xs) (y ∷ ys) e h =
      let first : f x ≡ f y = cc in
      let rest : map f ys ≡ map f xs = cc in
      All-cons (λ z. P (f z)) y ys (subst P first (All-head (λ z. P (f z)) x xs h)) (all_through P xs ys rest (All-tail (λ z. P (f z)) x xs h))

  pub map_through : {C : Type 0} (k : B → C) (xs ys : List A) → map f ys ≡ map f xs → map (λ y. k (f y)) ys ≡ map (λ x. k (f x)) xs
  map_through k [] [] e = refl
  map_through k [] (y ∷ ys) e = cc
  map_through k (x ∷ xs) [] e = cc
  map_through k (x ∷ xs) (y ∷ ys) e =
      let first : f y ≡ f x = cc in
      let rest = map_through k xs ys cc in
      cc (ap k first)

  pub sum_through : (k : B → ℕ) (xs ys : List A) → map f ys ≡ map f xs → sum_by (λ y. k (f y)) ys ≡ sum_by (λ x. k (f x)) xs
  sum_through k [] [] e = refl
  sum_through k [] (y ∷ ys) e = cc
  sum_through k (x ∷ xs) [] e = cc
  sum_through k (x ∷ xs) (y ∷ ys) e =
      let first : f y ≡ f x = cc in
      let same = ap k first in
      let rest = sum_through k xs ys cc in
      omega (arith, sum_by-cons (λ z. k (f z)) x xs, sum_by-cons (λ z. k (f z)) y ys)

module _ {A : Type 0} where
  changed_suc : (f : A → A) (k : ℕ) (l : List A) (d : A) → k < length l → set (changed f k l) k (f (get_or (changed f k l) k d)) ≡ changed f (suc k) l
  changed_suc f zero [] d lt = absurd (omega arith)
  changed_suc f zero (x ∷ xs) d lt = refl
  changed_suc f (suc k) [] d lt = absurd (omega arith)
  changed_suc f (suc k) (x ∷ xs) d lt = ap (λ ys. f x ∷ ys) (changed_suc f k xs d (omega arith))

  pub changed_more : (f : A → A) (k : ℕ) (l : List A) (d : A) → k < length l → set (changed f k l) k (f (get_or (changed f k l) k d)) ≡ changed f (k + 1) l
  changed_more f k l d lt = rw add-one (changed_suc f k l d lt)

  pub changed_here : (f : A → A) (k : ℕ) (l : List A) (d : A) → get_or (changed f k l) k d ≡ get_or l k d
  changed_here f zero l d = refl
  changed_here f (suc k) [] d = refl
  changed_here f (suc k) (x ∷ xs) d = changed_here f k xs d

  pub changed_all : (f : A → A) (l : List A) → changed f (length l) l ≡ map f l
  changed_all f [] = refl
  changed_all f (x ∷ xs) = ap (λ ys. f x ∷ ys) (changed_all f xs)

module _ {A B : Type 0} (f : A → B) where
  pub map-set : (l : List A) (i : ℕ) (a : A) → map f (set l i a) ≡ set (map f l) i (f a)
  map-set [] i a = refl
  map-set (x ∷ xs) zero a = refl
  map-set (x ∷ xs) (suc i) a = ap (λ ys. f x ∷ ys) (map-set xs i a)

  pub get_or-map : (l : List A) (i : ℕ) (d : A) (e : B) → i < length l → get_or (map f l) i e ≡ f (get_or l i d)
  get_or-map [] i d e lt = absurd (omega arith)
  get_or-map (x ∷ xs) zero d e lt = refl
  get_or-map (x ∷ xs) (suc i) d e lt = get_or-map xs i d e (omega arith)

pub map_map : {A B C : Type 0} (f : A → B) (g : B → C) (l : List A) → map g (map f l) ≡ map (λ x. g (f x)) l
map_map f g [] = refl
map_map f g (x ∷ xs) = ap (λ ys. g (f x) ∷ ys) (map_map f g xs)

module _ {A B : Type 0} (R : A → B → Type 0) where
  pub zip_push : (xs : List A) (ys : List B) (x : A) (y : B) → AllZip R xs ys → R x y → AllZip R (xs ++ x ∷ []) (ys ++ y ∷ [])
  zip_push [] [] x y z r = (r, tt)
  zip_push [] (b ∷ bs) x y z r = absurd z
  zip_push (a ∷ xs) [] x y z r = absurd z
  zip_push (a ∷ xs) (b ∷ bs) x y z r = (z.0, zip_push xs bs x y z.1 r)

  pub zip_length : (xs : List A) (ys : List B) → AllZip R xs ys → length ys ≡ length xs
  zip_length [] [] z = refl
  zip_length [] (b ∷ bs) z = absurd z
  zip_length (a ∷ xs) [] z = absurd z
  zip_length (a ∷ xs) (b ∷ bs) z = let r = zip_length xs bs z.1 in omega arith

module _ {A B E : Type 0} (R : A → B → Type 0) where
  -- one more result, behind the others
  pub zip_one_more : (all xs : List A) (x : A) (answers rs : List (Result B E)) (r : Result B E) → all ≡ xs ++ x ∷ [] → answers ≡ rs ++ r ∷ [] → AllZip (λ a s. IfOk s (R a)) xs rs → IfOk r (R x) → AllZip (λ a s. IfOk s (R a)) all answers
  zip_one_more all xs x answers rs r e f z k =
      let S : A → Result B E → Type 0 = λ a s. IfOk s (R a) in
      subst (λ l. AllZip S l answers) (sym e) (subst (AllZip S (xs ++ x ∷ [])) (sym f) (zip_push S xs rs x r z k))
