-- Lists that change at one place in each turn of a loop.
use Rattle.std.proofs.Common.{◌≡◌, ℕ, ◌+◌, ◌<◌, List, [], ◌∷◌, ◌++◌, map, length, get_or, take, set, arith, refl, sym, ◌∙◌, subst, ap, All, length-append}
use Rattle.std.proofs.lemmas.List.{take_more, map-append, length-map}
use Rattle.gufi_pool.specs.Members.{changed}
use Rattle.gufi_pool.proofs.Zips.{changed_more, changed_here}

module _ (f : ℕ → ℕ) (all now : List ℕ) (k : ℕ) where
  -- the number at k is still the old one
  pub changed_next : (P : ℕ → Type 0) → now ≡ changed f k all → k < length all → All P all → P (get_or now k 0)
  changed_next P is lt h = subst (λ l. P (get_or l k 0)) (sym is) (subst P (sym (changed_here f k all 0)) (h k 0 lt))

  pub changed_step : (next : List ℕ) → now ≡ changed f k all → k < length all → next ≡ set now k (f (get_or now k 0)) → next ≡ changed f (k + 1) all
  changed_step next is lt e = e ∙ ap (λ l. set l k (f (get_or l k 0))) is ∙ changed_more f k all 0 lt

module _ {A B D : Type 0} (f : A → B) (made : D → B) where
  -- one more item was made for the next place
  pub made_more : (all : List D) (k : ℕ) (items next : List A) (a : A) (d : D) → map f items ≡ map made (take k all) → k < length all → f a ≡ made (get_or all k d) → next ≡ items ++ a ∷ [] → map f next ≡ map made (take (k + 1) all)
  made_more all k items next a d so_far lt one e =
      ap (map f) e ∙ map-append f items (a ∷ []) ∙ ap (λ l. l ++ f a ∷ []) so_far ∙ ap (λ b. map made (take k all) ++ b ∷ []) one
      ∙ sym (map-append made (take k all) (get_or all k d ∷ [])) ∙ ap (map made) (sym (take_more all k d lt))

  -- an item in the middle was made for its place
  pub made_at : (ys zs : List A) (a : A) (all : List D) (k : ℕ) (d : D) → map f (ys ++ a ∷ zs) ≡ map made all → k ≡ length ys → f a ≡ made (get_or all k d)
  made_at [] zs a [] k d e is = cc
  made_at [] zs a (x ∷ xs) k d e is = let first : f a ≡ made x = cc in rw is first
  made_at (y ∷ ys) zs a [] k d e is = cc
  made_at (y ∷ ys) zs a (x ∷ xs) k d e is = let rest : map f (ys ++ a ∷ zs) ≡ map made xs = cc in rw is (made_at ys zs a xs (length ys) d rest refl)

  pub made_within : (ys zs : List A) (a : A) (all : List D) → map f (ys ++ a ∷ zs) ≡ map made all → length ys < length all
  made_within ys zs a all e =
      let n = ap length e in omega (arith, length-map (ys ++ a ∷ zs) f, length-map all made, length-append ys (a ∷ zs))

module _ {A : Type 0} (x : A) (all now : List A) (k : ℕ) where
  pub filled_step : (next : List A) → now ≡ changed (λ _. x) k all → k < length all → next ≡ set now k x → next ≡ changed (λ _. x) (k + 1) all
  filled_step next is lt e = e ∙ ap (λ l. set l k x) is ∙ changed_more (λ _. x) k all x lt
