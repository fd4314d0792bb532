-- Filters of a list, as multisets.
use Rattle.std.proofs.Common.{◌≡◌, ◌⊎◌, inl, inr, Bool, true, false, ◌||◌, cond, List, [], ◌∷◌, ◌++◌, refl, sym, ap, ◌∙◌, subst}
use Rattle.std.specs.List.{filter, flat_map, list_any}
use Rattle.std.specs.List.Sorted.{IsPermutation}
use Rattle.std.proofs.lemmas.Bool.{false≢true, or_cases, or_right}
use Rattle.std.proofs.lemmas.List.Sorted.{IsPermutation-refl, IsPermutation-trans, IsPermutation-sym, IsPermutation-cons, IsPermutation-middle, IsPermutation-append_right}
use Rattle.gufi_tree.proofs.Built.{Has}

module _ {X : Type 0} where
  -- two tests that agree on the list keep the same elements
  pub filter-agree : (p q : X → Bool) (xs : List X) → ((x : X) → Has xs x → p x ≡ q x) → filter p xs ≡ filter q xs
  filter-agree p q [] h = refl
  filter-agree p q (x ∷ xs) h = rw (h x (inl refl), filter-agree p q xs (λ y k. h y (inr k))) refl

  either_kept : (a b : Bool) (x : X) (us vs ws : List X) → (a ≡ true → b ≡ false) → IsPermutation us (vs ++ ws)
      → IsPermutation (cond (a || b) (x ∷ us) us) (cond a (x ∷ vs) vs ++ cond b (x ∷ ws) ws)
  either_kept true true x us vs ws h p = absurd (false≢true (sym (h refl)))
  either_kept true false x us vs ws h p = IsPermutation-cons x us (vs ++ ws) p
  either_kept false true x us vs ws h p =
      IsPermutation-trans _ _ _ (IsPermutation-cons x us (vs ++ ws) p) (IsPermutation-sym _ _ (IsPermutation-middle vs x ws))
  either_kept false false x us vs ws h p = p

  -- a filter by either of two tests that exclude each other
  pub filter-either : (a b : X → Bool) (xs : List X) → ((x : X) → Has xs x → a x ≡ true → b x ≡ false)
      → IsPermutation (filter (λ x. a x || b x) xs) (filter a xs ++ filter b xs)
  filter-either a b [] h = IsPermutation-refl []
  filter-either a b (x ∷ xs) h =
      either_kept (a x) (b x) x _ (filter a xs) (filter b xs) (h x (inl refl)) (filter-either a b xs (λ y k. h y (inr k)))

  pub filter-none : (p : X → Bool) (xs : List X) → ((x : X) → Has xs x → p x ≡ false) → filter p xs ≡ []
  filter-none p [] h = refl
  filter-none p (x ∷ xs) h = rw (h x (inl refl)) (filter-none p xs (λ y k. h y (inr k)))

  pub any-none : (p : X → Bool) (xs : List X) → ((x : X) → Has xs x → p x ≡ false) → list_any p xs ≡ false
  any-none p [] h = refl
  any-none p (x ∷ xs) h = rw (h x (inl refl)) (any-none p xs (λ y k. h y (inr k)))

  pub any-some : (p : X → Bool) (xs : List X) (x : X) → Has xs x → p x ≡ true → list_any p xs ≡ true
  any-some p [] x h e = absurd h
  any-some p (y ∷ ys) x (inl h) e = rw (h, e) refl
  any-some p (y ∷ ys) x (inr h) e = rw (any-some p ys x h e) (or_right (p y) true refl)

  pub any-found : (p : X → Bool) (xs : List X) → list_any p xs ≡ true → (x : X) × Has xs x × (p x ≡ true)
  any-found p [] e = absurd (false≢true e)
  any-found p (y ∷ ys) e = elim (or_cases (p y) (list_any p ys) e) [
    | inl a ↦ (y, inl refl, a)
    | inr b ↦ let w = any-found p ys b in (w.0, inr w.1, w.2)
  ]

  kept_cases : (b : Bool) (y : X) (us : List X) (x : X) → Has (cond b (y ∷ us) us) x → ((b ≡ true) × (y ≡ x)) ⊎ Has us x
  kept_cases true y us x (inl h) = inl (refl, h)
  kept_cases true y us x (inr h) = inr h
  kept_cases false y us x h = inr h

  kept_before : (b : Bool) (y : X) (us : List X) (x : X) → Has us x → Has (cond b (y ∷ us) us) x
  kept_before true y us x h = inr h
  kept_before false y us x h = h

  -- what passes a filter is in the list and passes the test
  pub Has-filter : (p : X → Bool) (xs : List X) (x : X) → Has (filter p xs) x → Has xs x × (p x ≡ true)
  Has-filter p [] x h = absurd h
  Has-filter p (y ∷ ys) x h = elim (kept_cases (p y) y (filter p ys) x h) [
    | inl w ↦ (inl w.1, ap p (sym w.1) ∙ w.0)
    | inr k ↦ let w = Has-filter p ys x k in (inr w.0, w.1)
  ]

  pub filter-Has : (p : X → Bool) (xs : List X) (x : X) → Has xs x → p x ≡ true → Has (filter p xs) x
  filter-Has p [] x h e = absurd h
  filter-Has p (y ∷ ys) x (inl h) e = rw (ap p h ∙ e) (inl h)
  filter-Has p (y ∷ ys) x (inr h) e = kept_before (p y) y (filter p ys) x (filter-Has p ys x h e)

module _ {K X : Type 0} (r : K → X → Bool) where
  -- no element is of two of the kinds
  abbrev pub AreApart : List K → List X → Type 0
  AreApart [] xs = Unit {0}
  AreApart (k ∷ ks) xs = ((x : X) → Has xs x → r k x ≡ true → list_any (λ j. r j x) ks ≡ false) × AreApart ks xs

  -- a filter by any of several kinds is the filters by each kind
  pub filter-any : (ks : List K) (xs : List X) → AreApart ks xs
      → IsPermutation (filter (λ x. list_any (λ k. r k x) ks) xs) (flat_map (λ k. filter (r k) xs) ks)
  filter-any [] xs h = subst (λ l. IsPermutation l []) (sym (filter-none (λ _. false) xs (λ _ _. refl))) (IsPermutation-refl [])
  filter-any (k ∷ ks) xs h =
      IsPermutation-trans _ _ _ (filter-either (r k) (λ x. list_any (λ j. r j x) ks) xs h.0)
      (IsPermutation-append_right (filter (r k) xs) _ _ (filter-any ks xs h.1))
