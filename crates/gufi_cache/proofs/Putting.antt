-- What a cache has after a pair was put, as one list.
use Rattle.std.proofs.Common.{◌≡◌, ℕ, zero, suc, ◌+◌, ◌-◌, ◌<◌, ◌≤◌, Bool, true, false, List, [], ◌∷◌, length, take, Option, None, Some, refl, sym, ap, ◌∙◌, arith}
use Rattle.std.specs.Bool.{Decides}
use Rattle.std.specs.Option.{option_map_or}
use Rattle.std.specs.Map.{lookup_entry, remove_entry}
use Rattle.std.proofs.lemmas.List.{take_all}
use Rattle.lru.specs.LruCache.{LruCache, put_entries}
use Rattle.lru.proofs.CallerLemmas.{Contains-lookup_entry}

take_first : {X : Type 0} (n : ℕ) (x : X) (xs : List X) → 0 < n → x ∷ take (n - 1) xs ≡ take n (x ∷ xs)
take_first zero x xs h = absurd (omega (arith, h))
take_first (suc n) x xs h = let e : suc n - 1 ≡ n = omega arith in ap (λ m. x ∷ take m xs) e

module _ {K X : Type 0} (test : K → Bool) where
  remove_entry-None : (es : List (K × X)) → lookup_entry test es ≡ None → remove_entry test es ≡ es
  remove_entry-None [] h = refl
  remove_entry-None (e ∷ es) h = (elim (test e.0) as (λ y. test e.0 ≡ y → remove_entry test (e ∷ es) ≡ e ∷ es) [
    | true ↦ λ t. let h' = rw t at h in cc
    | false ↦ λ t. rw t (ap (λ l. e ∷ l) (remove_entry-None es (rw t at h)))
  ]) refl

  length-remove_entry : (es : List (K × X)) (f : K × X) → lookup_entry test es ≡ Some f → length (remove_entry test es) + 1 ≡ length es
  length-remove_entry [] f h = cc
  length-remove_entry (e ∷ es) f h = (elim (test e.0) as (λ y. test e.0 ≡ y → length (remove_entry test (e ∷ es)) + 1 ≡ length (e ∷ es)) [
    | true ↦ λ t. rw t (omega arith)
    | false ↦ λ t. let on = length-remove_entry es f (rw t at h) in rw t (omega (arith, on))
  ]) refl

module _ {K X : Type 0} (eq : K → K → Bool) (decides : (x y : K) → Decides (eq x y) (x ≡ y)) (c : LruCache K X) (k : K) (v : X) (some : 0 < c.cap) (fits : length c.entries ≤ c.cap) where
  by_entry : (o : Option (K × X)) → lookup_entry (eq k) c.entries ≡ o
      → option_map_or (λ e. (e.0, v) ∷ remove_entry (eq k) c.entries) o ((k, v) ∷ take (c.cap - 1) c.entries) ≡ take c.cap ((k, v) ∷ remove_entry (eq k) c.entries)
  by_entry None h = take_first c.cap (k, v) c.entries some ∙ ap (λ es. take c.cap ((k, v) ∷ es)) (sym (remove_entry-None (eq k) c.entries h))
  by_entry (Some e) h =
      let same : k ≡ e.0 = (decides k e.0).0 (Contains-lookup_entry (eq k) c.entries e h).1 in
      let shorter = length-remove_entry (eq k) c.entries e h in
      ap (λ (j : K). (j, v) ∷ remove_entry (eq k) c.entries) (sym same) ∙ sym (take_all c.cap ((k, v) ∷ remove_entry (eq k) c.entries) (omega (arith, shorter, fits)))

  -- a pair goes to the front, in place of the one with its key; past the capacity the last is dropped
  pub put_entries-take : put_entries eq c k v ≡ take c.cap ((k, v) ∷ remove_entry (eq k) c.entries)
  put_entries-take = by_entry (lookup_entry (eq k) c.entries) refl
