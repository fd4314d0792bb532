-- The keys that a look-up finds.
use Rattle.std.proofs.Common.{◌≡◌, ◌↔◌, ℕ, List, Bor, Option, None, Some, option_map, Contains, IsSome, refl, sym, subst}
use Rattle.std.specs.Cmp.{decided}
use Rattle.std.specs.Map.{keys_of}
use Rattle.std.proofs.lemmas.Map.Views.{Contains-keys_from_lookup, IsSome-lookup_from_Contains}
use Rattle.gufi_cache.specs.declared.key.CacheKey.{CacheKey}
use Rattle.gufi_cache.specs.Keys.{same_key}
use Rattle.gufi_cache.specs.SameKeys.{same_key-Decides}
use Rattle.gufi_cache.specs.Pairs.{Kept, text_of}

pub found_in_keys : (key : CacheKey) (cache : Kept) → IsSome (text_of key cache) ↔ Contains (keys_of cache.pairs) key
found_in_keys key cache = (Contains-keys_from_lookup (λ a b. (same_key-Decides a b).0) key cache.pairs, IsSome-lookup_from_Contains (decided same_key same_key-Decides) key cache.pairs)

shown_is : (shown : Option (Bor (List ℕ))) → IsSome (option_map (λ text. text.now) shown) ↔ IsSome shown
shown_is None = (λ h. h, λ h. h)
shown_is (Some text) = (λ _. refl, λ _. refl)

-- where its text is shown, the key is there
pub shown_in_keys : (key : CacheKey) (cache : Kept) (shown : Option (Bor (List ℕ))) → option_map (λ text. text.now) shown ≡ text_of key cache → IsSome shown ↔ Contains (keys_of cache.pairs) key
shown_in_keys key cache shown e =
    let there = subst (λ o. IsSome o ↔ Contains (keys_of cache.pairs) key) (sym e) (found_in_keys key cache) in
    let same = shown_is shown in
    (λ h. there.0 (same.1 h), λ h. same.0 (there.1 h))
