-- A cache, as its pairs.
use Rattle.std.specs.Prelude.{ℕ, List, ◌∷◌, Option, take}
use Rattle.std.specs.Map.{lookup, remove_entry}
use Rattle.lru.specs.LruCache.{promoted}
use Rattle.gufi_cache.specs.declared.key.CacheKey.{CacheKey}
use Rattle.gufi_cache.specs.Keys.{same_key}

-- the pairs of a key and a text, the most recent first, and how many there may be
pub record Kept : Type 0 where
  pub pairs : List (CacheKey × List ℕ)
  pub capacity : ℕ

abbrev pub kept : List (CacheKey × List ℕ) → ℕ → Kept
kept pairs capacity = record { pairs = pairs; capacity = capacity }

-- the text of a key, where it is kept
abbrev pub text_of : CacheKey → Kept → Option (List ℕ)
text_of key cache = lookup (same_key key) cache.pairs

-- the pair of a key goes to the front; with no such pair all stays
abbrev pub moved_to_front : CacheKey → Kept → Kept
moved_to_front key cache = kept (promoted (same_key key) cache.pairs) cache.capacity

-- a pair goes to the front, in place of the one with its key; past the capacity the last is dropped
abbrev pub put_in_front : CacheKey → List ℕ → Kept → Kept
put_in_front key text cache = kept (take cache.capacity ((key, text) ∷ remove_entry (same_key key) cache.pairs)) cache.capacity
