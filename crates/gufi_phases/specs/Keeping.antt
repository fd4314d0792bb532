-- What lanes keep of their replies, and how many asks they answer by it.
use Rattle.std.specs.Prelude.{ℕ, ◌+◌, ◌==◌, if◌then◌else◌, nat_le, List, [], ◌∷◌, length, drop, Option, Some, None, is_some, option_map, slice_index_or}
use Rattle.gufi_cache.specs.declared.key.CacheKey.{CacheKey}
use Rattle.gufi_cache.specs.Pairs.{Kept, kept, text_of, moved_to_front, put_in_front}
use Rattle.gufi_phases.specs.declared.act.Act.{Act}
use Rattle.gufi_phases.specs.declared.act.Act.TheVariants.{Publish, Ask}
use Rattle.gufi_phases.specs.Phases.{item_at}

-- how many bytes a text has at most that is kept
abbrev pub max_kept : ℕ
max_kept = 65536

-- what is kept behind an ask of a key whose text wasn't kept
abbrev pub behind_miss : CacheKey → List ℕ → Kept → Kept
behind_miss key text cache = if nat_le (length text) max_kept then put_in_front key text cache else cache

-- the same, by the text that was found under the key
abbrev pub behind_found : Option (List ℕ) → CacheKey → List ℕ → Kept → Kept
behind_found (Some found) key text cache = moved_to_front key cache
behind_found None key text cache = behind_miss key text cache

-- what is kept behind an ask of a key, whose text is this
abbrev pub behind_ask : CacheKey → List ℕ → Kept → Kept
behind_ask key text cache = behind_found (text_of key cache) key text cache

-- What a lane keeps: nothing, where it has no cache.
abbrev pub Keeping : Type 0
Keeping = Option Kept

-- what a lane keeps at first, where it may keep so many texts, and none for 0
abbrev pub keeping_none : ℕ → Keeping
keeping_none capacity = if capacity == 0 then None else Some (kept [] capacity)

-- what each lane keeps, where this one keeps other texts than before
abbrev pub with_lane : ℕ → Keeping → (ℕ → Keeping) → ℕ → Keeping
with_lane lane now before other = if other == lane then now else before other

module _ {T Q : Type 0} (key : Q → ℕ → CacheKey) (body : Q → T → List ℕ) where
  -- what a lane keeps behind an ask at the item of a number; where there is no item, or no cache, nothing changes
  abbrev pub kept_behind : Q → ℕ → Option T → Keeping → Keeping
  kept_behind question n None before = before
  kept_behind question n (Some item) before = option_map (behind_ask (key question n) (body question item)) before

  -- the text that the lane kept of an ask at the item of a number
  abbrev pub kept_text : Q → ℕ → Option T → Keeping → Option (List ℕ)
  kept_text question n None before = None
  kept_text question n (Some item) None = None
  kept_text question n (Some item) (Some cache) = text_of (key question n) cache

  module _ {C : Type 0} (all : List T) where
    -- what each lane keeps behind acts, whose asks are answered at these numbers
    unfoldable pub keeping_behind : (ℕ → Keeping) → List ℕ → List (Act C Q) → ℕ → Keeping
    keeping_behind before numbers [] = before
    keeping_behind before numbers (Publish command ∷ acts) = keeping_behind before numbers acts
    keeping_behind before numbers (Ask lane question ∷ acts) =
        let n = slice_index_or numbers 0 0 in
        keeping_behind (with_lane lane (kept_behind question n (item_at all n) (before lane)) before) (drop 1 numbers) acts

    -- Each ask whose text its lane kept is a hit. An ask at 0 is none, and keeps nothing.
    unfoldable pub hits_in : (ℕ → Keeping) → List ℕ → List (Act C Q) → ℕ
    hits_in before numbers [] = 0
    hits_in before numbers (Publish command ∷ acts) = hits_in before numbers acts
    hits_in before numbers (Ask lane question ∷ acts) =
        let n = slice_index_or numbers 0 0 in
        let own = before lane in
        (if is_some (kept_text question n (item_at all n) own) then 1 else 0)
        + hits_in (with_lane lane (kept_behind question n (item_at all n) own) before) (drop 1 numbers) acts
