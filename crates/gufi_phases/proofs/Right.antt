-- What a lane keeps stays right behind asks, and a text that it kept is the body.
use Rattle.std.proofs.Common.{◌≡◌, ℕ, Bool, true, false, List, [], ◌∷◌, ◌++◌, length, drop, refl, sym, ap, ◌∙◌, subst, All, Contains}
use Rattle.std.specs.Prelude.{Option, Some, None, ◌==◌, if◌then◌else◌, nat_le, slice_index_or}
use Rattle.std.specs.Option.{option_map_or}
use Rattle.std.specs.Map.{lookup_entry, remove_entry}
use Rattle.std.proofs.lemmas.List.Elements.{All-cons, All-take, All-head, All-tail, All-contains, Contains-get_or}
use Rattle.std.proofs.lemmas.Map.Views.{Contains-from_lookup}
use Rattle.lru.proofs.CallerLemmas.{Contains-remove_entry, Contains-lookup_entry}
use Rattle.gufi_cache.specs.declared.key.CacheKey.{CacheKey}
use Rattle.gufi_cache.specs.Keys.{same_key}
use Rattle.gufi_cache.specs.SameKeys.{same_key-Decides}
use Rattle.gufi_cache.specs.Pairs.{Kept, text_of, put_in_front}
use Rattle.gufi_phases.specs.declared.act.Act.{Act}
use Rattle.gufi_phases.specs.declared.act.Act.TheVariants.{Publish, Ask}
use Rattle.gufi_phases.specs.Phases.{item_at}
use Rattle.gufi_phases.specs.Replies.{AreAlike}
use Rattle.gufi_phases.specs.Sessions.{questions_of}
use Rattle.gufi_phases.specs.Keeping.{Keeping, behind_found, max_kept, with_lane, kept_behind, kept_text, keeping_behind}
use Rattle.gufi_phases.specs.Lanes.{IsRight, reply_or}

from_some : {A : Type 0} → A → Option A → A
from_some a (Some b) = b
from_some a None = a

same_item : {A : Type 0} (a b : A) → Some a ≡ Some b → a ≡ b
unfolding from_some
same_item a b is = ap (λ o. from_some a o) is

-- ---- what is true of each pair that is kept

module _ {K X : Type 0} (P : K × X → Type 0) (test : K → Bool) (pairs : List (K × X)) (each : All P pairs) where
  each_removed : All P (remove_entry test pairs)
  each_removed k d below = All-contains P pairs _ each (Contains-remove_entry test pairs _ (Contains-get_or (remove_entry test pairs) k d below))

  each_promoted : (found : Option (K × X)) → lookup_entry test pairs ≡ found → All P (option_map_or (λ e. e ∷ remove_entry test pairs) found pairs)
  each_promoted None is = each
  each_promoted (Some e) is = All-cons P e (remove_entry test pairs) (All-contains P pairs e each (Contains-lookup_entry test pairs e is).0) each_removed

module _ (P : CacheKey × List ℕ → Type 0) (key : CacheKey) (text : List ℕ) (cache : Kept) (each : All P cache.pairs) (this : P (key, text)) where
  each_behind : (found : Option (List ℕ)) → All P (behind_found found key text cache).pairs
  each_behind (Some old) = each_promoted P (same_key key) cache.pairs each (lookup_entry (same_key key) cache.pairs) refl
  each_behind None = by_length (nat_le (length text) max_kept)
    where
      by_length : (short : Bool) → All P (if short then put_in_front key text cache else cache).pairs
      by_length true = All-take P cache.capacity ((key, text) ∷ remove_entry (same_key key) cache.pairs) (All-cons P (key, text) (remove_entry (same_key key) cache.pairs) this (each_removed P (same_key key) cache.pairs each))
      by_length false = each

-- ---- what is kept is right

-- what each lane keeps behind an ask of this one
abbrev pub kept_then : {T Q : Type 0} → (Q → ℕ → CacheKey) → (Q → T → List ℕ) → List T → ℕ → Q → ℕ → (ℕ → Keeping) → ℕ → Keeping
kept_then key body all lane question n before = with_lane lane (kept_behind key body question n (item_at all n) (before lane)) before

module _ {T Q : Type 0} (key : Q → ℕ → CacheKey) (body : Q → T → List ℕ) (numbers : (question : Q) (number : ℕ) → (key question number).number ≡ number) (all : List T) (asked : List Q) where
  -- the text is the body of each of these questions with this key, at the item of its number
  abbrev IsRightPair : CacheKey × List ℕ → Type 0
  IsRightPair pair = (question : Q) → Contains asked question → key question pair.0.number ≡ pair.0 → (item : T) → item_at all pair.0.number ≡ Some item → pair.1 ≡ body question item

  pub right_text : (question : Q) (n : ℕ) (item : T) (keeping : Keeping) (text : List ℕ) → Contains asked question → item_at all n ≡ Some item → IsRight key body all asked keeping
      → kept_text key body question n (Some item) keeping ≡ Some text → text ≡ body question item
  right_text question n item None text one at right found = cc
  right_text question n item (Some cache) text one at right found =
      let pair : Contains cache.pairs (key question n, text) = Contains-from_lookup (λ a b. (same_key-Decides a b).0) (key question n) text cache.pairs found in
      All-contains IsRightPair cache.pairs (key question n, text) right pair question one (ap (λ m. key question m) (numbers question n)) item (subst (λ m. item_at all m ≡ Some item) (sym (numbers question n)) at)

  -- a reply by what is kept is the reply
  pub right_reply : (reply : Q → ℕ → ℕ → Option T → List ℕ) (head : ℕ → ℕ → List ℕ) → ((question : Q) (ask number : ℕ) (item : T) → reply question ask number (Some item) ≡ head ask number ++ body question item)
      → (question : Q) (i n : ℕ) (keeping : Keeping) → Contains asked question → IsRight key body all asked keeping → (item : Option T) → item_at all n ≡ item
      → reply_or reply head key body (kept_text key body question n item keeping) question i n item ≡ reply question i n item
  right_reply reply head parts question i n keeping one right None at = refl
  right_reply reply head parts question i n keeping one right (Some item) at = by_found (kept_text key body question n (Some item) keeping) refl
    where
      by_found : (found : Option (List ℕ)) → kept_text key body question n (Some item) keeping ≡ found → reply_or reply head key body found question i n (Some item) ≡ reply question i n (Some item)
      by_found None is = refl
      by_found (Some text) is = ap (λ t. head i n ++ t) (right_text question n item keeping text one at right is) ∙ sym (parts question i n item)

  module _ (alike : AreAlike key body asked) where
    right_pair : (question : Q) (n : ℕ) (item : T) → Contains asked question → item_at all n ≡ Some item → IsRightPair (key question n, body question item)
    right_pair question n item one at other two same other_item there =
        let here : item_at all n ≡ Some other_item = subst (λ m. item_at all m ≡ Some other_item) (numbers question n) there in
        ap (λ x. body question x) (same_item item other_item (sym at ∙ here)) ∙ alike question other one two n (key question n).number (sym same) other_item

    right_behind : (question : Q) (n : ℕ) (keeping : Keeping) → Contains asked question → IsRight key body all asked keeping → (item : Option T) → item_at all n ≡ item → IsRight key body all asked (kept_behind key body question n item keeping)
    right_behind question n keeping one right None at = right
    right_behind question n None one right (Some item) at = tt
    right_behind question n (Some cache) one right (Some item) at =
        each_behind IsRightPair (key question n) (body question item) cache right (right_pair question n item one at) (text_of (key question n) cache)

    -- what each lane keeps behind an ask
    pub right_asked : (before : ℕ → Keeping) (lane : ℕ) (question : Q) (n : ℕ) → Contains asked question → ((other : ℕ) → IsRight key body all asked (before other)) → (other : ℕ)
        → IsRight key body all asked (kept_then key body all lane question n before other)
    right_asked before lane question n one right other = by_lane (other == lane)
      where
        by_lane : (same : Bool) → IsRight key body all asked (if same then kept_behind key body question n (item_at all n) (before lane) else before other)
        by_lane true = right_behind question n (before lane) one (right lane) (item_at all n) refl
        by_lane false = right other

    -- and behind acts
    pub right_after : {C : Type 0} (acts : List (Act C Q)) (before : ℕ → Keeping) (at : List ℕ) → All (Contains asked) (questions_of acts) → ((lane : ℕ) → IsRight key body all asked (before lane)) → (lane : ℕ)
        → IsRight key body all asked (keeping_behind key body all before at acts lane)
    unfolding keeping_behind
    right_after [] before at ours right lane = right lane
    right_after (Publish command ∷ acts) before at ours right lane = right_after acts before at ours right lane
    right_after (Ask own question ∷ acts) before at ours right lane =
        let n = slice_index_or at 0 0 in
        right_after acts (kept_then key body all own question n before) (drop 1 at) (All-tail (Contains asked) question (questions_of acts) ours)
        (right_asked before own question n (All-head (Contains asked) question (questions_of acts) ours) right) lane
