use Rattle.std.proofs.Common.{◌≡◌, ℕ, Bool, false, List, ◌∷◌, Option, None, Some, is_some, option_map, refl, sym, ap, ◌∙◌, subst}
use Rattle.std.specs.Option.{option_map_or}
use Rattle.std.specs.Map.{lookup, lookup_entry, remove_entry}
use Rattle.lru.specs.LruCache.{promoted}
use Rattle.lru.proofs.Pairs.{lookup-lookup_entry}
use Rattle.gufi_cache.specs.declared.key.CacheKey.{CacheKey}
use Rattle.gufi_cache.specs.Keys.{same_key}
use Rattle.gufi_cache.specs.Pairs.{Kept, kept, text_of, moved_to_front}
use Rattle.gufi_phases.specs.Keeping.{behind_miss, behind_found, behind_ask}
use Rattle.gufi_phases.proofs.lane.answer_with.Goals as goal

-- where no key passes, no pair moves
unmoved : {K X : Type 0} (test : K → Bool) (es : List (K × X)) (o : Option (K × X)) → lookup_entry test es ≡ o → lookup test es ≡ None → promoted test es ≡ es
unmoved test es None e none = ap (λ o. option_map_or (λ p. p ∷ remove_entry test es) o es) e
unmoved {K} {X} test es (Some pair) e none =
    let both : Some pair.1 ≡ None = ap (option_map (λ (p : K × X). p.1)) (sym e) ∙ lookup-lookup_entry test es ∙ none in
    absurd cc

missed : (key : CacheKey) (text : List ℕ) (cache : Kept) (o : Option (List ℕ)) → text_of key cache ≡ o → false ≡ is_some o → behind_miss key text (moved_to_front key cache) ≡ behind_found o key text cache
missed key text cache None e none = ap (λ pairs. behind_miss key text (kept pairs cache.capacity)) (unmoved (same_key key) cache.pairs (lookup_entry (same_key key) cache.pairs) refl e)
missed key text cache (Some found) e none = absurd cc

-- a look-up that finds nothing, and then what is kept of a body
not_kept : (key : CacheKey) (text : List ℕ) (cache looked behind : Kept) (found : Bool) → found ≡ false → found ≡ is_some (text_of key cache) → looked ≡ moved_to_front key cache → behind ≡ behind_miss key text looked
    → behind ≡ behind_ask key text cache
not_kept key text cache looked behind found none is moved made = made ∙ (ap (behind_miss key text) moved ∙ missed key text cache (text_of key cache) refl (sym none ∙ is))

pub returns-clause-kept : goal.returns-clause-kept
returns-clause-kept g c =
    let text = g.Q.Wanted.body c.args.question.now c.args.item.now in let cache = c.args.cache.now in let put = c.in_ok-put_kept in
    subst (λ k. c.make_body.new.cache ≡ behind_ask k text cache) c.in_ok-key.ensures
    (not_kept c.in_ok-key.key text cache c.put_kept.new.cache c.make_body.new.cache put.field-0 c.if-branch.false put.ensures.found put.ensures.moved c.in_ok-text-2.ensures.kept)
