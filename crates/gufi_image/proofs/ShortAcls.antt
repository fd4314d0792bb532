-- An access control list is short: it has few entries.
use Rattle.std.proofs.Common.{◌≡◌, ℕ, zero, suc, ◌+◌, ◌*◌, ◌<◌, ◌≤◌, ◌^◌, ◌%◌, Bool, true, false, ◌||◌, cond, eqb, leb, List, [], ◌∷◌, length, None, refl, arith}
use Rattle.std.specs.List.{list_all}
use Rattle.std.proofs.lemmas.Bool.{and_parts, leb-true, eqb-true}
use Rattle.std.proofs.lemmas.List.Sums.{sum_by-cons}
use Rattle.gufi_access.specs.declared.acl.Entry.{Entry}
use Rattle.gufi_access.specs.Acl.{entries, is_entry, count_of, named_count, has_tags, max_named, ascends_after, is_acl, is_acl_or_none}

-- six bytes an entry
entries_fill : (acl : List ℕ) → length acl < 6 * length (entries acl) + 6
unfolding entries
entries_fill [] = omega arith
entries_fill (a ∷ []) = omega arith
entries_fill (a ∷ b ∷ []) = omega arith
entries_fill (a ∷ b ∷ c ∷ []) = omega arith
entries_fill (a ∷ b ∷ c ∷ d ∷ []) = omega arith
entries_fill (a ∷ b ∷ c ∷ d ∷ e ∷ []) = omega arith
entries_fill (a ∷ b ∷ c ∷ d ∷ e ∷ f ∷ rest) = let more = entries_fill rest in omega (arith, more)

abbrev has_tag : ℕ → Entry → ℕ
has_tag tag e = cond (eqb e.tag tag) 1 0

-- an entry has one of the tags
one_tag : (tag : ℕ) → tag ≤ 5 → 1 ≤ cond (eqb tag 0) 1 0 + cond (eqb tag 1) 1 0 + cond (eqb tag 2) 1 0 + cond (eqb tag 3) 1 0 + cond (eqb tag 4) 1 0 + cond (eqb tag 5) 1 0
one_tag zero h = omega arith
one_tag (suc zero) h = omega arith
one_tag (suc (suc zero)) h = omega arith
one_tag (suc (suc (suc zero))) h = omega arith
one_tag (suc (suc (suc (suc zero)))) h = omega arith
one_tag (suc (suc (suc (suc (suc zero))))) h = omega arith
one_tag (suc (suc (suc (suc (suc (suc tag)))))) h = absurd (omega (arith, h))

abbrev all_counts : List Entry → ℕ
all_counts es = count_of 0 es + count_of 1 es + count_of 2 es + count_of 3 es + count_of 4 es + count_of 5 es

all_counted : (es : List Entry) → list_all is_entry es ≡ true → length es ≤ all_counts es
unfolding count_of
all_counted [] h = omega arith
all_counted (e ∷ es) h =
    let both = and_parts (is_entry e) (list_all is_entry es) h in
    let form = and_parts (leb e.bits 7) _ both.0 in
    let tag = and_parts (leb e.tag 5) _ form.1 in
    let one = one_tag e.tag (leb-true e.tag 5 tag.0) in
    let more = all_counted es both.1 in
    omega (arith, one, more, sum_by-cons (has_tag 0) e es, sum_by-cons (has_tag 1) e es, sum_by-cons (has_tag 2) e es, sum_by-cons (has_tag 3) e es, sum_by-cons (has_tag 4) e es, sum_by-cons (has_tag 5) e es)

entries_few : (es : List Entry) → list_all is_entry es ≡ true → has_tags es ≡ true → leb (named_count es) max_named ≡ true → length es ≤ 36
entries_few es formed tags named =
    let owner = and_parts (eqb (count_of 0 es) 1) _ tags in
    let group = and_parts (eqb (count_of 2 es) 1) _ owner.1 in
    let others = and_parts (eqb (count_of 5 es) 1) _ group.1 in
    let mask = and_parts (leb (count_of 4 es) 1) _ others.1 in
    omega (arith, all_counted es formed, eqb-true _ _ owner.0, eqb-true _ _ group.0, eqb-true _ _ others.0, leb-true _ _ mask.0, leb-true _ _ named)

is_acl_short : (acl : List ℕ) → is_acl acl ≡ true → length acl < 2 ^ 16
unfolding is_acl
is_acl_short acl h =
    let whole = and_parts (eqb (length acl % 6) 0) _ h in
    let order = and_parts (ascends_after None (entries acl)) _ whole.1 in
    let formed = and_parts (list_all is_entry (entries acl)) _ order.1 in
    let tags = and_parts (has_tags (entries acl)) (leb (named_count (entries acl)) max_named) formed.1 in
    let fill = entries_fill acl in
    let few = entries_few (entries acl) formed.0 tags.0 tags.1 in
    omega (arith, fill, few)

pub acl_short : (acl : List ℕ) → is_acl_or_none acl ≡ true → length acl < 2 ^ 16
acl_short acl h = by (eqb (length acl) 0) refl h where
  by : (none : Bool) → eqb (length acl) 0 ≡ none → (none || is_acl acl) ≡ true → length acl < 2 ^ 16
  by true none h = omega (arith, eqb-true (length acl) 0 none)
  by false some h = is_acl_short acl h
