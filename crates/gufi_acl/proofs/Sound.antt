-- What is read of a text is a list or none, of bytes, at most 216 of them.
use Rattle.std.proofs.Common.{◌≡◌, ℕ, ◌+◌, ◌*◌, ◌/◌, ◌%◌, ◌<◌, ◌≤◌, Bool, true, false, cond, ◌==◌, List, [], ◌∷◌, ◌++◌, Option, Some, None, Ok, length, drop, refl, sym, ap, ◌∙◌, subst, arith}
use Rattle.std.specs.Prelude.{not, ◌&&◌, ◌||◌, nat_lt, nat_le, ok_or}
use Rattle.std.specs.List.{flat_map, list_all}
use Rattle.std.proofs.lemmas.Bool.{and_parts, and_from, or_right, lt-ltb}
use Rattle.std.proofs.lemmas.Bool.Decides.{nat_tests}
use Rattle.std.proofs.lemmas.List.Sums.{sum_by-cons}
use Rattle.gufi_base.specs.Basics.{split, ◌>>=◌, ◌>>◌, refuse}
use Rattle.gufi_base.specs.Rows.{are_bytes}
use Rattle.gufi_base.proofs.Sorting.{IsPermutation-sort_by}
use Rattle.gufi_access.specs.declared.acl.Entry.{Entry}
use Rattle.gufi_access.specs.Acl.{ascends_after, is_entry, count_of, named_count, max_named, has_tags, is_acl}
use Rattle.gufi_acl.specs.declared.AclFault.TheVariants.{BadAcl, TooManyEntries}
use Rattle.gufi_acl.specs.AclTexts.{all_entries, entry_cmp, sort_entries, entry_bytes, acl_of_entries, acl_of_text, IsReadAcl, ReadAclsAreSound}
use Rattle.gufi_acl.proofs.Order.{list_all-moved}
use Rattle.gufi_acl.proofs.Read.{is_good, entries_good, all_small, all_formed}
use Rattle.gufi_acl.proofs.Kept.{entries_found, length-kept}

-- ---- few entries

one_counted : (t : ℕ) → nat_le t 5 ≡ true
    → 1 ≤ cond (t == 0) 1 0 + (cond (t == 1) 1 0 + (cond (t == 2) 1 0 + (cond (t == 3) 1 0 + (cond (t == 4) 1 0 + cond (t == 5) 1 0))))
one_counted t h = grind (arith, nat_tests)

formed_tag : (e : Entry) → is_entry e ≡ true → nat_le e.tag 5 ≡ true
formed_tag e h = (and_parts (nat_le e.tag 5) _ (and_parts (nat_le e.bits 7) _ h).1).0

-- each entry is counted by its tag
counted : (es : List Entry) → list_all is_entry es ≡ true
    → length es ≤ count_of 0 es + (count_of 1 es + (count_of 2 es + (count_of 3 es + (count_of 4 es + count_of 5 es))))
unfolding count_of
counted [] h = omega arith
counted (e ∷ es) h =
    let both = and_parts (is_entry e) (list_all is_entry es) h in
    let rest = counted es both.1 in
    let one = one_counted e.tag (formed_tag e both.0) in
    let c = λ (tag : ℕ). sum_by-cons (λ (x : Entry). cond (x.tag == tag) 1 0) e es in
    omega (arith, rest, one, c 0, c 1, c 2, c 3, c 4, c 5)

few : (n a b c d e f : ℕ) → n ≤ a + (b + (c + (d + (e + f))))
    → ((a == 1) && ((c == 1) && ((f == 1) && (nat_le e 1 && (((b + d) == 0) || (e == 1)))))) ≡ true
    → nat_lt 32 (b + d) ≡ false → n ≤ 36
few n a b c d e f h tags named = grind (arith, nat_tests)

few_entries : (es : List Entry) → list_all is_entry es ≡ true → has_tags es ≡ true → nat_lt max_named (named_count es) ≡ false → length es ≤ 36
few_entries es h tags named = few (length es) (count_of 0 es) (count_of 1 es) (count_of 2 es) (count_of 3 es) (count_of 4 es) (count_of 5 es) (counted es h) tags named

-- ---- the bytes of entries

small_byte : (n bound : ℕ) → nat_le n bound ≡ true → bound < 256 → nat_lt n 256 ≡ true
small_byte n bound h low = grind (arith, nat_tests)

remainder : (n : ℕ) → nat_lt (n % 256) 256 ≡ true
remainder n = lt-ltb (n % 256) 256 (omega arith)

entry_are_bytes : (e : Entry) → is_entry e ≡ true → (rest : List ℕ) → are_bytes rest ≡ true → are_bytes (entry_bytes e ++ rest) ≡ true
entry_are_bytes e h rest r =
    let bits = and_parts (nat_le e.bits 7) _ h in
    and_from _ _ (small_byte e.tag 5 (formed_tag e h) (omega arith)) (and_from _ _ (small_byte e.bits 7 bits.0 (omega arith))
    (and_from _ _ (remainder e.id) (and_from _ _ (remainder (e.id / 256)) (and_from _ _ (remainder (e.id / 65536)) (and_from _ _ (remainder (e.id / 16777216)) r)))))

kept_are_bytes : (es : List Entry) → list_all is_entry es ≡ true → are_bytes (flat_map entry_bytes es) ≡ true
kept_are_bytes [] h = refl
kept_are_bytes (e ∷ es) h =
    let both = and_parts (is_entry e) (list_all is_entry es) h in
    entry_are_bytes e both.0 (flat_map entry_bytes es) (kept_are_bytes es both.1)

-- ---- sound lists

whole_six : (n m : ℕ) → n ≡ 6 * m → (n % 6 == 0) ≡ true
whole_six n m e = grind (arith, nat_tests)

named_le : (n : ℕ) → nat_lt 32 n ≡ false → nat_le n 32 ≡ true
named_le n h = grind (arith, nat_tests)

kept_is_acl : (es : List Entry) → list_all is_good es ≡ true → ascends_after None es ≡ true → has_tags es ≡ true → nat_lt max_named (named_count es) ≡ false
    → is_acl (flat_map entry_bytes es) ≡ true
unfolding is_acl
kept_is_acl es good up tags named =
    let back = entries_found es (all_small es good) in
    and_from _ _ (whole_six (length (flat_map entry_bytes es)) (length es) (length-kept es))
    (ap (λ (xs : List Entry). ascends_after None xs && (list_all is_entry xs && (has_tags xs && nat_le (named_count xs) max_named))) back
    ∙ and_from _ _ up (and_from _ _ (all_formed es good) (and_from _ _ tags (named_le (named_count es) named))))

kept_sound : (es : List Entry) → list_all is_good es ≡ true → ascends_after None es ≡ true → has_tags es ≡ true → nat_lt max_named (named_count es) ≡ false
    → IsReadAcl (flat_map entry_bytes es)
kept_sound es good up tags named =
    let most = few_entries es (all_formed es good) tags named in
    record {
      sound = or_right _ _ (kept_is_acl es good up tags named);
      bytes = kept_are_bytes es (all_formed es good);
      short = omega (arith, most, length-kept es);
    }

made_sound : (es : List Entry) (acl : List ℕ) → list_all is_good es ≡ true → acl_of_entries es ≡ Ok acl → IsReadAcl acl
made_sound es acl good e = by (ascends_after None es) (has_tags es) (nat_lt max_named (named_count es)) refl refl refl e
  where
    by : (a b c : Bool) → ascends_after None es ≡ a → has_tags es ≡ b → nat_lt max_named (named_count es) ≡ c
        → (refuse (not (a && b)) BadAcl >> (refuse c TooManyEntries >> Ok (flat_map entry_bytes es))) ≡ Ok acl → IsReadAcl acl
    by true true false p q r h = let same : flat_map entry_bytes es ≡ acl = cc in subst IsReadAcl same (kept_sound es good p q r)
    by true true true p q r h = cc
    by true false c p q r h = cc
    by false b c p q r h = cc

read_sound : (texts : List (List ℕ)) (acl : List ℕ) (o : Option (List Entry)) → all_entries texts ≡ o
    → (ok_or o BadAcl >>= (λ es. acl_of_entries (sort_entries es))) ≡ Ok acl → IsReadAcl acl
read_sound texts acl None p h = cc
read_sound texts acl (Some es) p h =
    made_sound (sort_entries es) acl (sym (list_all-moved is_good es (sort_entries es) (IsPermutation-sort_by entry_cmp es)) ∙ entries_good texts es p) h

pub read_acls_are_sound : ReadAclsAreSound
unfolding acl_of_text
read_acls_are_sound [] acl h = let same : [] ≡ acl = cc in subst IsReadAcl same (record { sound = refl; bytes = refl; short = omega arith })
read_acls_are_sound (b ∷ text) acl h =
    let texts : List (List ℕ) = split 44 (drop 4 (b ∷ text)) in
    read_sound texts acl (all_entries texts) refl h
