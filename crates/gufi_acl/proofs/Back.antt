-- What is written of a list is read back.
use Rattle.std.proofs.Common.{◌≡◌, ℕ, ◌%◌, Bool, true, false, ◌==◌, List, [], ◌∷◌, Option, None, Ok, length, map, refl, sym, ap, ◌∙◌, arith}
use Rattle.std.specs.Prelude.{not, ◌||◌, nat_lt, nat_le, ok_or}
use Rattle.std.specs.List.{flat_map, list_all, join_with_byte}
use Rattle.std.proofs.lemmas.Bool.{and_parts, and_from, false≢true, ne_eqb, eqb-true}
use Rattle.std.proofs.lemmas.Bool.Decides.{nat_tests}
use Rattle.gufi_base.specs.Basics.{is_empty, split, ◌>>=◌}
use Rattle.gufi_base.specs.Rows.{are_bytes}
use Rattle.gufi_base.proofs.SortedOnce.{sort_by-ascends}
use Rattle.gufi_access.specs.declared.acl.Entry.{Entry}
use Rattle.gufi_access.specs.Acl.{entries, ascends_after, is_entry, count_of, named_count, max_named, has_tags, is_acl}
use Rattle.gufi_acl.specs.declared.AclFault.TheVariants.{BadAcl}
use Rattle.gufi_acl.specs.AclTexts.{entry_text, acl_text, all_entries, entry_cmp, entry_bytes, sort_entries, acl_of_entries, acl_of_text, AclReadsBack}
use Rattle.gufi_acl.proofs.Joined.{split_join}
use Rattle.gufi_acl.proofs.Letters.{no_comma, entries_pass}
use Rattle.gufi_acl.proofs.Order.{is_small, ascends_all, entries_total}
use Rattle.gufi_acl.proofs.Read.{is_good}
use Rattle.gufi_acl.proofs.EntriesBack.{entries_back}
use Rattle.gufi_acl.proofs.Kept.{AreKept, are_kept}

pub record IsList (es : List Entry) : Type 0 where
  pub good : list_all is_good es ≡ true
  pub up : ascends_after None es ≡ true
  pub tags : has_tags es ≡ true
  pub few : nat_lt max_named (named_count es) ≡ false

both_good : (es : List Entry) → list_all is_entry es ≡ true → list_all is_small es ≡ true → list_all is_good es ≡ true
both_good [] h k = refl
both_good (e ∷ es) h k =
    let a = and_parts (is_entry e) (list_all is_entry es) h in
    let b = and_parts (is_small e) (list_all is_small es) k in
    and_from _ _ (and_from _ _ a.0 b.0) (both_good es a.1 b.1)

sorted_same : (es : List Entry) → list_all is_small es ≡ true → ascends_after None es ≡ true → sort_entries es ≡ es
sorted_same es small up = sort_by-ascends entry_cmp entries_total es (sym (ascends_all es small) ∙ up)

made_back : (es : List Entry) → list_all is_small es ≡ true → IsList es → acl_of_entries (sort_entries es) ≡ Ok (flat_map entry_bytes es)
made_back es small list = ap acl_of_entries (sorted_same es small list.up) ∙ rw (list.up, list.tags, list.few) refl

no_tags : has_tags [] ≡ true → ⊥
unfolding count_of
no_tags h = false≢true h

-- the texts of entries between commas are read to them
texts_back : (es : List Entry) → list_all is_small es ≡ true → IsList es
    → (ok_or (all_entries (split 44 (join_with_byte 44 (map entry_text es)))) BadAcl >>= (λ xs. acl_of_entries (sort_entries xs))) ≡ Ok (flat_map entry_bytes es)
texts_back [] small list = absurd (no_tags list.tags)
texts_back (e ∷ es) small list =
    let cut = split_join 44 (entry_text e) (map entry_text es) (entries_pass (λ b. not (b == 44)) no_comma refl (e ∷ es)) in
    ap (λ (ts : List (List ℕ)). ok_or (all_entries ts) BadAcl >>= (λ xs. acl_of_entries (sort_entries xs))) cut
    ∙ ap (λ (o : Option (List Entry)). ok_or o BadAcl >>= (λ xs. acl_of_entries (sort_entries xs))) (entries_back (e ∷ es) list.good)
    ∙ made_back (e ∷ es) small list

pub acl_back : (acl : List ℕ) → AreKept acl → IsList (entries acl) → is_empty acl ≡ false → acl_of_text (acl_text acl) ≡ Ok acl
unfolding acl_of_text acl_text
acl_back [] kept list some = absurd (false≢true (sym some))
acl_back (b ∷ acl) kept list some = texts_back (entries (b ∷ acl)) kept.small list ∙ ap (λ (bytes : List ℕ). Ok bytes) kept.again

named_few : (n : ℕ) → nat_le n 32 ≡ true → nat_lt 32 n ≡ false
named_few n h = grind (arith, nat_tests)

is_list : (acl : List ℕ) → is_acl acl ≡ true → are_bytes acl ≡ true → AreKept acl × IsList (entries acl)
unfolding is_acl
is_list acl h bytes =
    let one = and_parts (length acl % 6 == 0) _ h in
    let two = and_parts (ascends_after None (entries acl)) _ one.1 in
    let three = and_parts (list_all is_entry (entries acl)) _ two.1 in
    let four = and_parts (has_tags (entries acl)) (nat_le (named_count (entries acl)) max_named) three.1 in
    let kept = are_kept acl (eqb-true _ 0 one.0) bytes in
    (kept, record { good = both_good (entries acl) three.0 kept.small; up = two.0; tags = four.0; few = named_few (named_count (entries acl)) four.1 })

second : (x y : Bool) → x ≡ false → (x || y) ≡ true → y ≡ true
second true y e h = absurd (false≢true (sym e))
second false y e h = h

some_acl : (b : ℕ) (acl : List ℕ) → ((length (b ∷ acl) == 0) || is_acl (b ∷ acl)) ≡ true → is_acl (b ∷ acl) ≡ true
some_acl b acl h = second (length (b ∷ acl) == 0) (is_acl (b ∷ acl)) (ne_eqb (length (b ∷ acl)) 0 (λ e. omega arith)) h

none_back : acl_of_text (acl_text []) ≡ Ok []
unfolding acl_of_text acl_text
none_back = refl

pub acl_reads_back : AclReadsBack
acl_reads_back [] h bytes = none_back
acl_reads_back (b ∷ acl) h bytes =
    let both = is_list (b ∷ acl) (some_acl b acl h) bytes in
    acl_back (b ∷ acl) both.0 both.1 refl
