-- Entries in order: sorted by their keys, whichever way.
use Rattle.std.proofs.Common.{◌≡◌, ℕ, ◌+◌, ◌*◌, ◌^◌, ◌≤◌, Bool, true, false, cond, ◌==◌, List, [], ◌∷◌, Some, None, Err, refl, sym, ap, ◌∙◌, arith}
use Rattle.std.specs.Prelude.{◌&&◌, ◌||◌, nat_lt}
use Rattle.std.specs.List.{list_all}
use Rattle.std.specs.List.Sorted.{IsPermutation, IsSortedBy, IsNonDecreasingBy}
use Rattle.std.specs.Ordering.{is_lt, nat_cmp}
use Rattle.std.specs.Cmp.{IsTotalOrder}
use Rattle.std.proofs.lemmas.Bool.{and_parts, false≢true}
use Rattle.std.proofs.lemmas.Bool.Decides.{nat_tests}
use Rattle.std.proofs.lemmas.Cmp.{nat_cmp_total, on_total}
use Rattle.std.proofs.lemmas.List.Sorted.{IsPermutation-sym, IsPermutation-trans}
use Rattle.gufi_base.specs.Basics.{ascends}
use Rattle.gufi_base.proofs.Permutations.{IsPermutation-respected}
use Rattle.gufi_base.proofs.Sorting.{IsPermutation-sort_by}
use Rattle.gufi_base.proofs.SortedOnce.{sort_by-to, same_from_sorted}
use Rattle.gufi_access.specs.declared.acl.Entry.{Entry}
use Rattle.gufi_access.specs.Acl.{is_before, ascends_after}
use Rattle.gufi_acl.specs.declared.AclFault.TheVariants.{BadAcl}
use Rattle.gufi_acl.specs.AclTexts.{key, entry_cmp, sort_entries, acl_of_entries}

-- an ID of 32 bits
abbrev pub is_small : Entry → Bool
is_small e = nat_lt e.id (2 ^ 32)

lt_cmp : (x y : ℕ) → is_lt (nat_cmp x y) ≡ nat_lt x y
lt_cmp x y = grind (arith, nat_tests)

before_key : (t u i j : ℕ) → nat_lt i 4294967296 ≡ true → nat_lt j 4294967296 ≡ true
    → (nat_lt t u || ((t == u) && nat_lt i j)) ≡ nat_lt (t * 4294967296 + i) (u * 4294967296 + j)
before_key t u i j a b = grind (arith, nat_tests)

before_cmp : (a b : Entry) → is_small a ≡ true → is_small b ≡ true → is_before a b ≡ is_lt (entry_cmp a b)
before_cmp a b p q = before_key a.tag b.tag a.id b.id p q ∙ sym (lt_cmp (key a) (key b))

and_cond : (b x y : Bool) → x ≡ y → (b && x) ≡ cond b y false
and_cond true x y e = e
and_cond false x y e = refl

ascends_behind : (e : Entry) (es : List Entry) → is_small e ≡ true → list_all is_small es ≡ true → ascends_after (Some e) es ≡ ascends entry_cmp (e ∷ es)
unfolding ascends_after
ascends_behind e [] p h = refl
ascends_behind e (f ∷ es) p h =
    let both = and_parts (is_small f) (list_all is_small es) h in
    ap (λ (b : Bool). b && ascends_after (Some f) es) (before_cmp e f p both.0)
    ∙ and_cond (is_lt (entry_cmp e f)) (ascends_after (Some f) es) (ascends entry_cmp (f ∷ es)) (ascends_behind f es both.0 both.1)

pub ascends_all : (es : List Entry) → list_all is_small es ≡ true → ascends_after None es ≡ ascends entry_cmp es
unfolding ascends_after
ascends_all [] h = refl
ascends_all (e ∷ es) h = let both = and_parts (is_small e) (list_all is_small es) h in ascends_behind e es both.0 both.1

and_turned : (a b c : Bool) → (a && (b && c)) ≡ (b && (a && c))
and_turned true b c = refl
and_turned false true c = refl
and_turned false false c = refl

pub list_all-moved : (q : Entry → Bool) (xs ys : List Entry) → IsPermutation xs ys → list_all q xs ≡ list_all q ys
list_all-moved q xs ys h =
    IsPermutation-respected (λ (a b : Bool). a ≡ b) (λ a. refl) (λ a b c e f. e ∙ f) (list_all q)
    (λ x us vs e. ap (λ (b : Bool). q x && b) e) (λ x y us. and_turned (q x) (q y) (list_all q us)) xs ys h

pub entries_total : IsTotalOrder entry_cmp
entries_total = on_total key nat_cmp_total

not_below : (x y : ℕ) → x ≤ y → is_lt (nat_cmp y x) ≡ false
not_below x y le = grind (arith, nat_tests)

sorted_by : (es : List Entry) → IsNonDecreasingBy key es → IsSortedBy (λ x y. is_lt (entry_cmp x y)) es
sorted_by es up = λ k d low high. not_below _ _ (up k (k + 1) d (omega arith) high)

pub unsorted_bad : (es : List Entry) → ascends_after None es ≡ false → acl_of_entries es ≡ Err BadAcl
unsorted_bad es e = rw e refl

-- however entries are sorted by their keys, the same list is made of them
pub sorted_alike : (es ys : List Entry) → list_all is_small es ≡ true → IsPermutation es ys → IsNonDecreasingBy key ys
    → acl_of_entries ys ≡ acl_of_entries (sort_entries es)
sorted_alike es ys small same up = by (ascends entry_cmp (sort_entries es)) refl
  where
    moved : IsPermutation es (sort_entries es)
    moved = IsPermutation-sort_by entry_cmp es

    there : list_all is_small (sort_entries es) ≡ true
    there = sym (list_all-moved is_small es (sort_entries es) moved) ∙ small

    here : list_all is_small ys ≡ true
    here = sym (list_all-moved is_small es ys same) ∙ small

    other : (b : Bool) → ascends entry_cmp ys ≡ b → ascends entry_cmp (sort_entries es) ≡ false → acl_of_entries ys ≡ acl_of_entries (sort_entries es)
    other true f e =
        absurd (false≢true (sym e ∙ ap (ascends entry_cmp) (sort_by-to entry_cmp entries_total es ys same f) ∙ f))
    other false f e = unsorted_bad ys (ascends_all ys here ∙ f) ∙ sym (unsorted_bad (sort_entries es) (ascends_all (sort_entries es) there ∙ e))

    by : (b : Bool) → ascends entry_cmp (sort_entries es) ≡ b → acl_of_entries ys ≡ acl_of_entries (sort_entries es)
    by true e =
        ap acl_of_entries
        (same_from_sorted entry_cmp entries_total (sort_entries es) ys e
        (IsPermutation-trans (sort_entries es) es ys (IsPermutation-sym es (sort_entries es) moved) same) (sorted_by ys up))
    by false e = other (ascends entry_cmp ys) refl e
