-- The order of paths, by their texts.
use Rattle.std.proofs.Common.{◌≡◌, ◌≢◌, ℕ, zero, suc, ◌+◌, ◌<◌, ◌≤◌, true, false, cond, eqb, ltb, List, [], ◌∷◌, ◌++◌, length, take, drop, get_or, refl, sym, ap, ◌∙◌, arith, ⊎_elim}
use Rattle.std.specs.declared.cmp.Ordering.{Ordering}
use Rattle.std.specs.declared.cmp.Ordering.TheVariants.{Less, Equal, Greater}
use Rattle.std.specs.Ordering.{nat_cmp, ordering_then}
use Rattle.std.specs.Cmp.Lexicographic.{slice_cmp}
use Rattle.std.specs.List.{list_all}
use Rattle.std.proofs.lemmas.Bool.{cond-true, cond-false, and_parts, not-true, lt-ltb, le-ltb, ne_eqb, cases_Bool, eqb-true}
use Rattle.std.proofs.lemmas.Bool.Decides.{nat_tests}
use Rattle.std.proofs.lemmas.List.{drop_all, drop_more}
use Rattle.std.proofs.lemmas.Map.Lookups.{exact_bytes}
use Rattle.gufi_base.specs.Names.{is_name}
use Rattle.gufi_base.specs.Paths.{Components, path_cmp}
use Rattle.gufi_base.specs.PathTexts.{closed_names, kept_text}
use Rattle.gufi_base.specs.TextOrder.{rank, slash_first}
use Rattle.gufi_base.proofs.Parts.{has_no}
use Rattle.gufi_base.proofs.Names.{name_has_no}
use Rattle.gufi_base.proofs.Below.{closed_names_cons}

both_equal : (a b : Ordering) → ordering_then a b ≡ Equal → (a ≡ Equal) × (b ≡ Equal)
both_equal Less b e = absurd cc
both_equal Equal b e = (refl, e)
both_equal Greater b e = absurd cc

-- equal by the order are the same
pub path_cmp-Equal : (p q : Components) → path_cmp p q ≡ Equal → p ≡ q
path_cmp-Equal [] [] e = refl
path_cmp-Equal [] (y ∷ q) e = absurd cc
path_cmp-Equal (x ∷ p) [] e = absurd cc
path_cmp-Equal (x ∷ p) (y ∷ q) e =
    let parts = both_equal (slice_cmp nat_cmp x y) (path_cmp p q) e in
    ap (λ (n : List ℕ). n ∷ p) (exact_bytes x y parts.0) ∙ ap (λ (t : Components). y ∷ t) (path_cmp-Equal p q parts.1)

nat_cmp-same : (n : ℕ) → nat_cmp n n ≡ Equal
nat_cmp-same n = grind (arith, nat_tests)

pub slice_cmp-same : (xs : List ℕ) → slice_cmp nat_cmp xs xs ≡ Equal
slice_cmp-same [] = refl
slice_cmp-same (x ∷ xs) = ap (λ o. ordering_then o (slice_cmp nat_cmp xs xs)) (nat_cmp-same x) ∙ slice_cmp-same xs

pub path_cmp-same : (p : Components) → path_cmp p p ≡ Equal
path_cmp-same [] = refl
path_cmp-same (x ∷ p) = ap (λ o. ordering_then o (path_cmp p p)) (slice_cmp-same x) ∙ path_cmp-same p

rank_no : (b : ℕ) → eqb b 47 ≡ false → rank b ≡ b + 1
rank_no b e = cond-false (eqb b 47) 0 (b + 1) e

suc_cmp : (a b : ℕ) → nat_cmp (a + 1) (b + 1) ≡ nat_cmp a b
suc_cmp a b = grind (arith, nat_tests)

less_cmp : (a b : ℕ) → a < b → nat_cmp a b ≡ Less
less_cmp a b h = cond-true (ltb a b) Less (cond (eqb a b) Equal Greater) (lt-ltb a b h)

more_cmp : (a b : ℕ) → b < a → nat_cmp a b ≡ Greater
more_cmp a b h = cond-false (ltb a b) Less (cond (eqb a b) Equal Greater) (le-ltb a b (omega arith)) ∙ cond-false (eqb a b) Equal Greater (ne_eqb a b (λ e. omega arith))

bytes_no : (a b : ℕ) → eqb a 47 ≡ false → eqb b 47 ≡ false → slash_first a b ≡ nat_cmp a b
bytes_no a b p q = ap (λ k. nat_cmp k (rank b)) (rank_no a p) ∙ ap (nat_cmp (a + 1)) (rank_no b q) ∙ suc_cmp a b

pub slash_less : (b : ℕ) → eqb b 47 ≡ false → slash_first 47 b ≡ Less
slash_less b e = ap (nat_cmp 0) (rank_no b e) ∙ less_cmp 0 (b + 1) (omega arith)

pub slash_more : (b : ℕ) → eqb b 47 ≡ false → slash_first b 47 ≡ Greater
slash_more b e = ap (λ k. nat_cmp k 0) (rank_no b e) ∙ more_cmp (b + 1) 0 (omega arith)

then_assoc : (a b c : Ordering) → ordering_then a (ordering_then b c) ≡ ordering_then (ordering_then a b) c
then_assoc Less b c = refl
then_assoc Equal b c = refl
then_assoc Greater b c = refl

pub nil_less : (n : List ℕ) (s : ℕ) (rest : List ℕ) → slice_cmp slash_first [] (n ++ s ∷ rest) ≡ Less
nil_less [] s rest = refl
nil_less (x ∷ n) s rest = refl

pub nil_more : (n : List ℕ) (s : ℕ) (rest : List ℕ) → slice_cmp slash_first (n ++ s ∷ rest) [] ≡ Greater
nil_more [] s rest = refl
nil_more (x ∷ n) s rest = refl

-- two texts, by their first names
pub first_names : (n m a b : List ℕ) → has_no 47 n ≡ true → has_no 47 m ≡ true → slice_cmp slash_first (n ++ 47 ∷ a) (m ++ 47 ∷ b) ≡ ordering_then (slice_cmp nat_cmp n m) (slice_cmp slash_first a b)
first_names [] [] a b p q = refl
first_names [] (y ∷ m) a b p q = ap (λ o. ordering_then o (slice_cmp slash_first a (m ++ 47 ∷ b))) (slash_less y (not-true _ (and_parts _ _ q).0))
first_names (x ∷ n) [] a b p q = ap (λ o. ordering_then o (slice_cmp slash_first (n ++ 47 ∷ a) b)) (slash_more x (not-true _ (and_parts _ _ p).0))
first_names (x ∷ n) (y ∷ m) a b p q =
    let h = bytes_no x y (not-true _ (and_parts _ _ p).0) (not-true _ (and_parts _ _ q).0) in
    ap (λ o. ordering_then o (slice_cmp slash_first (n ++ 47 ∷ a) (m ++ 47 ∷ b))) h
    ∙ ap (ordering_then (nat_cmp x y)) (first_names n m a b (and_parts _ _ p).1 (and_parts _ _ q).1)
    ∙ (then_assoc (nat_cmp x y) (slice_cmp nat_cmp n m) (slice_cmp slash_first a b))

pub texts_ordered : (p q : Components) → list_all is_name p ≡ true → list_all is_name q ≡ true → slice_cmp slash_first (closed_names p) (closed_names q) ≡ path_cmp p q
texts_ordered [] [] h k = refl
texts_ordered [] (y ∷ q) h k = ap (slice_cmp slash_first []) (closed_names_cons y q) ∙ nil_less y 47 (closed_names q)
texts_ordered (x ∷ p) [] h k = ap (λ (t : List ℕ). slice_cmp slash_first t []) (closed_names_cons x p) ∙ nil_more x 47 (closed_names p)
texts_ordered (x ∷ p) (y ∷ q) h k =
    let a = and_parts _ _ h in
    let b = and_parts _ _ k in
    ap (λ (t : List ℕ). slice_cmp slash_first t (closed_names (y ∷ q))) (closed_names_cons x p) ∙ ap (slice_cmp slash_first (x ++ 47 ∷ closed_names p)) (closed_names_cons y q)
    ∙ first_names x y (closed_names p) (closed_names q) (name_has_no x a.0) (name_has_no y b.0)
    ∙ ap (ordering_then (slice_cmp nat_cmp x y)) (texts_ordered p q a.1 b.1)

-- the kept texts of two paths stand as the paths do
pub kept_texts_ordered : (a b : List ℕ) (o : Ordering) → o ≡ slice_cmp slash_first a b → (p q : Components) → list_all is_name p ≡ true → list_all is_name q ≡ true → a ≡ kept_text p → b ≡ kept_text q → o ≡ path_cmp p q
kept_texts_ordered a b o is p q h k e f =
    is ∙ ap (λ (t : List ℕ). slice_cmp slash_first t b) e ∙ ap (slice_cmp slash_first (kept_text p)) f ∙ texts_ordered p q h k

-- past what they begin with alike, two texts stand as they stood
pub same_front : (n : ℕ) (a b : List ℕ) → take n a ≡ take n b → n ≤ length a → n ≤ length b → slice_cmp slash_first (drop n a) (drop n b) ≡ slice_cmp slash_first a b
same_front zero a b e la lb = refl
same_front (suc n) [] b e la lb = absurd (omega arith)
same_front (suc n) (x ∷ a) [] e la lb = absurd (omega arith)
same_front (suc n) (x ∷ a) (y ∷ b) e la lb =
    let head : x ≡ y = cc in
    let rest : take n a ≡ take n b = cc in
    same_front n a b rest (omega arith) (omega arith)
    ∙ ap (λ o. ordering_then o (slice_cmp slash_first a b)) (sym (nat_cmp-same (rank x))) ∙ ap (λ (z : ℕ). ordering_then (slash_first x z) (slice_cmp slash_first a b)) head

first_differ : (n : ℕ) (a b : List ℕ) → n < length a → n < length b → slash_first (get_or a n 0) (get_or b n 0) ≢ Equal → slash_first (get_or a n 0) (get_or b n 0) ≡ slice_cmp slash_first (drop n a) (drop n b)
first_differ n [] b la lb ne = absurd (omega arith)
first_differ n (x ∷ a) [] la lb ne = absurd (omega arith)
first_differ zero (x ∷ a) (y ∷ b) la lb ne = decided (slash_first x y) (slice_cmp slash_first a b) ne
  where
    decided : (o rest : Ordering) → o ≢ Equal → o ≡ ordering_then o rest
    decided Less rest ne = refl
    decided Equal rest ne = absurd (ne refl)
    decided Greater rest ne = refl
first_differ (suc n) (x ∷ a) (y ∷ b) la lb ne = first_differ n a b (omega arith) (omega arith) ne

pub both_end : (n : ℕ) (a b : List ℕ) → take n a ≡ take n b → n ≡ length a → n ≡ length b → Equal ≡ slice_cmp slash_first a b
both_end n a b e la lb =
    sym (ap (λ (t : List ℕ). slice_cmp slash_first t (drop n b)) (drop_all n a (omega arith)) ∙ ap (slice_cmp slash_first []) (drop_all n b (omega arith))) ∙ same_front n a b e (omega arith) (omega arith)

pub first_ends : (n : ℕ) (a b : List ℕ) → take n a ≡ take n b → n ≡ length a → n < length b → Less ≡ slice_cmp slash_first a b
first_ends n a b e la lb =
    sym (ap (λ (t : List ℕ). slice_cmp slash_first t (drop n b)) (drop_all n a (omega arith)) ∙ ap (slice_cmp slash_first []) (drop_more b n 0 lb)) ∙ same_front n a b e (omega arith) (omega arith)

pub other_ends : (n : ℕ) (a b : List ℕ) → take n a ≡ take n b → n < length a → n ≡ length b → Greater ≡ slice_cmp slash_first a b
other_ends n a b e la lb =
    sym (ap (λ (t : List ℕ). slice_cmp slash_first (drop n a) t) (drop_all n b (omega arith)) ∙ ap (λ (t : List ℕ). slice_cmp slash_first t []) (drop_more a n 0 la)) ∙ same_front n a b e (omega arith) (omega arith)

rank-injective : (x y : ℕ) → rank x ≡ rank y → x ≡ y
rank-injective x y e =
    ⊎_elim (λ (s : eqb x 47 ≡ true).
    ⊎_elim (λ (t : eqb y 47 ≡ true). eqb-true x 47 s ∙ sym (eqb-true y 47 t))
    (λ (t : eqb y 47 ≡ false). absurd (omega (arith, e, cond-true (eqb x 47) 0 (x + 1) s, rank_no y t))) (cases_Bool (eqb y 47)))
    (λ (s : eqb x 47 ≡ false).
    ⊎_elim (λ (t : eqb y 47 ≡ true). absurd (omega (arith, e, cond-true (eqb y 47) 0 (y + 1) t, rank_no x s)))
    (λ (t : eqb y 47 ≡ false). omega (arith, e, rank_no x s, rank_no y t)) (cases_Bool (eqb y 47)))
    (cases_Bool (eqb x 47))

cmp_exact : (m n : ℕ) → nat_cmp m n ≡ Equal → m ≡ n
cmp_exact m n e = grind (arith, nat_tests)

pub both_go_on : (n : ℕ) (a b : List ℕ) → take n a ≡ take n b → n < length a → n < length b → get_or a n 0 ≢ get_or b n 0 → slash_first (get_or a n 0) (get_or b n 0) ≡ slice_cmp slash_first a b
both_go_on n a b e la lb ne =
    first_differ n a b la lb (λ h. ne (rank-injective _ _ (cmp_exact _ _ h))) ∙ same_front n a b e (omega arith) (omega arith)
