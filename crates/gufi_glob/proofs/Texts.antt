-- Plain patterns, and texts in two pieces.
use Rattle.std.proofs.Common.{◌≡◌, ℕ, zero, suc, ◌+◌, ◌-◌, ◌<◌, ◌≤◌, Bool, true, false, List, [], ◌∷◌, ◌++◌, length, take, drop, refl, sym, ap, ◌∙◌, inl, inr, arith, eqb, leb, get_or, get_or-drop, get_or-append-add, length-append, length-drop}
use Rattle.std.specs.Prelude.{◌||◌, ◌&&◌, Ok, map, bytes_eq, not}
use Rattle.std.specs.List.{list_all}
use Rattle.std.proofs.lemmas.Bool.{cases_Bool, cases_lt, false≢true, ne_eqb}
use Rattle.std.proofs.lemmas.Bool.Decides.{nat_tests}
use Rattle.std.proofs.lemmas.Slice.Eq.{bytes_eq-Decides}
use Rattle.gufi_glob.specs.Parts.{only, any_text}
use Rattle.gufi_glob.specs.Patterns.{matches, parts_from, read_pattern, front_part}
use Rattle.gufi_glob.specs.Plain.{is_plain_byte, ends_with}
use Rattle.gufi_base.specs.Basics.{◌>>=◌}
use Rattle.gufi_glob.proofs.Matching.{if_so}
use Rattle.gufi_glob.proofs.Reading.{parts_from-more}

same_byte : (b c : ℕ) → ((leb b c && leb c b) || false) ≡ eqb b c
same_byte b c = grind (arith, nat_tests)

if_so-and : (p x : Bool) → if_so p x ≡ (p && x)
if_so-and true x = refl
if_so-and false x = refl

-- bytes that match themselves are the text
pub matches_plain : (bytes text : List ℕ) → matches (map only bytes) text ≡ bytes_eq bytes text
matches_plain [] [] = refl
matches_plain [] (c ∷ text) = refl
matches_plain (b ∷ bytes) [] = refl
matches_plain (b ∷ bytes) (c ∷ text) =
    if_so-and ((leb b c && leb c b) || false) (matches (map only bytes) text)
    ∙ ap (λ p. p && matches (map only bytes) text) (same_byte b c)
    ∙ ap (λ x. eqb b c && x) (matches_plain bytes text)

unlike : (xs ys : List ℕ) → ¬ (length xs ≡ length ys) → bytes_eq xs ys ≡ false
unlike xs ys other =
    elim (cases_Bool (bytes_eq xs ys)) [
      | inl same ↦ absurd (other (ap length ((bytes_eq-Decides xs ys).0 same)))
      | inr apart ↦ apart
    ]

pub unlike_short : (bytes front back : List ℕ) → length bytes < length front → bytes_eq bytes (front ++ back) ≡ false
unlike_short bytes front back few = unlike bytes (front ++ back) (λ e. omega (arith, length-append front back))

drop_none : (n m : ℕ) (text : List ℕ) → n ≤ m → drop (n - m) text ≡ text
drop_none n m text few = let none : n - m ≡ 0 = omega arith in rw none refl

drop_some : (n m b : ℕ) (text : List ℕ) → m ≤ n → drop (suc n - m) (b ∷ text) ≡ drop (n - m) text
drop_some n m b text few = let more : suc n - m ≡ suc (n - m) = omega arith in rw more refl

or_none : (a : Bool) → (a || false) ≡ a
or_none true = refl
or_none false = refl

tail_more : (tail : List ℕ) (b : ℕ) (text : List ℕ) → (bytes_eq tail (b ∷ text) || ends_with text tail) ≡ ends_with (b ∷ text) tail
tail_more tail b text =
    elim (cases_lt (length text) (length tail)) [
      | inl long ↦
          let whole : ends_with (b ∷ text) tail ≡ bytes_eq tail (b ∷ text) = ap (bytes_eq tail) (drop_none (suc (length text)) (length tail) (b ∷ text) (omega arith)) in
          let apart : ends_with text tail ≡ false = ap (bytes_eq tail) (drop_none (length text) (length tail) text (omega arith)) ∙ unlike tail text (λ e. omega arith) in
          ap (λ x. bytes_eq tail (b ∷ text) || x) apart ∙ or_none (bytes_eq tail (b ∷ text)) ∙ sym whole
      | inr short ↦
          let apart : bytes_eq tail (b ∷ text) ≡ false = unlike tail (b ∷ text) (λ e. omega arith) in
          ap (λ x. x || ends_with text tail) apart ∙ ap (bytes_eq tail) (sym (drop_some (length text) (length tail) b text short))
    ]

drop_of_none : (n : ℕ) → drop {A = ℕ} n [] ≡ []
drop_of_none zero = refl
drop_of_none (suc n) = refl

-- a star before such bytes matches what ends with them
pub matches_tail : (tail text : List ℕ) → matches (any_text ∷ map only tail) text ≡ ends_with text tail
matches_tail tail [] = or_none (matches (map only tail) []) ∙ matches_plain tail [] ∙ ap (bytes_eq tail) (sym (drop_of_none (0 - length tail)))
matches_tail tail (b ∷ text) =
    ap (λ x. x || matches (any_text ∷ map only tail) text) (matches_plain tail (b ∷ text))
    ∙ ap (λ x. bytes_eq tail (b ∷ text) || x) (matches_tail tail text)
    ∙ tail_more tail b text

and_later : (p r l : Bool) → (p && (r && l)) ≡ (r && (p && l))
and_later true r l = refl
and_later false true l = refl
and_later false false l = refl

and_true : (r : Bool) → r ≡ (r && true)
and_true true = refl
and_true false = refl

-- a text in two pieces is compared piece by piece
pub cut_eq : (bytes front back : List ℕ) → length front ≤ length bytes → bytes_eq bytes (front ++ back) ≡ (bytes_eq (drop (length front) bytes) back && bytes_eq (take (length front) bytes) front)
cut_eq bytes [] back few = and_true (bytes_eq bytes back)
cut_eq [] (f ∷ front) back few = absurd (omega arith)
cut_eq (b ∷ bytes) (f ∷ front) back few =
    ap (λ x. eqb b f && x) (cut_eq bytes front back (omega arith))
    ∙ and_later (eqb b f) (bytes_eq (drop (length front) bytes) back) (bytes_eq (take (length front) bytes) front)

-- the end of a text in two pieces
drop_append : (n : ℕ) (front back : List ℕ) → n ≤ length front → drop n (front ++ back) ≡ drop n front ++ back
drop_append zero front back few = refl
drop_append (suc n) [] back few = absurd (omega arith)
drop_append (suc n) (f ∷ front) back few = drop_append n front back (omega arith)

drop_over : (n : ℕ) (front back : List ℕ) → drop (length front + n) (front ++ back) ≡ drop n back
drop_over n [] back = let same : 0 + n ≡ n = omega arith in rw same refl
drop_over n (f ∷ front) back = let same : suc (length front) + n ≡ suc (length front + n) = omega arith in rw same (drop_over n front back)

pub ends_in_back : (tail front back : List ℕ) → length tail ≤ length back → ends_with (front ++ back) tail ≡ bytes_eq tail (drop (length back - length tail) back)
ends_in_back tail front back few =
    let place : length (front ++ back) - length tail ≡ length front + (length back - length tail) = omega (arith, length-append front back) in
    ap (λ n. bytes_eq tail (drop n (front ++ back))) place ∙ ap (bytes_eq tail) (drop_over (length back - length tail) front back)

pub ends_nowhere : (tail front back : List ℕ) → length front + length back < length tail → ends_with (front ++ back) tail ≡ false
ends_nowhere tail front back many =
    ap (bytes_eq tail) (drop_none (length (front ++ back)) (length tail) (front ++ back) (omega (arith, length-append front back)))
    ∙ unlike tail (front ++ back) (λ e. omega (arith, length-append front back))

pub ends_in_both : (tail front back left right last : List ℕ) → left ≡ take (length tail - length back) tail → right ≡ drop (length tail - length back) tail → last ≡ drop (length front - length left) front
    → length left + length back ≡ length tail → length left ≤ length front → ends_with (front ++ back) tail ≡ (bytes_eq right back && bytes_eq left last)
ends_in_both tail front back left right last is_left is_right is_last sum few =
    let place : length (front ++ back) - length tail ≡ length front - length left = omega (arith, length-append front back) in
    let long : length last ≡ length left = ap length is_last ∙ omega (arith, length-drop (length front - length left) front) in
    let cut : length tail - length back ≡ length last = omega arith in
    ap (λ n. bytes_eq tail (drop n (front ++ back))) place
    ∙ ap (bytes_eq tail) (drop_append (length front - length left) front back (omega arith) ∙ ap (λ front. front ++ back) (sym is_last))
    ∙ cut_eq tail last back (omega arith)
    ∙ ap (λ n. bytes_eq (drop n tail) back && bytes_eq (take n tail) last) (sym cut)
    ∙ ap (λ r. bytes_eq r back && bytes_eq (take (length tail - length back) tail) last) (sym is_right)
    ∙ ap (λ l. bytes_eq right back && bytes_eq l last) (sym is_left)

-- texts whose last bytes differ don't end alike
pub other_end : (front back tail : List ℕ) → 1 ≤ length tail → 1 ≤ length back → eqb (get_or tail (length tail - 1) 0) (get_or back (length back - 1) 0) ≡ false → ends_with (front ++ back) tail ≡ false
other_end front back tail some_tail some_back apart =
    elim (cases_Bool (ends_with (front ++ back) tail)) [
      | inl same ↦
          let at = length (front ++ back) - length tail in
          let is : tail ≡ drop at (front ++ back) = (bytes_eq-Decides tail (drop at (front ++ back))).0 same in
          let long : length tail ≡ length (front ++ back) - at = ap length is ∙ length-drop at (front ++ back) in
          let place : at + (length tail - 1) ≡ length front + (length back - 1) = omega (arith, length-append front back) in
          let last : get_or tail (length tail - 1) 0 ≡ get_or back (length back - 1) 0 =
          ap (λ t. get_or t (length tail - 1) 0) is ∙ get_or-drop at (front ++ back) (length tail - 1) 0
          ∙ ap (λ n. get_or (front ++ back) n 0) place ∙ get_or-append-add front back (length back - 1) 0 in
          absurd (false≢true (sym apart ∙ grind (arith, last, nat_tests)))
      | inr other ↦ other
    ]

pub end_of_same : (bytes text : List ℕ) → ends_with text bytes ≡ false → bytes_eq bytes text ≡ false
end_of_same bytes text apart =
    elim (cases_Bool (bytes_eq bytes text)) [
      | inl same ↦
          let long : length bytes ≡ length text = ap length ((bytes_eq-Decides bytes text).0 same) in
          absurd (false≢true (sym apart ∙ ap (bytes_eq bytes) (drop_none (length text) (length bytes) text (omega arith)) ∙ same))
      | inr other ↦ other
    ]

-- a text with another last byte doesn't end so
ends_apart : (text tail : List ℕ) → 1 ≤ length tail → (get_or text (length text - 1) 0 ≡ get_or tail (length tail - 1) 0 → ⊥) → ends_with text tail ≡ false
ends_apart [] tail some apart = ap (bytes_eq tail) (drop_of_none (0 - length tail)) ∙ unlike tail [] (λ e. omega arith)
ends_apart (x ∷ rest) tail some apart =
    other_end [] (x ∷ rest) tail some (omega arith) (ne_eqb _ _ (λ e. apart (sym e)))

pub plain_ends : (bytes text : List ℕ) → 1 ≤ length bytes → (get_or text (length text - 1) 0 ≡ get_or bytes (length bytes - 1) 0 → ⊥) → matches (map only bytes) text ≡ false
plain_ends bytes text some apart = matches_plain bytes text ∙ end_of_same bytes text (ends_apart text bytes some apart)

pub tail_ends : (tail text : List ℕ) → 1 ≤ length tail → (get_or text (length text - 1) 0 ≡ get_or tail (length tail - 1) 0 → ⊥) → matches (any_text ∷ map only tail) text ≡ false
tail_ends tail text some apart = matches_tail tail text ∙ ends_apart text tail some apart

-- ---- reading

and_left : (a b : Bool) → (a && b) ≡ true → a ≡ true
and_left true b e = refl
and_left false b e = e

and_right : (a b : Bool) → (a && b) ≡ true → b ≡ true
and_right true b e = e
and_right false b e = absurd (false≢true e)

not_true : (a : Bool) → not a ≡ true → a ≡ false
not_true true e = absurd (false≢true e)
not_true false e = refl

plain_part : (b : ℕ) (rest : List ℕ) → is_plain_byte b ≡ true → front_part b rest ≡ Ok (only b, 0)
plain_part b rest e =
    let some3 = and_left (not (eqb b 42) && not (eqb b 63) && not (eqb b 91)) (not (eqb b 92)) e in
    let some2 = and_left (not (eqb b 42) && not (eqb b 63)) (not (eqb b 91)) some3 in
    let off42 = not_true (eqb b 42) (and_left (not (eqb b 42)) (not (eqb b 63)) some2) in
    let off63 = not_true (eqb b 63) (and_right (not (eqb b 42)) (not (eqb b 63)) some2) in
    let off91 = not_true (eqb b 91) (and_right (not (eqb b 42) && not (eqb b 63)) (not (eqb b 91)) some3) in
    let off92 = not_true (eqb b 92) (and_right (not (eqb b 42) && not (eqb b 63) && not (eqb b 91)) (not (eqb b 92)) e) in
    rw (off42, off63, off92, off91) refl

pub plain_parts : (bytes : List ℕ) → list_all is_plain_byte bytes ≡ true → parts_from 0 bytes ≡ Ok (map only bytes)
unfolding parts_from
plain_parts [] e = refl
plain_parts (b ∷ bytes) e =
    let here = plain_part b bytes (and_left (is_plain_byte b) (list_all is_plain_byte bytes) e) in
    let rest = plain_parts bytes (and_right (is_plain_byte b) (list_all is_plain_byte bytes) e) in
    parts_from-more b bytes ∙ ap (λ given. given >>= λ p. parts_from p.1 bytes >>= λ parts. Ok (p.0 ∷ parts)) here ∙ ap (λ given. given >>= λ parts. Ok (only b ∷ parts)) rest

pub plain_pattern : (bytes : List ℕ) → list_all is_plain_byte bytes ≡ true → read_pattern bytes ≡ Ok (map only bytes)
plain_pattern bytes e = plain_parts bytes e

pub tail_pattern : (bytes tail : List ℕ) → bytes ≡ 42 ∷ tail → list_all is_plain_byte tail ≡ true → read_pattern bytes ≡ Ok (any_text ∷ map only tail)
tail_pattern bytes tail cut e = rw cut (parts_from-more 42 tail ∙ ap (λ given. given >>= λ parts. Ok (any_text ∷ parts)) (plain_parts tail e))
