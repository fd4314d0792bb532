-- Lines in order of their numbers, and rows as lines.
use Rattle.std.proofs.Common.{◌≡◌, ℕ, zero, suc, ◌+◌, ◌<◌, ◌≤◌, ◌^◌, Bool, true, false, not, cond, eqb, ltb, List, [], ◌∷◌, ◌++◌, map, length, drop, get_or, refl, sym, ap, ◌∙◌, arith}
use Rattle.std.specs.Prelude.{count_by, nat_lt}
use Rattle.std.specs.Cmp.{IsTotalOrder}
use Rattle.std.specs.declared.cmp.Ordering.TheVariants.{Less, Equal, Greater}
use Rattle.std.specs.Ordering.{nat_cmp}
use Rattle.std.specs.List.{list_all, AllByRecursion}
use Rattle.std.proofs.lemmas.Bool.{and_parts, and_from, cond-true, cond-false, lt-ltb, not-true}
use Rattle.std.proofs.lemmas.Cmp.{nat_cmp_total, on_total}
use Rattle.std.proofs.lemmas.List.Sums.{sum_by-cons, sum_by-append}
use Rattle.gufi_base.specs.declared.record.Line.{Line}
use Rattle.gufi_base.specs.declared.record.Row.{Row}
use Rattle.gufi_base.specs.Basics.{ascends}
use Rattle.gufi_base.specs.Paths.{Components, is_child_of}
use Rattle.gufi_base.proofs.SortedOnce.{ascends-cons}
use Rattle.gufi_tree.specs.Build.{is_dir_line}
use Rattle.gufi_tree.specs.Gathered.{row_of_line}
use Rattle.gufi_tree.specs.StanzaLines.{stanza_holds, line_cmp, zip_lines, are_few, AreNumbered}

less_cmp : (a b : ℕ) → a < b → nat_cmp a b ≡ Less
less_cmp a b h = cond-true (ltb a b) Less (cond (eqb a b) Equal Greater) (lt-ltb a b h)

pub line_total : IsTotalOrder line_cmp
line_total = on_total (λ (l : Line). l.number) nat_cmp_total

above_all : (n : ℕ) (ls : List Line) (x : Line) → x.number < n → AreNumbered n ls → AllByRecursion (λ y. line_cmp x y ≡ Less) ls
above_all n [] x lt h = tt
above_all n (l ∷ ls) x lt h = (less_cmp x.number l.number (omega (arith, lt, h.0)), above_all (n + 1) ls x (omega (arith, lt)) h.1)

pub numbered_ascends : (n : ℕ) (ls : List Line) → AreNumbered n ls → ascends line_cmp ls ≡ true
numbered_ascends n [] h = refl
numbered_ascends n (l ∷ ls) h = ascends-cons line_cmp line_total l ls (above_all (n + 1) ls l (omega (arith, h.0)) h.1) (numbered_ascends (n + 1) ls h.1)

pub numbered_push : (n : ℕ) (ls : List Line) (l : Line) → AreNumbered n ls → l.number ≡ n + length ls → AreNumbered n (ls ++ l ∷ [])
numbered_push n [] l h e = (omega (arith, e), refl)
numbered_push n (x ∷ ls) l h e = (h.0, numbered_push (n + 1) ls l h.1 (omega (arith, e)))

pub numbers_bound : (n m : ℕ) (ls : List Line) → AreNumbered n ls → n + length ls ≤ m → list_all (λ (l : Line). nat_lt l.number m) ls ≡ true
numbers_bound n m [] h le = refl
numbers_bound n m (l ∷ ls) h le = and_from _ _ (lt-ltb l.number m (omega (arith, h.0, le))) (numbers_bound (n + 1) m ls h.1 (omega (arith, le)))

abbrev pub line_at : ℕ → Row → Line
line_at place row = record { number = place + 1; path = row.path; rec = row.rec }

pub zip_append : (ns ms : List ℕ) (xs ys : List Row) → length ns ≡ length xs → zip_lines (ns ++ ms) (xs ++ ys) ≡ zip_lines ns xs ++ zip_lines ms ys
zip_append [] ms [] ys e = refl
zip_append [] ms (x ∷ xs) ys e = absurd (omega (arith, e))
zip_append (n ∷ ns) ms [] ys e = absurd (omega (arith, e))
zip_append (n ∷ ns) ms (x ∷ xs) ys e = ap (λ (ls : List Line). line_at n x ∷ ls) (zip_append ns ms xs ys (omega (arith, e)))

pub zip_rows : (ns : List ℕ) (xs : List Row) → length ns ≡ length xs → map row_of_line (zip_lines ns xs) ≡ xs
zip_rows [] [] e = refl
zip_rows [] (x ∷ xs) e = absurd (omega (arith, e))
zip_rows (n ∷ ns) [] e = absurd (omega (arith, e))
zip_rows (n ∷ ns) (x ∷ xs) e = ap (λ (us : List Row). x ∷ us) (zip_rows ns xs (omega (arith, e)))

pub zip_split : (ns : List ℕ) (xs ys : List Row) → zip_lines ns (xs ++ ys) ≡ zip_lines ns xs ++ zip_lines (drop (length xs) ns) ys
zip_split [] [] ys = refl
zip_split [] (x ∷ xs) ys = refl
zip_split (n ∷ ns) [] ys = refl
zip_split (n ∷ ns) (x ∷ xs) ys = ap (λ (ls : List Line). line_at n x ∷ ls) (zip_split ns xs ys)

pub zip_none : (ns : List ℕ) → zip_lines ns [] ≡ []
zip_none [] = refl
zip_none (n ∷ ns) = refl

-- one row more, behind places that are left out
pub zip_more : (ns : List ℕ) (at : ℕ) (xs : List Row) (x : Row) (p next : ℕ) → next ≡ at + length xs → next < length ns → p ≡ get_or ns next p
    → zip_lines (drop at ns) (xs ++ x ∷ []) ≡ zip_lines (drop at ns) xs ++ line_at p x ∷ []
zip_more [] at xs x p next e lt is = absurd (omega (arith, lt))
zip_more (n ∷ ns) (suc at) xs x p zero e lt is = absurd (omega (arith, e))
zip_more (n ∷ ns) (suc at) xs x p (suc next) e lt is = zip_more ns at xs x p next (omega (arith, e)) (omega (arith, lt)) is
zip_more (n ∷ ns) zero [] x p zero e lt is = ap (λ (ls : List Line). line_at n x ∷ ls) (zip_none ns) ∙ ap (λ m. line_at m x ∷ []) (sym is)
zip_more (n ∷ ns) zero [] x p (suc next) e lt is = absurd (omega (arith, e))
zip_more (n ∷ ns) zero (y ∷ xs) x p zero e lt is = absurd (omega (arith, e))
zip_more (n ∷ ns) zero (y ∷ xs) x p (suc next) e lt is = ap (λ (ls : List Line). line_at n y ∷ ls) (zip_more ns zero xs x p next (omega (arith, e)) (omega (arith, lt)) is)

pub places_few : (ns : List ℕ) (xs : List Row) → length ns ≡ length xs → list_all (λ (l : Line). nat_lt l.number (2 ^ 32)) (zip_lines ns xs) ≡ true → are_few ns ≡ true
places_few [] xs e h = refl
places_few (n ∷ ns) [] e h = absurd (omega (arith, e))
places_few (n ∷ ns) (x ∷ xs) e h =
    let both = and_parts (nat_lt (n + 1) (2 ^ 32)) (list_all (λ (l : Line). nat_lt l.number (2 ^ 32)) (zip_lines ns xs)) h in
    and_from _ _ both.0 (places_few ns xs (omega (arith, e)) both.1)

abbrev pub is_entry : Line → Bool
is_entry line = not (is_dir_line line)

-- what the newest lines say of the last directory
pub holds_behind : (xs ys : List Line) (c : Components) → list_all is_entry xs ≡ true → stanza_holds (xs ++ ys) c ≡ stanza_holds ys c
holds_behind [] ys c h = refl
holds_behind (x ∷ xs) ys c h =
    let both = and_parts (is_entry x) (list_all is_entry xs) h in
    cond-false (is_dir_line x) (is_child_of x.path c) (stanza_holds (xs ++ ys) c) (not-true (is_dir_line x) both.0) ∙ holds_behind xs ys c both.1

count_cons : (p : Line → Bool) (l : Line) (ls : List Line) → count_by p (l ∷ ls) ≡ cond (p l) 1 0 + count_by p ls
count_cons p l ls = sum_by-cons (λ x. cond (p x) 1 0) l ls

count_append : (p : Line → Bool) (xs ys : List Line) → count_by p (xs ++ ys) ≡ count_by p xs + count_by p ys
count_append p xs ys = sum_by-append (λ x. cond (p x) 1 0) xs ys

pub dirs_push : (ls : List Line) (l : Line) (n : ℕ) → is_dir_line l ≡ true → count_by is_dir_line ls ≡ n → count_by is_dir_line (ls ++ l ∷ []) ≡ n + 1
dirs_push ls l n kind h =
    let a = count_append is_dir_line ls (l ∷ []) in
    let b = count_cons is_dir_line l [] in
    let one : cond {A = ℕ} (is_dir_line l) 1 0 ≡ 1 = cond-true (is_dir_line l) 1 0 kind in
    let none : count_by is_dir_line [] ≡ 0 = refl in
    omega (arith, h, a, b, one, none)

pub entries_push : (ls : List Line) (l : Line) (n : ℕ) → is_dir_line l ≡ false → count_by is_dir_line ls ≡ n → count_by is_dir_line (ls ++ l ∷ []) ≡ n
entries_push ls l n kind h =
    let a = count_append is_dir_line ls (l ∷ []) in
    let b = count_cons is_dir_line l [] in
    let one : cond {A = ℕ} (is_dir_line l) 1 0 ≡ 0 = cond-false (is_dir_line l) 1 0 kind in
    let none : count_by is_dir_line [] ≡ 0 = refl in
    omega (arith, h, a, b, one, none)

pub both_counted : (ls : List Line) → count_by is_dir_line ls + count_by is_entry ls ≡ length ls
both_counted [] = refl
both_counted (l ∷ ls) = by (is_dir_line l) (count_cons is_dir_line l ls) (count_cons is_entry l ls) (both_counted ls) where
  by : (b : Bool) → count_by is_dir_line (l ∷ ls) ≡ cond b 1 0 + count_by is_dir_line ls → count_by is_entry (l ∷ ls) ≡ cond (not b) 1 0 + count_by is_entry ls → count_by is_dir_line ls + count_by is_entry ls ≡ length ls
      → count_by is_dir_line (l ∷ ls) + count_by is_entry (l ∷ ls) ≡ suc (length ls)
  by true a b h = omega (arith, a, b, h)
  by false a b h = omega (arith, a, b, h)
