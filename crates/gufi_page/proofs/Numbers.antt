-- The numbers of rows' stems.
use Rattle.std.proofs.Common.{◌≡◌, ℕ, zero, suc, ◌+◌, ◌-◌, ◌<◌, ◌≤◌, Bool, true, false, cond, ◌⊎◌, inl, inr, List, [], ◌∷◌, ◌++◌, length, get_or, refl, ap, ◌∙◌, arith, length-append}
use Rattle.std.specs.Prelude.{All, filter}
use Rattle.std.proofs.lemmas.Bool.Decides.{nat_tests}
use Rattle.std.proofs.lemmas.Bool.{cases_lt}
use Rattle.std.proofs.lemmas.List.{append-nil, get_or_append_left, get_or-append_right}
use Rattle.std.proofs.lemmas.List.Elements.{All-append, filter-append}
use Rattle.gufi_page.specs.declared.text.Stem.{Stem}
use Rattle.gufi_page.specs.Packed.{Ascend, Begin, HaveBegun, has_begun, no_stem, number_at}

has_begun_true : (k : ℕ) (s : Stem) → s.first ≤ k → has_begun k s ≡ true
has_begun_true k s h = grind (arith, nat_tests)

has_begun_false : (k : ℕ) (s : Stem) → k < s.first → has_begun k s ≡ false
has_begun_false k s h = grind (arith, nat_tests)

count_begun : (stems : List Stem) (k place : ℕ) → HaveBegun stems k place → length (filter (has_begun k) stems) ≡ place
count_begun [] k place b = omega (arith, b.within)
count_begun (s ∷ stems) k zero b =
    ap (λ (t : Bool). length (cond t (s ∷ filter (has_begun k) stems) (filter (has_begun k) stems))) (has_begun_false k s (b.behind 0 (omega arith) (omega arith)))
    ∙ count_begun stems k zero (record { within = omega arith; below = λ i h. absurd (omega (arith, h)); behind = λ i le h. b.behind (suc i) (omega arith) (omega (arith, h)) })
count_begun (s ∷ stems) k (suc place) b =
    ap (λ (t : Bool). length (cond t (s ∷ filter (has_begun k) stems) (filter (has_begun k) stems))) (has_begun_true k s (b.below 0 (omega arith)))
    ∙ ap (λ n. suc n) (count_begun stems k place (record {
      within = omega (arith, b.within);
      below = λ i h. b.below (suc i) (omega (arith, h));
      behind = λ i le h. b.behind (suc i) (omega (arith, le)) (omega (arith, h));
    }))

-- the last stem that has begun has the number
pub number_begun : (stems : List Stem) (k place : ℕ) → HaveBegun stems k place → number_at stems k ≡ place - 1
number_begun stems k place b = ap (λ n. n - 1) (count_begun stems k place b)

pub number_of : (stems : List Stem) (k n : ℕ) → HaveBegun stems k (n + 1) → n ≡ number_at stems k
number_of stems k n b = let e = number_begun stems k (n + 1) b in omega (arith, e)

none_begun : (more : List Stem) (k at : ℕ) → All (λ (s : Stem). s.first ≡ at) more → k < at → filter (has_begun k) more ≡ []
none_begun [] k at all h = refl
none_begun (s ∷ more) k at all h =
    let here : s.first ≡ at = all 0 s (omega arith) in
    ap (λ (t : Bool). cond t (s ∷ filter (has_begun k) more) (filter (has_begun k) more)) (has_begun_false k s (omega (arith, here, h)))
    ∙ none_begun more k at (λ i d lt. all (suc i) d (omega (arith, lt))) h

all_begun : (stems : List Stem) (k : ℕ) → Begin k stems → filter (has_begun k) stems ≡ stems
all_begun [] k all = refl
all_begun (s ∷ stems) k all =
    ap (λ (t : Bool). cond t (s ∷ filter (has_begun k) stems) (filter (has_begun k) stems)) (has_begun_true k s (all 0 s (omega arith)))
    ∙ ap (λ (l : List Stem). s ∷ l) (all_begun stems k (λ i d lt. all (suc i) d (omega (arith, lt))))

pub number_last : (stems : List Stem) (k : ℕ) → Begin k stems → number_at stems k ≡ length stems - 1
number_last stems k all = ap (λ (l : List Stem). length l - 1) (all_begun stems k all)

-- stems, and more of them that are of the row of a number
module _ (stems more : List Stem) (at : ℕ) (each : All (λ (s : Stem). s.first ≡ at) more) where
  pub number-more : (k : ℕ) → k < at → number_at (stems ++ more) k ≡ number_at stems k
  number-more k h =
      ap (λ (l : List Stem). length l - 1)
      (filter-append (has_begun k) stems more ∙ ap (λ (l : List Stem). filter (has_begun k) stems ++ l) (none_begun more k at each h) ∙ append-nil (filter (has_begun k) stems))

  pub Begin-more : Begin at stems → Begin at (stems ++ more)
  Begin-more all = All-append (λ (s : Stem). s.first ≤ at) stems more all (λ k d h. let e = each k d h in omega (arith, e))

  pub Ascend-more : Ascend stems → Begin at stems → Ascend (stems ++ more)
  Ascend-more up all i j le h = of (cases_lt j (length stems)) where
    of : (j < length stems) ⊎ (length stems ≤ j) → (get_or (stems ++ more) i no_stem).first ≤ (get_or (stems ++ more) j no_stem).first
    of (inl lt) =
        let left = ap (λ (s : Stem). s.first) (get_or_append_left stems more no_stem i (omega (arith, le, lt))) in
        let right = ap (λ (s : Stem). s.first) (get_or_append_left stems more no_stem j lt) in
        let ascending = up i j le lt in
        omega (arith, left, right, ascending)
    of (inr ge) =
        let left = Begin-more all i no_stem (omega (arith, le, h)) in
        let right = ap (λ (s : Stem). s.first) (get_or-append_right stems more (length stems) j no_stem refl ge) in
        let here = each (j - length stems) no_stem (omega (arith, h, ge, length-append stems more)) in
        omega (arith, left, right, here)
