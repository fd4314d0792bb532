-- What halving ascending numbers tells of their members.
use Rattle.std.proofs.Common.{◌≡◌, ◌≢◌, ℕ, ◌<◌, ◌≤◌, List, Ok, Err, Result, sym, arith, false, ◌==◌}
use Rattle.std.specs.List.Sorted.{IsNonDecreasing, IsBinarySearchResult}
use Rattle.std.specs.Ordering.{nat_cmp}
use Rattle.std.specs.Result.{is_ok}
use Rattle.std.proofs.lemmas.Bool.{eq-eqb, ne_eqb}
use Rattle.std.proofs.lemmas.List.Elements.{All-from_get_or}
use Rattle.std.proofs.lemmas.List.Folds.{list_any_at, list_any_none}
use Rattle.std.proofs.lemmas.List.Sorted.{searched}
use Rattle.gufi_access.specs.Access.{is_member}

-- a number below another on one side of i, and above it on the other, isn't that other
differs : (a b i k : ℕ) → (k < i → a < b) → (i ≤ k → b < a) → a ≢ b
differs a b i k low high e = grind (arith, low, high)

-- a number is found exactly where it is a member
pub is_ok-searched : (index : List ℕ) (gid : ℕ) (r : Result ℕ ℕ)
    → IsBinarySearchResult (λ y. nat_cmp y gid) index r → IsNonDecreasing index → is_ok r ≡ is_member index gid
is_ok-searched index gid (Ok i) position ascends =
    let here = searched index gid (Ok i) position (λ i j. ascends i j 0) in
    sym (list_any_at (λ group. group == gid) index i 0 here.0 (eq-eqb _ gid here.1))
is_ok-searched index gid (Err i) position ascends =
    let apart = searched index gid (Err i) position (λ i j. ascends i j 0) in
    sym (list_any_none (λ group. group == gid) index
    (All-from_get_or (λ group. (group == gid) ≡ false) index 0
    (λ k within. ne_eqb _ gid (differs _ gid i k (apart.1 k) (λ up. apart.2 k up within)))))
