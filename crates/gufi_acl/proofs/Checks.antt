-- The entries of a list, one by one.
use Rattle.std.proofs.Common.{◌≡◌, ℕ, ◌+◌, ◌<◌, ◌≤◌, Bool, true, cond, ◌==◌, List, [], ◌∷◌, Option, Some, length, get_or, drop, refl, ap, arith}
use Rattle.std.specs.Prelude.{◌&&◌, ◌||◌, count_by}
use Rattle.std.proofs.lemmas.List.{drop_more, drop_all}
use Rattle.std.proofs.lemmas.List.Sums.{sum_by-cons}
use Rattle.std.proofs.lemmas.Bool.Decides.{nat_tests}
use Rattle.gufi_access.specs.declared.acl.Entry.{Entry}
use Rattle.gufi_access.specs.Acl.{ascends_after, is_after_last, count_of, named_count}

pub ascends_more : (last : Option Entry) (es : List Entry) (i : ℕ) (d : Entry) → i < length es
    → ascends_after last (drop i es) ≡ (is_after_last last (get_or es i d) && ascends_after (Some (get_or es i d)) (drop (i + 1) es))
unfolding ascends_after
ascends_more last es i d lt = ap (ascends_after last) (drop_more es i d lt)

pub ascends_end : (last : Option Entry) (es : List Entry) (i : ℕ) → length es ≤ i → ascends_after last (drop i es) ≡ true
unfolding ascends_after
ascends_end last es i past = ap (ascends_after last) (drop_all i es past)

two_counts : (t : ℕ) (b : Bool) → b ≡ ((t == 1) || (t == 3)) → cond b 1 0 ≡ cond (t == 1) 1 0 + cond (t == 3) 1 0
two_counts t b e = grind (arith, nat_tests)

-- named users and named groups are counted at once
pub named_at_once : (es : List Entry) → count_by (λ e. (e.tag == 1) || (e.tag == 3)) es ≡ named_count es
unfolding count_of
named_at_once [] = refl
named_at_once (e ∷ es) =
    let here = two_counts e.tag ((e.tag == 1) || (e.tag == 3)) refl in
    let rest = named_at_once es in
    let both = sum_by-cons (λ x. cond ((x.tag == 1) || (x.tag == 3)) 1 0) e es in
    let users = sum_by-cons (λ x. cond (x.tag == 1) 1 0) e es in
    let groups = sum_by-cons (λ x. cond (x.tag == 3) 1 0) e es in
    omega (arith, here, rest, both, users, groups)
