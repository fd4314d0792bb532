-- Texts in two pieces.
use Rattle.std.proofs.Common.{◌≡◌, ◌<◌, ℕ, List, [], ◌∷◌, ◌++◌, length, take, drop, refl, ap, ◌∙◌, arith}
use Rattle.std.specs.declared.cmp.Ordering.{Ordering}
use Rattle.std.specs.declared.cmp.Ordering.TheVariants.{Less, Equal, Greater}
use Rattle.std.specs.Ordering.{nat_cmp, ordering_then}
use Rattle.std.specs.Cmp.Lexicographic.{slice_cmp}

then_twice : (o p q : Ordering) → ordering_then (ordering_then o p) q ≡ ordering_then o (ordering_then p q)
then_twice Less p q = refl
then_twice Equal p q = refl
then_twice Greater p q = refl

pub pieces_cmp : (front back text : List ℕ)
    → ordering_then (slice_cmp nat_cmp front (take (length front) text)) (slice_cmp nat_cmp back (drop (length front) text)) ≡ slice_cmp nat_cmp (front ++ back) text
pieces_cmp [] back text = refl
pieces_cmp (x ∷ front) back [] = refl
pieces_cmp (x ∷ front) back (y ∷ text) =
    then_twice (nat_cmp x y) (slice_cmp nat_cmp front (take (length front) text)) (slice_cmp nat_cmp back (drop (length front) text))
    ∙ ap (ordering_then (nat_cmp x y)) (pieces_cmp front back text)

-- a text that is shorter than the front is decided by the front
pub order_of_front : (front back text : List ℕ) → length text < length front → slice_cmp nat_cmp front text ≡ slice_cmp nat_cmp (front ++ back) text
order_of_front [] back text short = absurd (omega arith)
order_of_front (x ∷ front) back [] short = refl
order_of_front (x ∷ front) back (y ∷ text) short =
    let less : length text < length front = omega arith in ap (ordering_then (nat_cmp x y)) (order_of_front front back text less)

-- the order of the fronts, and where they are the same that of the rests
pub order_of_pieces : (front back text first rest : List ℕ) (o next : Ordering) → first ≡ take (length front) text → rest ≡ drop (length front) text → o ≡ slice_cmp nat_cmp front first
    → next ≡ slice_cmp nat_cmp back rest → ordering_then o next ≡ slice_cmp nat_cmp (front ++ back) text
order_of_pieces front back text first rest o next is others decides behind = rw (decides, behind, is, others) (pieces_cmp front back text)
