-- Signs and their operands.
use Rattle.std.proofs.Common.{◌≡◌, ℕ, zero, suc, ◌+◌, ◌<◌, length, drop, slice_index_or, arith, List, [], ◌∷◌, Option, Some, None, refl, sym, ap, ◌∙◌, subst}
use Rattle.gufi_base.specs.declared.hint.Hint.{Hint}
use Rattle.gufi_base.specs.declared.hint.Hint.TheVariants.{Not, And, Or}
use Rattle.gufi_formula.specs.Formulas.{Formula, negation, both, either}
use Rattle.gufi_formula.specs.Hints.{with_hint, hints_behind, formula_of, only_one}
use Rattle.gufi_prune.specs.declared.sides.Sides.{Sides}
use Rattle.gufi_prune.specs.Sides.{AreSidesOf, HasOne, HasTwo}

-- a sign's operands are there
pub not_there : (sides : List Sides) (fs next : List (Formula Hint)) → AreSidesOf sides fs → with_hint Not fs ≡ Some next → HasOne sides
not_there sides [] next is e = absurd cc
not_there sides (f ∷ fs) next is e = (f, fs, is)

pub and_there : (sides : List Sides) (fs next : List (Formula Hint)) → AreSidesOf sides fs → with_hint And fs ≡ Some next → HasTwo sides
and_there sides [] next is e = absurd cc
and_there sides (g ∷ []) next is e = absurd cc
and_there sides (g ∷ f ∷ fs) next is e = (f, g, fs, is)

pub or_there : (sides : List Sides) (fs next : List (Formula Hint)) → AreSidesOf sides fs → with_hint Or fs ≡ Some next → HasTwo sides
or_there sides [] next is e = absurd cc
or_there sides (g ∷ []) next is e = absurd cc
or_there sides (g ∷ f ∷ fs) next is e = (f, g, fs, is)

some-same : {A : Type 0} (x y : A) → Some x ≡ Some y → x ≡ y
some-same x y e = cc

-- what stands there behind a sign
pub not_gives : (sides after : List Sides) (fs next : List (Formula Hint)) → AreSidesOf sides fs → with_hint Not fs ≡ Some next
    → ((f : Formula Hint) (fs : List (Formula Hint)) → AreSidesOf sides (f ∷ fs) → AreSidesOf after (negation f ∷ fs)) → AreSidesOf after next
not_gives sides after [] next is e step = absurd cc
not_gives sides after (f ∷ fs) next is e step = subst (AreSidesOf after) (some-same _ _ e) (step f fs is)

pub and_gives : (sides after : List Sides) (fs next : List (Formula Hint)) → AreSidesOf sides fs → with_hint And fs ≡ Some next
    → ((f g : Formula Hint) (fs : List (Formula Hint)) → AreSidesOf sides (g ∷ f ∷ fs) → AreSidesOf after (both f g ∷ fs)) → AreSidesOf after next
and_gives sides after [] next is e step = absurd cc
and_gives sides after (g ∷ []) next is e step = absurd cc
and_gives sides after (g ∷ f ∷ fs) next is e step = subst (AreSidesOf after) (some-same _ _ e) (step f g fs is)

pub or_gives : (sides after : List Sides) (fs next : List (Formula Hint)) → AreSidesOf sides fs → with_hint Or fs ≡ Some next
    → ((f g : Formula Hint) (fs : List (Formula Hint)) → AreSidesOf sides (g ∷ f ∷ fs) → AreSidesOf after (either f g ∷ fs)) → AreSidesOf after next
or_gives sides after [] next is e step = absurd cc
or_gives sides after (g ∷ []) next is e step = absurd cc
or_gives sides after (g ∷ f ∷ fs) next is e step = subst (AreSidesOf after) (some-same _ _ e) (step f g fs is)

-- ---- hints one behind the other

none_stays : (hints : List Hint) (fs : List (Formula Hint)) → hints_behind hints None ≡ Some fs → ⊥
none_stays [] fs e = cc
none_stays (hint ∷ rest) fs e = cc

-- what hints leave, the first of them leaves something
pub front_leaves : (hint : Hint) (rest : List Hint) (stack fs : List (Formula Hint)) → hints_behind (hint ∷ rest) (Some stack) ≡ Some fs
    → (next : List (Formula Hint)) × (with_hint hint stack ≡ Some next) × (hints_behind rest (Some next) ≡ Some fs)
front_leaves hint rest stack fs e = by (with_hint hint stack) refl e where
  by : (o : Option (List (Formula Hint))) → with_hint hint stack ≡ o → hints_behind rest o ≡ Some fs → (next : List (Formula Hint)) × (with_hint hint stack ≡ Some next) × (hints_behind rest (Some next) ≡ Some fs)
  by None is left = absurd (none_stays rest fs left)
  by (Some next) is left = (next, is, left)

-- the one formula that is left
pub one_left : (hints : List Hint) (f : Formula Hint) → formula_of hints ≡ Some f → hints_behind hints (Some []) ≡ Some (f ∷ [])
unfolding formula_of
one_left hints f e = by (hints_behind hints (Some [])) e where
  by : (o : Option (List (Formula Hint))) → only_one o ≡ Some f → o ≡ Some (f ∷ [])
  by None is = absurd cc
  by (Some []) is = absurd cc
  by (Some (g ∷ [])) is = ap (λ (x : Formula Hint). Some (x ∷ [])) (some-same g f is)
  by (Some (g ∷ h ∷ rest)) is = absurd cc

-- the hint at a place, where those from it on leave something
pub hint_leaves : (none : Hint) (hints : List Hint) (at : ℕ) (stack fs : List (Formula Hint)) → at < length hints → hints_behind (drop at hints) (Some stack) ≡ Some fs
    → (next : List (Formula Hint)) × (with_hint (slice_index_or hints at none) stack ≡ Some next) × (hints_behind (drop (at + 1) hints) (Some next) ≡ Some fs)
hint_leaves none [] at stack fs within e = absurd (omega (arith, within))
hint_leaves none (hint ∷ rest) zero stack fs within e = front_leaves hint rest stack fs e
hint_leaves none (hint ∷ rest) (suc at) stack fs within e =
    let next = hint_leaves none rest at stack fs (omega (arith, within)) e in
    let same : suc (at + 1) ≡ suc at + 1 = omega arith in
    (next.0, next.1, ap (λ n. hints_behind (drop n (hint ∷ rest)) (Some next.0)) (sym same) ∙ next.2)
