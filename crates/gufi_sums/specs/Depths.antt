-- Bounds of the depth below a start.
use Rattle.std.proofs.Common.{◌≡◌, ℕ, ◌≤◌, Bool, true, refl, subst}
use Rattle.std.specs.Prelude.{Option, Some, None, nat_le, nat_lt}
use Rattle.std.specs.Option.{option_map_or}
use Rattle.std.proofs.lemmas.Bool.{leb-true, le-leb}

-- the depth is no greater than the bound, where there is one
abbrev pub is_within : Option ℕ → ℕ → Bool
is_within deepest depth = option_map_or (λ most. nat_le depth most) deepest true

-- so is the depth of what lies one deeper
abbrev pub goes_below : Option ℕ → ℕ → Bool
goes_below deepest depth = option_map_or (λ most. nat_lt depth most) deepest true

pub within_most : (deepest : Option ℕ) (most : ℕ) → deepest ≡ Some most → (depth : ℕ) → is_within deepest depth ≡ true → depth ≤ most
within_most deepest most is depth within = leb-true depth most (subst (λ o. is_within o depth ≡ true) is within)

-- where there is no bound, there is none that a depth passes
pub nothing_within : (most : ℕ) → None ≡ Some most → (depth : ℕ) → depth ≤ most
nothing_within most is depth = absurd cc

-- what is no greater than each bound is within it
pub within_from : (deepest : Option ℕ) (depth : ℕ) → ((most : ℕ) → deepest ≡ Some most → depth ≤ most) → is_within deepest depth ≡ true
within_from None depth h = refl
within_from (Some most) depth h = le-leb depth most (h most refl)
