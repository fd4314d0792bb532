-- Hints that are no signs: each reads to one formula, and so does its negation.
use Rattle.std.specs.Prelude.{◌≡◌, Bool, true, false, ℤ, pos, int_le, ◌&&◌, [], ◌∷◌, Some, refl, if◌then◌else◌}
use Rattle.std.proofs.lemmas.Bool.{false≢true}
use Rattle.gufi_base.specs.declared.hint.Hint.{Hint}
use Rattle.gufi_base.specs.declared.hint.Hint.TheVariants.{SizeIn, MtimeIn, UidIn, GidIn, Unknown, Not, And, Or}
use Rattle.gufi_formula.specs.Formulas.{test, negation}
use Rattle.gufi_formula.specs.Hints.{formula_of, AreWhole}
use Rattle.gufi_formula.specs.Ranges.{has_naturals, nearest_natural, nearest_time, least_time, greatest_time, sizes_in, uids_in, gids_in, times_in}

abbrev pub is_leaf : Hint → Bool
is_leaf Not = false
is_leaf And = false
is_leaf Or = false
is_leaf hint = true

-- sums tell something of it
abbrev pub tells : Hint → Bool
tells Unknown = false
tells hint = true

pub leaf_formula : (hint : Hint) → is_leaf hint ≡ true → formula_of (hint ∷ []) ≡ Some (test hint)
unfolding formula_of
leaf_formula Not e = absurd (false≢true e)
leaf_formula And e = absurd (false≢true e)
leaf_formula Or e = absurd (false≢true e)
leaf_formula _ e = refl

pub turned_formula : (hint : Hint) → is_leaf hint ≡ true → formula_of (hint ∷ Not ∷ []) ≡ Some (negation (test hint))
unfolding formula_of
turned_formula Not e = absurd (false≢true e)
turned_formula And e = absurd (false≢true e)
turned_formula Or e = absurd (false≢true e)
turned_formula _ e = refl

pub leaf_whole : (hint : Hint) → is_leaf hint ≡ true → AreWhole (hint ∷ [])
leaf_whole hint e = (test hint, leaf_formula hint e)

pub turned_whole : (hint : Hint) → is_leaf hint ≡ true → AreWhole (hint ∷ Not ∷ [])
turned_whole hint e = (negation (test hint), turned_formula hint e)

-- of two leaves it is one
pub chosen_leaf : (b : Bool) (a other : Hint) → is_leaf a ≡ true → is_leaf other ≡ true → is_leaf (if b then a else other) ≡ true
chosen_leaf true a other e f = e
chosen_leaf false a other e f = f

pub sizes_leaf : (first last : ℤ) → is_leaf (sizes_in first last) ≡ true
sizes_leaf first last =
    chosen_leaf (has_naturals 18446744073709551615 first last) (SizeIn (nearest_natural 18446744073709551615 first) (nearest_natural 18446744073709551615 last)) (SizeIn 1 0) refl refl

pub uids_leaf : (first last : ℤ) → is_leaf (uids_in first last) ≡ true
uids_leaf first last = chosen_leaf (has_naturals 4294967295 first last) (UidIn (nearest_natural 4294967295 first) (nearest_natural 4294967295 last)) (UidIn 1 0) refl refl

pub gids_leaf : (first last : ℤ) → is_leaf (gids_in first last) ≡ true
gids_leaf first last = chosen_leaf (has_naturals 4294967295 first last) (GidIn (nearest_natural 4294967295 first) (nearest_natural 4294967295 last)) (GidIn 1 0) refl refl

pub times_leaf : (first last : ℤ) → is_leaf (times_in first last) ≡ true
times_leaf first last = chosen_leaf (int_le first greatest_time && int_le least_time last) (MtimeIn (nearest_time first) (nearest_time last)) (MtimeIn (pos 1) (pos 0)) refl refl
