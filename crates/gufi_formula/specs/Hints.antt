-- Formulas as hints in postfix order: tests that sums can bound, others, and the signs behind their operands.
use Rattle.std.specs.Prelude.{◌≡◌, ℕ, Bool, true, false, not, ◌==◌, ◌&&◌, ◌||◌, nat_le, nat_lt, int_le, ◌^◌, List, [], ◌∷◌, ◌++◌, Option, Some, None, if◌then◌else◌}
use Rattle.gufi_base.specs.declared.record.Meta.{Meta}
use Rattle.gufi_base.specs.declared.record.Row.{Row}
use Rattle.gufi_base.specs.Kinds.{kind_letter, is_file}
use Rattle.gufi_base.specs.Rows.{fits_i64}
use Rattle.gufi_base.specs.declared.hint.Hint.{Hint}
use Rattle.gufi_base.specs.declared.hint.Hint.TheVariants.{Kind, SizeIn, MtimeIn, UidIn, GidIn, Not, And, Or}
use Rattle.gufi_formula.specs.Formulas.{Formula, test, negation, both, either}

-- the hints of a formula, where each test has these
abbrev pub postfix : {A : Type 0} → (A → List Hint) → Formula A → List Hint
postfix leaf (test a) = leaf a
postfix leaf (negation f) = postfix leaf f ++ Not ∷ []
postfix leaf (both f g) = postfix leaf f ++ (postfix leaf g ++ And ∷ [])
postfix leaf (either f g) = postfix leaf f ++ (postfix leaf g ++ Or ∷ [])

-- the formulas that a hint leaves, the newest first: a sign takes its operands, where it has them, and each other is a test
abbrev pub with_hint : Hint → List (Formula Hint) → Option (List (Formula Hint))
with_hint Not (f ∷ stack) = Some (negation f ∷ stack)
with_hint And (g ∷ f ∷ stack) = Some (both f g ∷ stack)
with_hint Or (g ∷ f ∷ stack) = Some (either f g ∷ stack)
with_hint Not stack = None
with_hint And stack = None
with_hint Or stack = None
with_hint leaf stack = Some (test leaf ∷ stack)

abbrev pub hints_behind : List Hint → Option (List (Formula Hint)) → Option (List (Formula Hint))
hints_behind hints None = None
hints_behind [] (Some stack) = Some stack
hints_behind (hint ∷ rest) (Some stack) = hints_behind rest (with_hint hint stack)

-- the one formula that hints are, taken from the left
abbrev pub only_one : Option (List (Formula Hint)) → Option (Formula Hint)
only_one (Some (f ∷ [])) = Some f
only_one other = None

unfoldable pub formula_of : List Hint → Option (Formula Hint)
formula_of hints = only_one (hints_behind hints (Some []))

-- each sign finds its operands, and one formula is left
abbrev pub AreWhole : List Hint → Type 0
AreWhole hints = (f : Formula Hint) × (formula_of hints ≡ Some f)

-- ---- what may be true

-- whether something may hold, and whether it may fail
pub record Chance : Type 0 where
  pub holds : Bool
  pub fails : Bool

-- what is known to be so
abbrev pub certain : Bool → Chance
certain b = record { holds = b; fails = not b }

abbrev pub turned : Chance → Chance
turned a = record { holds = a.fails; fails = a.holds }

abbrev pub both_chances : Chance → Chance → Chance
both_chances a b = record { holds = a.holds && b.holds; fails = a.fails || b.fails }

abbrev pub either_chance : Chance → Chance → Chance
either_chance a b = record { holds = a.holds || b.holds; fails = a.fails && b.fails }

-- that of a formula, where each hint has this one
abbrev pub chance : (Hint → Chance) → Formula Hint → Chance
chance leaf (test hint) = leaf hint
chance leaf (negation f) = turned (chance leaf f)
chance leaf (both f g) = both_chances (chance leaf f) (chance leaf g)
chance leaf (either f g) = either_chance (chance leaf f) (chance leaf g)

abbrev pub is_in : ℕ → ℕ → ℕ → Bool
is_in first last n = nat_le first n && nat_le n last

-- that of a hint at a row: known but where sums tell nothing
abbrev pub chance_at : Meta → Hint → Chance
chance_at meta (Kind kind) = certain (kind_letter kind == kind_letter meta.kind)
chance_at meta (SizeIn first last) = certain (is_in first last meta.size)
chance_at meta (MtimeIn first last) = certain (int_le first meta.mtime && int_le meta.mtime last)
chance_at meta (UidIn first last) = certain (is_in first last meta.uid)
chance_at meta (GidIn first last) = certain (is_in first last meta.gid)
chance_at meta hint = record { holds = true; fails = true }

abbrev pub chance_or : (Hint → Chance) → Option (Formula Hint) → Chance
chance_or leaf None = record { holds = true; fails = true }
chance_or leaf (Some f) = chance leaf f

abbrev pub is_size : Hint → Bool
is_size (SizeIn first last) = true
is_size hint = false

-- what sums can tell of a hint at a row: they hold the sizes of files alone
abbrev pub chance_told : Meta → Hint → Chance
chance_told meta hint = if is_size hint && not (is_file meta.kind) then record { holds = true; fails = true } else chance_at meta hint

-- The numbers that sums hold of a record are in the ranges of their types, as those of all records of the program are.
abbrev pub fits_sums : Meta → Bool
fits_sums meta = (not (is_file meta.kind) || nat_lt meta.size (2 ^ 64)) && (fits_i64 meta.mtime && (nat_lt meta.uid (2 ^ 32) && nat_lt meta.gid (2 ^ 32)))

-- Some choice of true or false for each unknown hint makes the list true at a row, as far as sums can tell: no hint stands in two
-- places of a formula. Of numbers out of range hints tell nothing.
unfoldable pub may_hold : List Hint → Row → Bool
may_hold hints row = not (fits_sums row.rec.meta) || (chance_or (chance_told row.rec.meta) (formula_of hints)).holds
