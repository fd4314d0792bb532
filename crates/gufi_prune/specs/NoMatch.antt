-- Which sums leave no room for a match of a question's hints.
use Rattle.std.specs.Prelude.{ℕ, ◌^◌, ℤ, pos, neg_ℤ, int_lt, Bool, true, false, not, ◌&&◌, ◌||◌, nat_le, int_le, nat_lt, List, Option, Some, None}
use Rattle.gufi_base.specs.declared.record.Kind.{Kind}
use Rattle.gufi_base.specs.declared.record.Row.{Row}
use Rattle.gufi_base.specs.declared.hint.Hint.{Hint}
use Rattle.gufi_base.specs.declared.hint.Hint.TheVariants as hints
use Rattle.gufi_base.specs.Kinds.{is_dir, is_file, is_link}
use Rattle.gufi_formula.specs.Hints.{Chance, chance_or, formula_of, may_hold}
use Rattle.gufi_sums.specs.declared.summary.Summary.{Summary}
use Rattle.gufi_sums.specs.Depths.{is_within}
use Rattle.gufi_sums.specs.Total.{is_other}
use Rattle.gufi_prune.specs.declared.class.Class.{Class}
use Rattle.gufi_prune.specs.declared.class.Class.TheVariants.{Dirs, Files, Links, Others}

-- the rows of a class, and how many of them a sum counts
abbrev pub is_of : Class → Kind → Bool
is_of Dirs kind = is_dir kind
is_of Files kind = is_file kind
is_of Links kind = is_link kind
is_of Others kind = is_other kind

abbrev pub count_of : Class → Summary → ℕ
count_of Dirs sum = sum.dirs
count_of Files sum = sum.files
count_of Links sum = sum.links
count_of Others sum = sum.others

-- A range may hold where it meets the least and the greatest value, and may fail where these aren't inside it. Of no value it does neither.
abbrev pub chance_within : {A : Type 0} → (A → A → Bool) → A → A → Option (A × A) → Chance
chance_within le first last None = record { holds = false; fails = false }
chance_within le first last (Some pair) = record {
  holds = le first last && (le first pair.1 && le pair.0 last);
  fails = not (le first pair.0 && le pair.1 last);
}

-- what may be either
abbrev pub open_chance : Chance
open_chance = record { holds = true; fails = true }

-- what isn't known to be either
abbrev pub closed_chance : Chance
closed_chance = record { holds = false; fails = false }

-- a type in a class: the others are of several types
abbrev pub chance_of_kind : Class → Kind → Chance
chance_of_kind Others kind = record { holds = is_other kind; fails = true }
chance_of_kind class kind = record { holds = is_of class kind; fails = not (is_of class kind) }

-- sums hold the sizes of files alone
abbrev pub chance_of_size : Class → ℕ → ℕ → Summary → Chance
chance_of_size Files first last sum = chance_within nat_le first last sum.size
chance_of_size class first last sum = open_chance

-- what a hint may be of the rows of a class
abbrev pub chance_in : Class → Summary → Hint → Chance
chance_in class sum (hints.Kind kind) = chance_of_kind class kind
chance_in class sum (hints.SizeIn first last) = chance_of_size class first last sum
chance_in class sum (hints.MtimeIn first last) = chance_within int_le first last sum.mtime
chance_in class sum (hints.UidIn first last) = chance_within nat_le first last sum.uid
chance_in class sum (hints.GidIn first last) = chance_within nat_le first last sum.gid
chance_in class sum hint = open_chance

-- What a hint may be of the rows of a class whatever their sum: nothing is known of a range that a sum bounds.
abbrev pub chance_of_any_size : Class → Chance
chance_of_any_size Files = closed_chance
chance_of_any_size class = open_chance

abbrev pub chance_alone : Class → Hint → Chance
chance_alone class (hints.Kind kind) = chance_of_kind class kind
chance_alone class (hints.SizeIn first last) = chance_of_any_size class
chance_alone class (hints.MtimeIn first last) = closed_chance
chance_alone class (hints.UidIn first last) = closed_chance
chance_alone class (hints.GidIn first last) = closed_chance
chance_alone class hint = open_chance

-- rows of the class may meet the hints whatever their sum
abbrev pub always_may_meet : List Hint → Class → Bool
always_may_meet hints class = (chance_or (chance_alone class) (formula_of hints)).holds

-- a row of the class may meet the hints
abbrev pub may_meet : List Hint → Summary → Class → Bool
may_meet hints sum class = nat_lt 0 (count_of class sum) && (chance_or (chance_in class sum) (formula_of hints)).holds

-- ---- numbers in range

abbrev pub is_below : ℕ → Option (ℕ × ℕ) → Bool
is_below most None = true
is_below most (Some pair) = nat_lt pair.1 most

abbrev pub are_times : Option (ℤ × ℤ) → Bool
are_times None = true
are_times (Some pair) = int_le (neg_ℤ (pos (2 ^ 63))) pair.0 && int_lt pair.1 (pos (2 ^ 63))

-- The numbers of a sum are in the ranges of their types, as those of all sums of the program are.
abbrev pub fits : Summary → Bool
fits sum = is_below (2 ^ 64) sum.size && (are_times sum.mtime && (is_below (2 ^ 32) sum.uid && is_below (2 ^ 32) sum.gid))

-- in no class with a row the hints may hold
unfoldable pub no_match : List Hint → Summary → Bool
no_match hints sum = fits sum && not (may_meet hints sum Dirs || may_meet hints sum Files || may_meet hints sum Links || may_meet hints sum Others)

-- the hints of a question, and how deep a row that meets it may lie
pub record Pruning : Type 0 where
  pub hints : List Hint
  pub deepest : Option ℕ

-- a row at a depth may meet the question
abbrev pub may_meet_at : Pruning → Row → ℕ → Bool
may_meet_at pruning row depth = may_hold pruning.hints row && is_within pruning.deepest depth
