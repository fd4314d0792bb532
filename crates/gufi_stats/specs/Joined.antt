-- Groups of sums to which sums are joined.
use Rattle.std.specs.Prelude.{ℕ, ◌-◌, List, [], ◌∷◌, Option, Some, None}
use Rattle.std.specs.List.{AllByRecursion}
use Rattle.std.specs.Option.{ForSome}
use Rattle.std.specs.Ordering.{nat_cmp}
use Rattle.std.specs.BTreeMap.{insert_entry}
use Rattle.gufi_sums.specs.declared.summary.Summary.{Summary}
use Rattle.gufi_sums.specs.Total.{join, IsBounded}
use Rattle.gufi_stats.specs.declared.sums.Run.{Run}
use Rattle.gufi_stats.specs.Grouped.{sum_in}

-- a sum is joined to that at a number
unfoldable pub joined : List (ℕ × Summary) → ℕ → Summary → List (ℕ × Summary)
joined groups n sum = insert_entry nat_cmp groups n (join (sum_in groups n) sum)

-- so is each of other groups, its number less so many
abbrev pub all_joined : ℕ → List (ℕ × Summary) → List (ℕ × Summary) → List (ℕ × Summary)
all_joined less groups [] = groups
all_joined less groups (group ∷ more) = all_joined less (joined groups (group.0 - less) group.1) more

-- so is the sum of the last rows
abbrev pub with_run : List (ℕ × Summary) → Option Run → List (ℕ × Summary)
with_run groups None = groups
with_run groups (Some run) = joined groups run.number run.sum

abbrev pub AreBounded : List (ℕ × Summary) → Type 0
AreBounded groups = AllByRecursion (λ group. IsBounded group.1) groups

-- the groups and the last rows keep the bound of their bytes
pub record AreKept (groups : List (ℕ × Summary)) (last : Option Run) : Type 0 where
  pub sums : AreBounded groups
  pub run : ForSome last (λ run. IsBounded run.sum)
