-- The tasks of a job as a function gives their kids: a forest, and what it owes.
use Rattle.std.specs.Prelude.{◌≡◌, ℕ, ◌<◌, ◌≤◌, List, Contains}
use Rattle.gufi_core.specs.Steps.{count_of}

-- the first tasks, and all that is reached from them through kids
pub data Owed (first : List ℕ) (kids : ℕ → List ℕ) : ℕ → Type 0 where
  begins : (task : ℕ) → Contains first task → Owed first kids task
  follows : (task kid : ℕ) → Owed first kids task → Contains (kids task) kid → Owed first kids kid

-- A number stands at most once among the first tasks and all kids, and a kid is greater than its parent.
pub record IsForest (first : List ℕ) (kids : ℕ → List ℕ) : Type 0 where
  pub greater : (task kid : ℕ) → Contains (kids task) kid → task < kid
  pub first_once : (x : ℕ) → count_of first x ≤ 1
  pub kids_once : (task x : ℕ) → count_of (kids task) x ≤ 1
  pub apart : (task x : ℕ) → Contains (kids task) x → ¬ Contains first x
  pub one_parent : (task other x : ℕ) → Contains (kids task) x → Contains (kids other) x → task ≡ other
