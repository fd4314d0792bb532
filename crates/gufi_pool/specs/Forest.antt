-- Which tasks a job has in all.
use Rattle.std.specs.Prelude.{◌≡◌, ◌≢◌, ℕ, ◌+◌, ◌<◌, ◌≤◌, List, All, Contains, sum_by}
use Rattle.std.specs.List.{AllZip, concat}
use Rattle.gufi_core.specs.Steps.{count_of}
use Rattle.gufi_core.specs.Forest.{Owed}
use Rattle.gufi_pool.specs.Accounts.{Weight}
use Rattle.gufi_pool.specs.Jobs.{IsClosed, kids_weigh}

-- A number stands at most once among the first tasks and all kids, and a kid is greater than its parent. All tasks are among those that may be given.
pub record IsShape (given first : List ℕ) (kids : ℕ → List ℕ) : Type 0 where
  pub first_given : All (Contains given) first
  pub kids_given : IsClosed given kids
  pub greater : (task kid : ℕ) → Contains given task → Contains (kids task) kid → task < kid
  pub first_once : (x : ℕ) → count_of first x ≤ 1
  pub kids_once : (task x : ℕ) → Contains given task → count_of (kids task) x ≤ 1
  pub apart : (task x : ℕ) → Contains given task → Contains (kids task) x → ¬ Contains first x
  pub one_parent : (task other x : ℕ) → Contains given task → Contains given other → Contains (kids task) x → Contains (kids other) x → task ≡ other

-- each task of the job once, and nothing else
pub record IsEachOnce (first : List ℕ) (kids : ℕ → List ℕ) (tasks : List ℕ) : Type 0 where
  pub owed : (x : ℕ) → Owed first kids x → count_of tasks x ≡ 1
  pub no_more : (x : ℕ) → count_of tasks x ≢ 0 → Owed first kids x

-- the first tasks and the kids of the tasks are the tasks, each as often
abbrev pub IsBalanced : List ℕ → (ℕ → List ℕ) → List ℕ → Type 0
IsBalanced first kids tasks = (h : Weight) → sum_by h first + kids_weigh kids h tasks ≡ sum_by h tasks

-- The pieces stand for lists which hold each task of the job once, and nothing else.
pub record StandForAll {P : Type 0} (given : List ℕ) (stands : P → List ℕ → Type 0) (first : List ℕ) (kids : ℕ → List ℕ) (pieces : List P) : Type 0 where
  pub lists : List (List ℕ)
  pub each : AllZip stands pieces lists
  pub allowed : All (Contains given) (concat lists)
  pub once : IsEachOnce first kids (concat lists)
  pub balanced : IsBalanced first kids (concat lists)
