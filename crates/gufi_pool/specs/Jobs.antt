-- The tasks of a job.
use Rattle.std.specs.Prelude.{ℕ, List, All, Contains, sum_by}
use Rattle.gufi_pool.specs.Accounts.{Weight}

-- each kid of a task that may be given may be given
abbrev pub IsClosed : List ℕ → (ℕ → List ℕ) → Type 0
IsClosed given kids = (task : ℕ) → Contains given task → All (Contains given) (kids task)

-- what the kids of these tasks weigh
abbrev pub kids_weigh : (ℕ → List ℕ) → Weight → List ℕ → ℕ
kids_weigh kids h tasks = sum_by (λ task. sum_by h (kids task)) tasks
