-- A job's beginning: tasks that were run, and tasks that wait.
use Rattle.std.specs.Prelude.{◌≡◌, ℕ, ◌+◌, ◌≤◌, List, All, Contains, sum_by, length, take, drop}
use Rattle.gufi_pool.specs.declared.opening.Opening.{Opening}
use Rattle.gufi_pool.specs.Accounts.{Weight}
use Rattle.gufi_pool.specs.Jobs.{kids_weigh}

module _ {P : Type 0} where
  abbrev pub ran_of : Opening P → List ℕ
  ran_of o = take o.next o.tasks.items

  abbrev pub waiting_of : Opening P → List ℕ
  waiting_of o = drop o.next o.tasks.items

  -- the first tasks and the kids of those that were run are those that were run and those that wait
  pub record IsOpening (given first : List ℕ) (kids : ℕ → List ℕ) (stands : P → List ℕ → Type 0) (o : Opening P) : Type 0 where
    pub within : o.next ≤ length o.tasks.items
    pub allowed : All (Contains given) o.tasks.items
    pub piece : stands o.piece (ran_of o)
    pub balanced : (h : Weight) → sum_by h first + kids_weigh kids h (ran_of o) ≡ sum_by h o.tasks.items
