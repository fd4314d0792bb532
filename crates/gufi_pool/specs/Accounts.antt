-- The rule of a worker's deque. A list is weighed by a function h of its numbers: two lists that weigh the same by each h have each number equally often.
use Rattle.std.specs.Prelude.{◌≡◌, ℕ, ◌+◌, List, [], All, Contains, sum_by}
use mathlib.Core.Option.{some}
use lib.ListN.{get_elem?}
use Rattle.gufi_pool.specs.declared.rule.Account.{Account}

-- the share of a deque that its worker begins with
abbrev pub whole : ℕ
whole = 64

abbrev pub account : ℕ → List ℕ → List ℕ → Account
account share pushed taken = record { share = share; pushed = pushed; taken = taken }

abbrev pub Weight : Type 0
Weight = ℕ → ℕ

-- what all passes pushed and took
abbrev pub pushed_by : Weight → List Account → ℕ
pushed_by h views = sum_by (λ v. sum_by h v.pushed) views

abbrev pub taken_by : Weight → List Account → ℕ
taken_by h views = sum_by (λ v. sum_by h v.taken) views

-- a pass with no share has pushed and taken nothing
abbrev pub IdleIsEmpty : List Account → Type 0
IdleIsEmpty views = (port : ℕ) (v : Account) → get_elem? views port ≡ some v → v.share ≡ 0 → (v.pushed ≡ []) × (v.taken ≡ [])

-- The rule of a deque, over the tasks that wait in it and the accounts of all passes to it.
-- What was pushed is what was taken and what waits; what waits may be given; the shares make the whole; a pass with no share has done nothing.
pub record Ruled (given : List ℕ) (items : List ℕ) (views : List Account) : Type 0 where
  pub balanced : (h : Weight) → pushed_by h views ≡ taken_by h views + sum_by h items
  pub allowed : All (Contains given) items
  pub shares : sum_by (λ (v : Account). v.share) views ≡ whole
  pub idle : IdleIsEmpty views

-- all that was pushed was taken
abbrev pub Settled : Account → Type 0
Settled v = (h : Weight) → sum_by h v.pushed ≡ sum_by h v.taken
