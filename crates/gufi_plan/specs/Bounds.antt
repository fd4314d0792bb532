-- The bounds that a plan keeps of its script: those of lanes, and on publishing commands.
use Rattle.std.specs.Prelude.{◌≤◌, ⊤, ℕ, ◌+◌, List, [], ◌∷◌}
use Rattle.std.specs.List.{All}
use Rattle.gufi_base.specs.Limits.{max_lanes, max_publishing}
use Rattle.gufi_plan.specs.Plan.{Plan}
use Rattle.gufi_plan.specs.declared.act.PlannedAct.{PlannedAct}
use Rattle.gufi_plan.specs.declared.act.PlannedAct.TheVariants.{Publish, Rollup, Refresh, Ask}

-- the lane of an ask is one of those that there are
abbrev pub HasLane : PlannedAct → Type 0
HasLane (Publish delim limit file) = ⊤
HasLane (Rollup limit) = ⊤
HasLane (Refresh delim path file) = ⊤
HasLane (Ask lane search) = (1 ≤ lane) × (lane ≤ max_lanes)

-- how many publishing commands there are
abbrev pub publishing_in : PlannedAct → ℕ
publishing_in (Publish delim limit file) = 1
publishing_in (Rollup limit) = 1
publishing_in (Refresh delim path file) = 1
publishing_in (Ask lane search) = 0

unfoldable pub publishing_among : List PlannedAct → ℕ
publishing_among [] = 0
publishing_among (act ∷ acts) = publishing_in act + publishing_among acts

unfoldable pub publishing_of : Plan → ℕ
publishing_of [] = 0
publishing_of (phase ∷ plan) = publishing_among phase + publishing_of plan

abbrev pub HaveLanes : Plan → Type 0
HaveLanes plan = All (λ phase. All HasLane phase) plan

abbrev pub IsBounded : Plan → Type 0
IsBounded plan = HaveLanes plan × (publishing_of plan ≤ max_publishing)
