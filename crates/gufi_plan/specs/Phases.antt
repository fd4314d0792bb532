-- Phases whose last one goes on.
use Rattle.std.specs.Prelude.{List, [], ◌∷◌, ◌++◌, Result, Ok}
use Rattle.std.specs.List.{onto_first}
use Rattle.gufi_base.specs.Basics.{◌>>=◌}
use Rattle.gufi_script.specs.declared.fault.ScriptError.{ScriptError}
use Rattle.gufi_script.specs.ScriptText.{PlacedAct}
use Rattle.gufi_plan.specs.declared.act.PlannedAct.{PlannedAct}
use Rattle.gufi_plan.specs.Plan.{Setting, Plan, plan}

-- acts before phases, of which the first goes on
abbrev pub onto_current : List PlannedAct → Plan → Plan
onto_current [] later = later
onto_current (act ∷ acts) later = onto_first act (onto_current acts later)

-- later phases behind those that are done; the first of them goes on with the current acts
abbrev pub behind : Plan → List PlannedAct → Plan → Plan
behind done current later = done ++ onto_current current later

-- the plan of the acts that are left, behind what is planned
abbrev pub plan_behind : Setting → Plan → List PlannedAct → List PlacedAct → Result Plan ScriptError
plan_behind setting done current acts = plan setting acts >>= λ later. Ok (behind done current later)
