-- A plan keeps the bounds of its script.
use Rattle.std.proofs.Common.{◌≡◌, ℕ, true, ◌+◌, ◌≤◌, cond, List, [], ◌∷◌, refl, sym, ap, ◌∙◌, subst, arith}
use Rattle.std.specs.Prelude.{⊤, Option, Some, None, Ok}
use Rattle.std.specs.List.{All, list_all}
use Rattle.std.proofs.lemmas.Bool.{and_parts, leb-true}
use Rattle.std.proofs.lemmas.List.Elements.{All-nil, All-cons, All-head, All-tail}
use Rattle.std.proofs.lemmas.List.Sums.{sum_by-cons}
use Rattle.gufi_base.specs.Basics.{result_map_err}
use Rattle.gufi_base.specs.Limits.{max_publishing}
use Rattle.gufi_script.specs.declared.fault.ScriptError.TheVariants.{Fault}
use Rattle.gufi_script.specs.declared.act.Act.{Act}
use Rattle.gufi_script.specs.declared.act.Act.TheVariants as acts
use Rattle.gufi_script.specs.ScriptText.{PlacedAct, is_script, is_publishing, publishing_count, has_parts}
use Rattle.gufi_plan.specs.declared.act.PlannedAct.{PlannedAct}
use Rattle.gufi_plan.specs.declared.act.PlannedAct.TheVariants.{Publish, Rollup, Refresh, Ask}
use Rattle.gufi_plan.specs.Plan.{Setting, Plan, search_of, planned_act, with_act, plan}
use Rattle.gufi_plan.specs.Bounds.{HasLane, HaveLanes, IsBounded, publishing_in, publishing_among, publishing_of}
use Rattle.gufi_plan.proofs.PlanLemmas.{mapped_ok}
use Rattle.gufi_plan.proofs.AskLemmas.{went_on}

-- ---- one act

abbrev publishes : PlacedAct → ℕ
publishes act = cond (is_publishing act.1) 1 0

abbrev KeepsLane : Option PlannedAct → Type 0
KeepsLane None = ⊤
KeepsLane (Some act) = HasLane act

abbrev publishing_planned : Option PlannedAct → ℕ
publishing_planned None = 0
publishing_planned (Some act) = publishing_in act

-- what is planned for an act has its lane, and publishes where the act does
abbrev KeepsAct : Act → Option PlannedAct → Type 0
KeepsAct act planned = KeepsLane planned × (publishing_planned planned ≡ cond (is_publishing act) 1 0)

act_kept : (setting : Setting) (act : Act) (planned : Option PlannedAct) → has_parts act ≡ true → planned_act setting act ≡ Ok planned → KeepsAct act planned
unfolding planned_act
act_kept setting (acts.Publish limit file) planned parts e = let is : Some (Publish setting.delim limit file) ≡ planned = cc in subst (KeepsAct (acts.Publish limit file)) is (tt, refl)
act_kept setting (acts.Rollup limit) planned parts e = let is : Some (Rollup limit) ≡ planned = cc in subst (KeepsAct (acts.Rollup limit)) is (tt, refl)
act_kept setting (acts.Refresh path file) planned parts e = let is : Some (Refresh setting.delim path file) ≡ planned = cc in subst (KeepsAct (acts.Refresh path file)) is (tt, refl)
act_kept setting acts.Barrier planned parts e = let is : None ≡ planned = cc in subst (KeepsAct acts.Barrier) is (tt, refl)
act_kept setting (acts.Ask lane user path form words) planned parts e =
    let found = went_on (search_of setting user path form words) _ planned e in
    let is : Some (Ask lane found.0) ≡ planned = cc in
    let bounds = and_parts _ _ (and_parts _ _ parts).0 in
    subst (KeepsAct (acts.Ask lane user path form words)) is ((leb-true _ _ bounds.0, leb-true _ _ bounds.1), refl)

-- ---- the phases

with_lanes : (planned : Option PlannedAct) (later : Plan) → KeepsLane planned → HaveLanes later → HaveLanes (with_act planned later)
with_lanes None later lane rest = All-cons (λ phase. All HasLane phase) [] later (All-nil HasLane) rest
with_lanes (Some act) [] lane rest = All-cons (λ phase. All HasLane phase) (act ∷ []) [] (All-cons HasLane act [] lane (All-nil HasLane)) rest
with_lanes (Some act) (phase ∷ later) lane rest =
    let Lanes = λ (acts : List PlannedAct). All HasLane acts in All-cons Lanes (act ∷ phase) later (All-cons HasLane act phase lane (All-head Lanes phase later rest)) (All-tail Lanes phase later rest)

with_many : (planned : Option PlannedAct) (later : Plan) → publishing_of (with_act planned later) ≡ publishing_planned planned + publishing_of later
unfolding publishing_of publishing_among
with_many None later = omega arith
with_many (Some act) [] = omega arith
with_many (Some act) (phase ∷ later) = omega arith

-- what a plan has of its script
abbrev KeepsScript : List PlacedAct → Plan → Type 0
KeepsScript placed phases = HaveLanes phases × (publishing_of phases ≡ publishing_count placed)

plan_kept : (setting : Setting) (placed : List PlacedAct) (phases : Plan) → list_all (λ act. has_parts act.1) placed ≡ true → plan setting placed ≡ Ok phases → KeepsScript placed phases
unfolding plan publishing_of publishing_among
plan_kept setting [] phases parts e =
    let is : [] ∷ [] ≡ phases = cc in subst (KeepsScript []) is (All-cons (λ phase. All HasLane phase) [] [] (All-nil HasLane) (All-nil (λ phase. All HasLane phase)), refl)
plan_kept setting (act ∷ later) phases parts e =
    let first = went_on (result_map_err (Fault act.0) (planned_act setting act.1)) _ phases e in
    let rest = went_on (plan setting later) _ phases first.2 in
    let is : with_act first.0 rest.0 ≡ phases = cc in
    let each = and_parts _ _ parts in
    let here = act_kept setting act.1 first.0 each.0 (mapped_ok (Fault act.0) (planned_act setting act.1) first.0 first.1) in
    let behind = plan_kept setting later rest.0 each.1 rest.1 in
    subst (KeepsScript (act ∷ later)) is (
      with_lanes first.0 rest.0 here.0 behind.0,
      with_many first.0 rest.0 ∙ ap (λ n. n + publishing_of rest.0) here.1 ∙ ap (λ n. publishes act + n) behind.1 ∙ sym (sum_by-cons publishes act later),
    )

-- the bounds of a plan
pub plan_bounded : (setting : Setting) (placed : List PlacedAct) (phases : Plan) → is_script placed ≡ true → plan setting placed ≡ Ok phases → IsBounded phases
plan_bounded setting placed phases script e =
    let parts = and_parts _ _ script in
    let kept = plan_kept setting placed phases parts.1 e in
    let few = leb-true (publishing_count placed) max_publishing (and_parts _ _ parts.0).1 in
    (kept.0, subst (λ n. n ≤ max_publishing) (sym kept.1) few)
