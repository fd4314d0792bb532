use Rattle.std.proofs.Common.{arith, rules, ◌≡◌, Ok, Err, Some}
use Rattle.std.proofs.lemmas.Grind.{common_steps}
use Rattle.gufi_plan.specs.declared.act.PlannedAct.TheVariants.{Ask}
use Rattle.gufi_plan.specs.Settings.{setting_of}
use Rattle.gufi_plan.specs.Plan.{search_of, planned_act}
use Rattle.gufi_plan.proofs.PlanLemmas.{fails_first}
use Rattle.gufi_plan.proofs.reading.planned_act.Goals as goal

pub returns-in_err-search-in-Ask-clause-planned : goal.returns-in_err-search-in-Ask-clause-planned
unfolding planned_act
returns-in_err-search-in-Ask-clause-planned c =
    let result : c.from_residual.result ≡ Err c.in_err-search-in-Ask.field-0.0 = (first_of (search rules, grind (arith, common_steps))) in
    let user : c.as_slice-user.result.now ≡ c.in-Ask.user = (first_of (search rules, grind (arith, common_steps))) in
    let words : c.as_slice-words.result.now ≡ c.in-Ask.words = (first_of (search rules, grind (arith, common_steps))) in
    rw (result, c.in-Ask.is, ← user, ← words) (λ other. fails_first (search_of (setting_of c.args.setup.now) c.as_slice-user.result.now c.in-Ask.path c.in-Ask.form c.as_slice-words.result.now) (λ search. Ok (Some (Ask c.in-Ask.lane search)))
    c.in_err-search-in-Ask.field-0.0 (c.in_err-search-in-Ask.ensures.search other))
