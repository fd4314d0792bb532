use Rattle.gufi_top.proofs.StepLemmas.{opens_script, opens_users}
use Rattle.gufi_top.proofs.session.read_plan.Goals as goal

pub returns-in-Ok-clause-opens : goal.returns-in-Ok-clause-opens
returns-in-Ok-clause-opens g c = opens_script g.F.Shelf c.read_script_plan-plan.result _ _ _ _ _ c.in-Ok.ensures.opens c.read_script_plan-plan.ensures.opens

pub returns-in-Err-clause-opens : goal.returns-in-Err-clause-opens
returns-in-Err-clause-opens g c = opens_users g.F.Shelf _ _ _ _ c.in-Err.ensures.opens
