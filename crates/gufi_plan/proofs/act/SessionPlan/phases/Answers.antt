use Rattle.std.proofs.Common.{subst}
use Rattle.gufi_plan.specs.Asks.{AsksTell}
use Rattle.gufi_plan.specs.Bounds.{IsBounded}
use Rattle.gufi_plan.proofs.act.SessionPlan.phases.Goals as goal

pub returns-clause-told : goal.returns-clause-told
returns-clause-told c = subst AsksTell c.self.view_is c.self.invariant.1

pub returns-clause-bounded : goal.returns-clause-bounded
returns-clause-bounded c = subst IsBounded c.self.view_is c.self.invariant.2
