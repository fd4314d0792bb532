use Rattle.std.proofs.Common.{rules, arith, ap, ◌≡◌, ◌+◌, ◌∙◌, [], length}
use Rattle.std.proofs.lemmas.Grind.{common_steps}
use Rattle.gufi_plan.specs.Plan.{act_count}
use Rattle.gufi_plan.proofs.PlanLemmas.{behind-act, behind-barrier, act_count-done}
use Rattle.gufi_plan.proofs.planning.Phases.add.Goals as goal

pub returns-in_ok-push-in-Some-clause-phases : goal.returns-in_ok-push-in-Some-clause-phases
returns-in_ok-push-in-Some-clause-phases c =
    behind-act c.args.self.now.done.items c.args.self.now.current.items c.push.new.self.items c.args.planned c.in-Some.act c.in-Some.is c.in_ok-push-in-Some.ensures.items

pub returns-in_ok-push-in-None-clause-phases : goal.returns-in_ok-push-in-None-clause-phases
returns-in_ok-push-in-None-clause-phases c =
    behind-barrier c.args.self.now.done.items c.push-in-None.new.self.items c.args.self.now.current.items c.of.result c.replace-acts.new.dest.items c.args.planned
    c.in-None.is (first_of (search rules, grind (arith, common_steps))) (first_of (search rules, grind (arith, common_steps))) c.in_ok-push-in-None.ensures.items

pub returns-in_ok-push-in-None-clause-few : goal.returns-in_ok-push-in-None-clause-few
returns-in_ok-push-in-None-clause-few c =
    let added : act_count c.push-in-None.new.self.items ≡ act_count c.args.self.now.done.items + length c.of.result = ap act_count c.in_ok-push-in-None.ensures.items ∙ act_count-done c.args.self.now.done.items c.of.result in
    let same : c.of.result ≡ c.args.self.now.current.items = (first_of (search rules, grind (arith, common_steps))) in
    let empty : c.replace-acts.new.dest.items ≡ [] = (first_of (search rules, grind (arith, common_steps))) in
    omega (arith, added, ap length same, ap length empty)
