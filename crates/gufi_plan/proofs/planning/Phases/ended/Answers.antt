use Rattle.std.proofs.Common.{arith, ap, sym, subst, ◌≡◌, ◌+◌, ◌∙◌, [], ◌∷◌, ◌++◌, length}
use Rattle.gufi_plan.specs.Plan.{act_count}
use Rattle.gufi_plan.specs.Asks.{AsksTell}
use Rattle.gufi_plan.specs.Bounds.{IsBounded}
use Rattle.gufi_plan.proofs.PlanLemmas.{behind-last, act_count-done}
use Rattle.gufi_plan.proofs.planning.Phases.ended.Goals as goal

pub of-requires-2-clause-few : goal.of-requires-2-clause-few
of-requires-2-clause-few c =
    let added : act_count c.push.new.self.items ≡ act_count c.args.self.done.items + length c.of.result = ap act_count c.in_ok-push.ensures.items ∙ act_count-done c.args.self.done.items c.of.result in
    omega (arith, added, ap length c.of.ensures, c.requires.few)

pub of-requires-2-clause-told : goal.of-requires-2-clause-told
of-requires-2-clause-told c =
    let all = behind-last c.args.self.done.items c.push.new.self.items c.args.self.current.items (c.in_ok-push.ensures.items ∙ ap (λ l. c.args.self.done.items ++ l ∷ []) c.of.ensures) in
    subst AsksTell (sym all) c.requires.told

pub of-requires-2-clause-bounded : goal.of-requires-2-clause-bounded
of-requires-2-clause-bounded c =
    let all = behind-last c.args.self.done.items c.push.new.self.items c.args.self.current.items (c.in_ok-push.ensures.items ∙ ap (λ l. c.args.self.done.items ++ l ∷ []) c.of.ensures) in
    subst IsBounded (sym all) c.requires.bounded

pub returns : goal.returns
returns c = c.of-2.ensures ∙ behind-last c.args.self.done.items c.push.new.self.items c.args.self.current.items (c.in_ok-push.ensures.items ∙ ap (λ l. c.args.self.done.items ++ l ∷ []) c.of.ensures)
