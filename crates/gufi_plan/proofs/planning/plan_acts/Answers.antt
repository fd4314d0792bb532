use Rattle.std.proofs.Common.{rules, arith, ap, sym, subst, ◌≡◌, ◌∙◌, [], ◌∷◌, length, Ok, Err}
use Rattle.std.proofs.lemmas.Grind.{common_steps}
use Rattle.gufi_plan.specs.Settings.{setting_of}
use Rattle.gufi_plan.proofs.PlanLemmas.{plan_first, few_first, plan_more, plan_stops, plan_ends}
use Rattle.gufi_plan.proofs.AskLemmas.{WordsShort, plan_tells, short_more, short_ends}
use Rattle.gufi_plan.proofs.BoundLemmas.{plan_bounded}
use Rattle.gufi_plan.proofs.planning.plan_acts.Goals as goal

pub acts-init : goal.acts-init
acts-init c =
    let rest : c.into_iter-line-iterator.result.rest.items ≡ c.args.script = (first_of (search rules, grind (arith, common_steps))) in
    record {
      whole = plan_first (setting_of c.args.setup.now) c.new.result.items c.new-2.result.items c.into_iter-line-iterator.result.rest.items c.args.script c.new.ensures.items c.new-2.ensures.items rest;
      few = few_first c.new.result.items c.new-2.result.items c.into_iter-line-iterator.result.rest.items c.args.script c.new.ensures.items c.new-2.ensures.items rest c.requires.script;
      short = subst WordsShort rest;
      users = c.requires.users;
    }

pub acts-preserved : goal.acts-preserved
acts-preserved c =
    let l = c.acts in let added = c.in_ok-add-in-Ok.ensures in
    let rest : l.line-iterator.rest.items ≡ (c.in-Some.line, c.in-Some.act) ∷ c.next.new.self.rest.items = (first_of (search rules, grind (arith, common_steps))) in
    record {
      whole = sym (plan_more (setting_of c.args.setup.now) l.phases.done.items c.add.new.self.done.items l.phases.current.items c.add.new.self.current.items c.in-Some.line c.in-Some.act
          l.line-iterator.rest.items c.next.new.self.rest.items c.in-Ok.planned rest c.in-Ok.ensures.planned added.phases) ∙ l.invariant.whole;
      few = omega (arith, added.few, l.invariant.few, ap length rest);
      short = short_more c.next.new.self.rest.items l.line-iterator.rest.items c.args.script c.in-Some.line c.in-Some.act rest c.in-Ok.ensures.short l.invariant.short;
      users = c.planned_act.ensures.users ∙ l.invariant.users;
    }

pub returns-in-Err : goal.returns-in-Err
returns-in-Err c = λ told.
    let l = c.acts in
    let rest : l.line-iterator.rest.items ≡ (c.in-Some.line, c.in-Some.act) ∷ c.next.new.self.rest.items = (first_of (search rules, grind (arith, common_steps))) in
    sym l.invariant.whole
    ∙ plan_stops (setting_of c.args.setup.now) l.phases.done.items l.phases.current.items c.in-Some.line c.in-Some.act l.line-iterator.rest.items c.next.new.self.rest.items c.in-Err.fault
    rest c.in-Err.ensures.planned (λ e. told (c.error_at.ensures ∙ e))
    ∙ ap Err (sym c.error_at.ensures)

pub ended-requires-clause-told : goal.ended-requires-clause-told
ended-requires-clause-told c =
    let l = c.acts in
    let none : l.line-iterator.rest.items ≡ [] = (first_of (search rules, grind (arith, common_steps))) in
    let all = sym l.invariant.whole ∙ plan_ends (setting_of c.args.setup.now) l.phases.done.items l.phases.current.items l.line-iterator.rest.items none in
    plan_tells (setting_of c.args.setup.now) c.args.script _ (short_ends l.line-iterator.rest.items c.args.script none l.invariant.short) all

pub ended-requires-clause-bounded : goal.ended-requires-clause-bounded
ended-requires-clause-bounded c =
    let l = c.acts in
    let none : l.line-iterator.rest.items ≡ [] = (first_of (search rules, grind (arith, common_steps))) in
    let all = sym l.invariant.whole ∙ plan_ends (setting_of c.args.setup.now) l.phases.done.items l.phases.current.items l.line-iterator.rest.items none in
    plan_bounded (setting_of c.args.setup.now) c.args.script _ c.requires.script all

pub returns : goal.returns
returns c =
    let l = c.acts in
    let none : l.line-iterator.rest.items ≡ [] = (first_of (search rules, grind (arith, common_steps))) in
    sym l.invariant.whole ∙ plan_ends (setting_of c.args.setup.now) l.phases.done.items l.phases.current.items l.line-iterator.rest.items none ∙ ap Ok (sym c.in_ok-ended.ensures)
