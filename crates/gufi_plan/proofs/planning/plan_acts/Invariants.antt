use Rattle.std.proofs.Common.{◌≡◌, ◌+◌, ◌≤◌, length}
use Rattle.gufi_base.specs.Limits.{max_script_lines}
use Rattle.gufi_plan.specs.Plan.{plan, act_count}
use Rattle.gufi_plan.specs.Settings.{setting_of}
use Rattle.gufi_plan.specs.Phases.{plan_behind}
use Rattle.gufi_plan.proofs.AskLemmas.{WordsShort}
use Rattle.gufi_plan.proofs.planning.plan_acts.Given as goal

abbrev pub invariant-acts : goal.invariant-acts
invariant-acts l = record {
  whole : plan_behind (setting_of l.setup) l.phases.done.items l.phases.current.items l.line-iterator.rest.items ≡ plan (setting_of l.setup) l.fn.script;
  few : act_count l.phases.done.items + length l.phases.current.items + length l.line-iterator.rest.items ≤ max_script_lines;
  short : WordsShort l.line-iterator.rest.items → WordsShort l.fn.script;
  users : l.principals ≡ l.setup.users.now;
}
