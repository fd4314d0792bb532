use Rattle.std.proofs.Common.{sym, ◌∙◌}
use Rattle.std.proofs.lemmas.Bool.{not-false, lt-ltb}
use Rattle.gufi_prune.specs.declared.class.Class.TheVariants.{Dirs}
use Rattle.gufi_prune.specs.Laws.{never_ruled_out}
use Rattle.gufi_prune.proofs.pruner.PrunerSkip.asks_sums.Goals as goal

-- where it is false, directories may meet the hints whatever their sum
pub returns-clause-sound : goal.returns-clause-sound
returns-clause-sound c off sum counted =
    never_ruled_out c.args.self.now.hints Dirs (sym c.always_may_meet.ensures ∙ not-false c.always_may_meet.result off) sum (lt-ltb 0 sum.dirs counted)
