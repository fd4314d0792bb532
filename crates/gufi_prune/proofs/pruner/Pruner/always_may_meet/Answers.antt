use Rattle.std.proofs.Common.{◌∙◌, ap}
use Rattle.gufi_formula.specs.Hints.{chance_or, formula_of}
use Rattle.gufi_prune.specs.NoMatch.{chance_alone, Pruning}
use Rattle.gufi_prune.proofs.NormalLemmas.{holds_of_hints}
use Rattle.gufi_prune.proofs.pruner.Pruner.always_may_meet.Goals as goal

pub returns : goal.returns
returns c =
    let leaf = chance_alone c.args.class in
    c.is_true.ensures ∙ holds_of_hints leaf c.self.inside.hints.items c.self.inside.formula c.self.invariant
    ∙ ap (λ (p : Pruning). (chance_or leaf (formula_of p.hints)).holds) c.self.view_is
