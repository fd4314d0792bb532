use Rattle.std.proofs.Common.{◌≡◌, ◌∙◌, ◌-◌, ◌+◌, ℕ, suc, Bool, sym, ap, arith}
use Rattle.gufi_base.specs.Limits.{max_components}
use Rattle.gufi_formula.specs.Formulas.{holds}
use Rattle.gufi_select.specs.Depths.{reaches, first_failure}
use Rattle.gufi_select.proofs.DepthLemmas.{failure_here, failure_next, no_failure}
use Rattle.gufi_select.proofs.depth.first_depth.Goals as goal

pub returns-then-not-is_true : goal.returns-then-not-is_true
returns-then-not-is_true c =
    let pass : ℕ → Bool = λ deep. holds (reaches deep) c.args.condition.now in
    let lt = c.loop-than-test.true in
    let some : max_components - c.loop-than.than ≡ suc (max_components - (c.loop-than.than + 1)) = omega (arith, lt) in
    sym (c.loop-than.invariant ∙ ap (first_failure pass c.loop-than.than) some ∙ failure_here pass c.loop-than.than _ (sym c.is_true.ensures ∙ c.if-not-is_true.true))

pub loop-than-preserved : goal.loop-than-preserved
loop-than-preserved c =
    let pass : ℕ → Bool = λ deep. holds (reaches deep) c.args.condition.now in
    let lt = c.loop-than-test.true in
    let some : max_components - c.loop-than.than ≡ suc (max_components - (c.loop-than.than + 1)) = omega (arith, lt) in
    c.loop-than.invariant ∙ ap (first_failure pass c.loop-than.than) some ∙ failure_next pass c.loop-than.than _ (sym c.is_true.ensures ∙ c.if-not-is_true.false)

pub returns : goal.returns
returns c =
    let past = c.loop-than-test.false in
    let none : max_components - c.loop-than.than ≡ 0 = omega (arith, past) in
    sym (c.loop-than.invariant ∙ ap (first_failure (λ deep. holds (reaches deep) c.args.condition.now) c.loop-than.than) none ∙ no_failure (λ deep. holds (reaches deep) c.args.condition.now) c.loop-than.than)
