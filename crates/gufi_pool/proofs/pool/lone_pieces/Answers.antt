use Rattle.std.proofs.Common.{◌≡◌, ◌++◌, [], ◌∷◌, ◌∙◌, ap, sym, subst, arith, length-append}
use Rattle.gufi_pool.specs.Members.{HaveRun}
use Rattle.gufi_pool.proofs.Runs.{run_first, run_more}
use Rattle.gufi_pool.proofs.pool.lone_pieces.Goals as goal

pub loop-number-init : goal.loop-number-init
loop-number-init g c =
    let e : c.push.new.self.items ≡ c.args.piece ∷ [] = c.in_ok-push.ensures.items ∙ ap (λ l. l ++ c.args.piece ∷ []) c.new-pieces.ensures.items in
    record {
      count = rw e (omega arith);
      pieces = λ ran has. subst (HaveRun (g.J.Job.stands c.args.job.now) ran) (sym e) (run_first (g.J.Job.stands c.args.job.now) ran c.args.piece has);
    }

pub loop-number-preserved : goal.loop-number-preserved
loop-number-preserved g c =
    let e : c.push-in-loop-number.new.self.items ≡ c.loop-number.pieces.items ++ c.in_ok-fresh.fresh ∷ [] = c.in_ok-push-2.ensures.items in
    record {
      count = let k = c.loop-number.invariant.count in rw e (omega (arith, length-append c.loop-number.pieces.items (c.in_ok-fresh.fresh ∷ [])));
      pieces = λ ran has.
          subst (HaveRun (g.J.Job.stands c.args.job.now) ran) (sym e)
          (run_more (g.J.Job.stands c.args.job.now) ran _ c.in_ok-fresh.fresh (c.loop-number.invariant.pieces ran has) c.in_ok-fresh.ensures);
    }
