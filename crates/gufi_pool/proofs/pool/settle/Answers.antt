use Rattle.std.proofs.Common.{◌≡◌, ◌∙◌, sym, ap, subst, ◌++◌, ◌∷◌, [], append_assoc}
use Rattle.std.specs.List.{AllZip}
use Rattle.gufi_pool.specs.Members.{Finished}
use Rattle.gufi_pool.proofs.Zips.{zip_push}
use Rattle.gufi_pool.proofs.pool.settle.Goals as goal

pub loop-member-preserved : goal.loop-member-preserved
loop-member-preserved g c =
    let items = c.loop-member.invariant.left ∙ ap (λ l. c.loop-member.yielded ++ l) c.in-Some.ensures.steps.0 in
    let pushed : c.push.new.self.items ≡ c.loop-member.pieces.items ++ c.in_ok-piece.piece ∷ [] = c.in_ok-push.ensures.items in
    record {
      left = items ∙ sym (append_assoc c.loop-member.yielded (c.in-Some.member ∷ []) c.next.new.self.rest.items);
      finished =
          subst (AllZip (Finished g.T.GivenTasks.given (g.J.Job.kids_of c.args.job.now) (g.J.Job.stands c.args.job.now)) (c.loop-member.yielded ++ c.in-Some.member ∷ [])) (sym pushed)
          (zip_push (Finished g.T.GivenTasks.given (g.J.Job.kids_of c.args.job.now) (g.J.Job.stands c.args.job.now)) _ _ _ _ c.loop-member.invariant.finished c.in_ok-piece.ensures);
    }
