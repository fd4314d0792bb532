use Rattle.std.proofs.Common.{◌≡◌, ◌++◌, [], ◌∷◌, ◌∙◌, ap, map, All, sym, subst, arith, length-append}
use Rattle.std.proofs.lemmas.List.{map-append}
use Rattle.std.proofs.lemmas.List.Elements.{All-push, All-nil}
use Rattle.gufi_pool.specs.Members.{IsNew, HaveRun, member_piece}
use Rattle.gufi_pool.proofs.Runs.{run_first, run_more}
use Rattle.gufi_pool.proofs.start.new_members.Goals as goal

pub loop-number-init : goal.loop-number-init
loop-number-init g c =
    let e : c.push.new.self.items ≡ c.in_ok-first.first ∷ [] = c.in_ok-push.ensures.items ∙ ap (λ l. l ++ c.in_ok-first.first ∷ []) c.new-members.ensures.items in
    record {
      count = rw e (omega arith);
      new = subst (All IsNew) (sym e) (All-push IsNew [] c.in_ok-first.first (All-nil IsNew) c.in_ok-first.ensures.new);
      pieces = λ ran has.
          subst (HaveRun (g.J.Job.stands c.args.job.now) ran) (sym (ap (map member_piece) e))
          (run_first (g.J.Job.stands c.args.job.now) ran (member_piece c.in_ok-first.first) (subst (λ p. g.J.Job.stands c.args.job.now p ran) (sym c.in_ok-first.ensures.piece) has));
    }

pub loop-number-preserved : goal.loop-number-preserved
loop-number-preserved g c =
    let e : c.push-in-loop-number.new.self.items ≡ c.loop-number.members.items ++ c.in_ok-member.member ∷ [] = c.in_ok-push-2.ensures.items in
    record {
      count = let k = c.loop-number.invariant.count in rw e (omega (arith, length-append c.loop-number.members.items (c.in_ok-member.member ∷ [])));
      new = subst (All IsNew) (sym e) (All-push IsNew _ _ c.loop-number.invariant.new c.in_ok-member.ensures.new);
      pieces = λ ran has.
          subst (HaveRun (g.J.Job.stands c.args.job.now) ran) (sym (ap (map member_piece) e ∙ map-append member_piece c.loop-number.members.items (c.in_ok-member.member ∷ [])))
          (run_more (g.J.Job.stands c.args.job.now) ran _ (member_piece c.in_ok-member.member) (c.loop-number.invariant.pieces ran has) (subst (λ p. g.J.Job.stands c.args.job.now p []) (sym c.in_ok-member.ensures.piece) c.in_ok-fresh.ensures));
    }
