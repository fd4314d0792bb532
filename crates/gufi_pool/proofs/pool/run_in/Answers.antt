use Rattle.std.proofs.Common.{◌≡◌, ◌∙◌, [], sym, subst, All, Contains, arith}
use Rattle.std.proofs.lemmas.Result.{IfOk-weaker}
use Rattle.std.proofs.lemmas.List.Elements.{All-drop}
use Rattle.gufi_pool.specs.Jobs.{IsClosed}
use Rattle.gufi_pool.specs.Members.{HaveRunOn}
use Rattle.gufi_pool.specs.Openings.{ran_of, waiting_of, IsOpening}
use Rattle.gufi_pool.proofs.Openings.{lone_once, rest_once, none_waits}
use Rattle.gufi_pool.proofs.pool.run_in.Goals as goal

pub open-requires-clause-given : goal.open-requires-clause-given
open-requires-clause-given g c κs within = subst (λ given. All (Contains given) c.args.first.now) (sym c.requires.job) c.requires.shape.first_given

pub open-requires-clause-closed : goal.open-requires-clause-closed
open-requires-clause-closed g c κs within = subst (λ given. IsClosed given (g.J.Job.kids_of c.args.job.now)) (sym c.requires.job) c.requires.shape.kids_given

pub run_waiting-requires-clause-given : goal.run_waiting-requires-clause-given
run_waiting-requires-clause-given g c κs within =
    let opening = c.in_ok-opening.opening in
    subst (All (Contains g.T.GivenTasks.given)) (sym (c.deref.ensures.value ∙ c.in_ok-waiting.ensures.items ∙ c.waiting.ensures))
    (All-drop (Contains g.T.GivenTasks.given) opening.next opening.tasks.items (subst (λ given. All (Contains given) opening.tasks.items) c.requires.job c.in_ok-opening.ensures.allowed))

pub run_waiting-requires-clause-stood : goal.run_waiting-requires-clause-stood
run_waiting-requires-clause-stood g c κs within =
    let opening = c.in_ok-opening.opening in
    (ran_of opening, subst (λ p. g.J.Job.stands c.args.job.now p (ran_of opening)) (sym c.into_piece-piece.ensures) c.in_ok-opening.ensures.piece)

pub returns-then-is_empty-clause-once : goal.returns-then-is_empty-clause-once
returns-then-is_empty-clause-once g c =
    let given = g.T.GivenTasks.given in
    let kids = g.J.Job.kids_of c.args.job.now in
    let stands = g.J.Job.stands c.args.job.now in
    let opening = c.in_ok-opening.opening in
    let opened = subst (λ tasks. IsOpening tasks c.args.first.now kids stands opening) c.requires.job c.in_ok-opening.ensures in
    let none : waiting_of opening ≡ [] = none_waits _ _ _ (sym (c.in_ok-waiting.ensures.items ∙ c.waiting.ensures)) c.if-is_empty.ensures (omega (arith, c.in_ok-waiting.waiting.ok.0)) in
    IfOk-weaker c.lone_pieces.result _ _
    (λ v ran. lone_once given c.args.first.now kids stands c.requires.shape opening opened v.items none
    (ran (ran_of opening) (subst (λ p. stands p (ran_of opening)) (sym c.into_piece-piece.ensures) opened.piece)))
    c.lone_pieces.ensures.pieces

pub returns-clause-once : goal.returns-clause-once
returns-clause-once g c =
    let given = g.T.GivenTasks.given in
    let kids = g.J.Job.kids_of c.args.job.now in
    let stands = g.J.Job.stands c.args.job.now in
    let opening = c.in_ok-opening.opening in
    let opened = subst (λ tasks. IsOpening tasks c.args.first.now kids stands opening) c.requires.job c.in_ok-opening.ensures in
    let waiting = c.deref.ensures.value ∙ c.in_ok-waiting.ensures.items ∙ c.waiting.ensures in
    IfOk-weaker c.run_waiting.result _ _
    (λ v ran. rest_once given c.args.first.now kids stands c.requires.shape opening opened v.items
    (subst (λ ws. HaveRunOn given kids stands (ran_of opening) ws v.items) waiting
    (ran (ran_of opening) (subst (λ p. stands p (ran_of opening)) (sym c.into_piece-piece.ensures) opened.piece))))
    c.run_waiting.ensures.ran
