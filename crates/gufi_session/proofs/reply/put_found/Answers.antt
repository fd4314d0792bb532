use Rattle.std.proofs.lemmas.Result.{on_ok_weaker}
use Rattle.gufi_find.specs.Expressions.{find_holds}
use Rattle.gufi_walk.specs.Answer.{answer}
use Rattle.gufi_plan.specs.declared.search.Query.TheVariants.{Finds}
use Rattle.gufi_session.proofs.Replies.{found_put}
use Rattle.gufi_session.proofs.reply.put_found.Goals as goal

-- no row is passed over that the expression admits
pub answer_paths-requires-clause-query : goal.answer_paths-requires-clause-query
answer_paths-requires-clause-query g c κs within = λ row depth met.
    c.in_ok-skip.ensures.met row depth (rw c.question-question.ensures at met)

pub returns-in-Ok : goal.returns-in-Ok
returns-in-Ok g c =
    let tree = c.args.snap.now.tree in
    let who = c.args.who.now in
    let start = c.args.start.now in
    let asks = find_holds c.args.find.now in
    on_ok_weaker c.put_paths.result
    (λ put. found_put (Finds c.args.find.now) tree who start asks c.args.text.now.items c.put_paths.new.text.items c.in-Ok.ensures.found
    (put (answer tree who start asks) (rw c.question-question.ensures at c.in-Ok.ensures.paths) (rw c.question-question.ensures at c.answer_paths.ensures.ascends)))
    c.put_paths.ensures
