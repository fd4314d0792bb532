-- Publications that look alike have the same replies.
use Rattle.std.proofs.Common.{List, ap, ◌++◌}
use Rattle.std.specs.Prelude.{Result}
use Rattle.gufi_base.specs.declared.record.Row.{Row}
use Rattle.gufi_walk.specs.declared.refusal.Refusal.{Refusal}
use Rattle.gufi_walk.proofs.Isolation.{alike_replies}
use Rattle.gufi_plan.specs.Plan.{query_holds}
use Rattle.gufi_session.specs.Session.{RepliesArePrivate, answer_or, reply_body, reply_head}

pub replies_alike : RepliesArePrivate
unfolding reply_body
replies_alike p other search alike i n =
    ap (λ (rows : Result (List Row) Refusal). reply_head i n ++ answer_or search.query search.start rows) (alike_replies p.tree other.tree search.who search.start alike (query_holds search.query))
