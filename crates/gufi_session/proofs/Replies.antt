-- Replies where the start is found.
use Rattle.std.proofs.Common.{◌≡◌, ℕ, List, ◌++◌, ap, sym, ◌∙◌}
use Rattle.std.specs.Prelude.{Bool, Option, None}
use Rattle.gufi_base.specs.declared.record.Row.{Row}
use Rattle.gufi_base.specs.Paths.{Components}
use Rattle.gufi_access.specs.declared.class.Principal.{Principal}
use Rattle.gufi_tree.specs.Tree.{Directory}
use Rattle.gufi_tree.specs.Resolve.{resolve}
use Rattle.gufi_walk.specs.declared.refusal.Refusal.{Refusal}
use Rattle.gufi_walk.specs.Answer.{answer, refusal_of, reply_rows, rows_or}
use Rattle.gufi_plan.specs.declared.search.Query.{Query}
use Rattle.gufi_session.specs.Session.{answer_or, query_answer}

-- what is written of the answer stands behind the reply's head
pub found_put : (query : Query) (tree : List Directory) (who : Principal) (start : Components) (asks : Row → ℕ → Bool) (old next : List ℕ) → refusal_of (resolve tree who start) ≡ None
    → next ≡ old ++ query_answer query start (answer tree who start asks) → next ≡ old ++ answer_or query start (reply_rows tree who start asks)
found_put query tree who start asks old next found is =
    is ∙ sym (ap (λ (o : Option Refusal). old ++ answer_or query start (rows_or o (answer tree who start asks))) found)
