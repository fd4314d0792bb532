use Rattle.std.proofs.Common.{◌≡◌, [], ◌∷◌, ◌++◌, cond, sym, ap, ◌∙◌}
use Rattle.std.proofs.lemmas.List.{append-nil}
use Rattle.gufi_tree.specs.Places.{path_at}
use Rattle.gufi_walk.specs.Walk.{lists_at}
use Rattle.gufi_walk.proofs.Walked.{lists_at-guard}
use Rattle.gufi_usage.proofs.near.add_if_open.Goals as goal

pub returns-in_ok-push : goal.returns-in_ok-push
returns-in_ok-push c =
    let is : c.lists.result ≡ lists_at c.args.snap.now.tree c.args.who.now (path_at c.args.snap.now.tree c.args.id.0) =
    lists_at-guard c.args.snap.now.tree c.tree.result.now c.args.who.now c.tree.ensures.shape c.tree.ensures.tree c.args.id.0 c.requires _ c.guard.ensures _ c.lists.ensures in
    c.in_ok-push.ensures.items ∙ ap (λ b. c.args.kids.now.items ++ cond b (c.args.id ∷ []) []) (sym c.if-lists.true ∙ is)

pub returns-else-lists : goal.returns-else-lists
returns-else-lists c =
    let is : c.lists.result ≡ lists_at c.args.snap.now.tree c.args.who.now (path_at c.args.snap.now.tree c.args.id.0) =
    lists_at-guard c.args.snap.now.tree c.tree.result.now c.args.who.now c.tree.ensures.shape c.tree.ensures.tree c.args.id.0 c.requires _ c.guard.ensures _ c.lists.ensures in
    sym (append-nil c.args.kids.now.items) ∙ ap (λ b. c.args.kids.now.items ++ cond b (c.args.id ∷ []) []) (sym c.if-lists.false ∙ is)
