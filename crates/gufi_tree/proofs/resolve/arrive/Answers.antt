use Rattle.std.proofs.Common.{◌∙◌, sym, ap, arith}
use Rattle.gufi_access.specs.Access.{can_list}
use Rattle.gufi_tree.proofs.Resolving.{depth_at, arrive_found, arrive_denied}
use Rattle.gufi_tree.proofs.resolve.arrive.Goals as goal

pub denied-requires : goal.denied-requires
denied-requires c =
    let h = depth_at c.args.dirs.now c.args.who.now c.requires.shape c.args.place c.at-dir.result c.requires.within (c.at-dir.ensures c.at-dir.result) in
    omega (arith, h, c.requires.within, c.requires.few)

pub returns-then-lists : goal.returns-then-lists
returns-then-lists c =
    arrive_found c.args.dirs.now c.args.who.now c.requires.shape c.args.place c.at-dir.result c.requires.within (c.at-dir.ensures c.at-dir.result)
    (ap (can_list c.args.who.now) (sym c.guard.ensures) ∙ sym c.lists.ensures ∙ c.if-lists.true)

pub returns-else-lists : goal.returns-else-lists
returns-else-lists c =
    c.denied.ensures ∙ arrive_denied c.args.dirs.now c.args.who.now c.requires.shape c.args.place c.at-dir.result c.requires.within (c.at-dir.ensures c.at-dir.result)
    (ap (can_list c.args.who.now) (sym c.guard.ensures) ∙ sym c.lists.ensures ∙ c.if-lists.false)
