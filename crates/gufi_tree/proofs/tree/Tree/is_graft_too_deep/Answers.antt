use Rattle.std.proofs.Common.{length, sym, ap, ◌∙◌, arith}
use Rattle.gufi_tree.proofs.Ranges.{below_within}
use Rattle.gufi_tree.proofs.TooLong.{part_too_long, tree_too_long}
use Rattle.gufi_tree.proofs.tree.Tree.is_graft_too_deep.Goals as goal

pub any_has_long_row_outside-requires-clause-within : goal.any_has_long_row_outside-requires-clause-within
any_has_long_row_outside-requires-clause-within c =
    let within = below_within c.args.self.now c.args.at.0 c.kept-dirs.ensures.shape.order c.requires.within in
    let count = c.requires.count in
    let same = ap length c.kept-dirs.ensures.value in
    omega arith

pub returns-then-any_has_long_row : goal.returns-then-any_has_long_row
returns-then-any_has_long_row c =
    c.any_has_long_row.ensures
    ∙ part_too_long c.args.self.now c.args.part.now c.kept-dirs.result.now c.kept-put.result.now c.args.at.0 c.args.count c.len.result c.path-below.result c.kept-dirs.ensures.shape c.kept-put.ensures.shape
    c.requires.within c.requires.count c.kept-dirs.ensures.value c.kept-put.ensures.value c.path-below.ensures c.len.ensures
    (sym c.any_has_long_row.ensures ∙ c.if-any_has_long_row.true)

pub returns-else-any_has_long_row : goal.returns-else-any_has_long_row
returns-else-any_has_long_row c =
    c.any_has_long_row_outside.ensures
    ∙ tree_too_long c.args.self.now c.args.part.now c.kept-dirs.result.now c.kept-put.result.now c.args.at.0 c.args.count c.len.result c.path-below.result c.kept-dirs.ensures.shape c.kept-put.ensures.shape
    c.requires.within c.requires.count c.kept-dirs.ensures.value c.kept-put.ensures.value c.path-below.ensures c.len.ensures
    (sym c.any_has_long_row.ensures ∙ c.if-any_has_long_row.false)
