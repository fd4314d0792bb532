use Rattle.std.proofs.Common.{List, ◌+◌, ◌++◌, ap, ◌∙◌}
use Rattle.std.proofs.lemmas.List.{take_rest}
use Rattle.gufi_base.specs.declared.record.Row.{Row}
use Rattle.gufi_stats.specs.Leaves.{leaf_line}
use Rattle.gufi_stats.proofs.LeafLemmas.{rest-ascends, leaf-taken}
use Rattle.gufi_stats.proofs.leaves.leaf_lines.Goals as goal

pub put_leaf-requires : goal.put_leaf-requires
put_leaf-requires c =
    let rest = take_rest c.args.rows.now (c.loop-at.at + 1) in
    rw rest (rest-ascends c.args.rows.now c.loop-at.at c.index-rows-at.result c.loop-at-test.true c.index-rows-at.is c.requires)

pub loop-at-preserved : goal.loop-at-preserved
loop-at-preserved c =
    let row = c.index-rows-at.result in
    c.in_ok-put_leaf.ensures
    ∙ ap (λ (rs : List Row). c.loop-at.text.items ++ leaf_line row rs) (take_rest c.args.rows.now (c.loop-at.at + 1))
    ∙ leaf-taken c.args.rows.now c.loop-at.at row c.loop-at.text.items c.loop-at-test.true c.index-rows-at.is c.requires c.loop-at.invariant
