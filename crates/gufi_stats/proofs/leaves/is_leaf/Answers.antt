use Rattle.std.proofs.Common.{not, sym, ap, ◌∙◌}
use Rattle.gufi_stats.proofs.LeafLemmas.{next-here, one-more}
use Rattle.gufi_stats.proofs.leaves.is_leaf.Goals as goal

pub loop-row-preserved : goal.loop-row-preserved
loop-row-preserved c =
    one-more c.args.directory.now c.args.behind.now c.loop-row.row-index c.row-item.result c.loop-row-test.true c.row-item.is (sym c.is_dir.ensures ∙ c.if-is_dir.false) c.loop-row.invariant

pub returns-then-is_dir : goal.returns-then-is_dir
returns-then-is_dir c =
    ap not
    (c.starts_with.ensures
    ∙ sym (next-here c.args.directory.now c.args.behind.now c.loop-row.row-index c.row-item.result c.loop-row-test.true c.row-item.is (sym c.is_dir.ensures ∙ c.if-is_dir.true) c.loop-row.invariant c.requires))
