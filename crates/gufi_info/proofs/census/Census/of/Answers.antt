use Rattle.std.proofs.Common.{◌∙◌, take, arith}
use Rattle.std.specs.List.{flat_map}
use Rattle.gufi_tree.specs.Tree.{own_rows}
use Rattle.gufi_info.proofs.Counted.{directories-more}
use Rattle.gufi_info.proofs.census.Census.of.Goals as goal

pub loop-number-preserved : goal.loop-number-preserved
loop-number-preserved c =
    c.with_directory-census.ensures (flat_map own_rows (take c.loop-number.number c.args.tree.now)) c.loop-number.invariant
    ∙ directories-more c.args.tree.now c.loop-number.number c.dir.result (omega (arith, c.loop-number-test.true, c.dirs-number-end.ensures.count)) c.dir.ensures.value
