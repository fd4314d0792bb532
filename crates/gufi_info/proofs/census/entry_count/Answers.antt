use Rattle.std.proofs.Common.{arith}
use Rattle.gufi_snap.proofs.Counting.{entries_few}
use Rattle.gufi_info.proofs.Counted.{count_more, count_within}
use Rattle.gufi_info.proofs.census.entry_count.Goals as goal

pub overflow_cast-count : goal.overflow_cast-count
overflow_cast-count c =
    omega (arith, count_within c.args.tree.now c.loop-number.number c.entries.result (omega (arith, c.loop-number-test.true, c.dirs-number-end.ensures.count)) c.entries.ensures.value, entries_few c.args.tree.now c.dirs-number-end.ensures.rows, c.len.ensures)

pub overflow_add-count : goal.overflow_add-count
overflow_add-count c =
    omega (arith, count_within c.args.tree.now c.loop-number.number c.entries.result (omega (arith, c.loop-number-test.true, c.dirs-number-end.ensures.count)) c.entries.ensures.value, entries_few c.args.tree.now c.dirs-number-end.ensures.rows, c.len.ensures, c.loop-number.invariant)

pub loop-number-preserved : goal.loop-number-preserved
loop-number-preserved c =
    omega (arith, count_more c.args.tree.now c.loop-number.number c.entries.result (omega (arith, c.loop-number-test.true, c.dirs-number-end.ensures.count)) c.entries.ensures.value, c.loop-number.invariant, c.len.ensures)
