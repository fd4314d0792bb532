use Rattle.std.proofs.Common.{◌<◌, length, get_or, sym, arith}
use Rattle.gufi_rows.specs.RowLists.{no_row}
use Rattle.gufi_diff.proofs.Passes.{both_at, come_at, gone_at, left_of_both, left_of_new, left_of_old, passed_on}
use Rattle.gufi_diff.proofs.diff.put_next.Goals as goal

pub at-requires-in-Greater : goal.at-requires-in-Greater
at-requires-in-Greater c = left_of_new c.args.old.now c.args.new.now c.args.passed.old c.args.passed.new (sym c.in-Greater.ensures.order) c.requires.some

pub overflow_add-result-in-Greater : goal.overflow_add-result-in-Greater
overflow_add-result-in-Greater c =
    let h : c.args.passed.new < length c.args.new.now = left_of_new c.args.old.now c.args.new.now c.args.passed.old c.args.passed.new (sym c.in-Greater.ensures.order) c.requires.some in
    omega (arith, c.in-Greater.ensures.new_fits)

pub returns-in_ok-put_change-in-Greater-clause-in_new : goal.returns-in_ok-put_change-in-Greater-clause-in_new
returns-in_ok-put_change-in-Greater-clause-in_new c =
    let h : c.args.passed.new < length c.args.new.now = left_of_new c.args.old.now c.args.new.now c.args.passed.old c.args.passed.new (sym c.in-Greater.ensures.order) c.requires.some in
    omega arith

pub returns-in_ok-put_change-in-Less-clause-lines : goal.returns-in_ok-put_change-in-Less-clause-lines
returns-in_ok-put_change-in-Less-clause-lines c =
    let e = sym c.in-Less.ensures.order in
    passed_on c.args.text.now.items _ _ _ _
    (c.in_ok-put_change-in-Less.ensures (get_or c.args.old.now c.args.passed.old no_row) c.at.ensures)
    (gone_at c.args.old.now c.args.new.now c.args.passed.old c.args.passed.new c.requires.old_ascends c.requires.new_ascends e
    (left_of_old c.args.old.now c.args.new.now c.args.passed.old c.args.passed.new e))

pub returns-in_ok-put_change-in-Greater-clause-lines : goal.returns-in_ok-put_change-in-Greater-clause-lines
returns-in_ok-put_change-in-Greater-clause-lines c =
    let e = sym c.in-Greater.ensures.order in
    passed_on c.args.text.now.items _ _ _ _
    (c.in_ok-put_change-in-Greater.ensures (get_or c.args.new.now c.args.passed.new no_row) c.at-in-Greater.ensures)
    (come_at c.args.old.now c.args.new.now c.args.passed.old c.args.passed.new c.requires.old_ascends c.requires.new_ascends e
    (left_of_new c.args.old.now c.args.new.now c.args.passed.old c.args.passed.new e c.requires.some))

pub returns-in_ok-put_altered-in-Equal-clause-lines : goal.returns-in_ok-put_altered-in-Equal-clause-lines
returns-in_ok-put_altered-in-Equal-clause-lines c =
    let e = sym c.in-Equal.ensures.order in
    let left = left_of_both c.args.old.now c.args.new.now c.args.passed.old c.args.passed.new e in
    passed_on c.args.text.now.items _ _ _ _
    (c.in_ok-put_altered-in-Equal.ensures (get_or c.args.old.now c.args.passed.old no_row) (get_or c.args.new.now c.args.passed.new no_row) c.at-in-Equal.ensures c.at-in-Equal-2.ensures)
    (both_at c.args.old.now c.args.new.now c.args.passed.old c.args.passed.new c.requires.old_ascends c.requires.new_ascends e left.0 left.1)
