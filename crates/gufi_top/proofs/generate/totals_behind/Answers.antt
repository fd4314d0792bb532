use Rattle.gufi_top.proofs.SummaryLemmas.{passed_on, first_refused, second_refused, third_refused, three_given}
use Rattle.gufi_top.proofs.generate.totals_behind.Goals as goal

pub returns-in_err-put_total : goal.returns-in_err-put_total
returns-in_err-put_total c =
    passed_on c.from_residual.result _ _ c.from_residual.ensures.1 (first_refused c.args.snap.now.tree c.in_err-put_total.field-0.0 c.args.report.items c.put_total.new.out.items c.in_err-put_total.ensures)

pub returns-in_err-put_total-2 : goal.returns-in_err-put_total-2
returns-in_err-put_total-2 c =
    passed_on c.from_residual-in_err-put_total-2.result _ _ c.from_residual-in_err-put_total-2.ensures.1
    (second_refused c.args.snap.now.tree c.in_err-put_total-2.field-0.0 c.args.report.items c.put_total.new.out.items c.put_total-2.new.out.items c.in_ok-put_total.ensures c.in_err-put_total-2.ensures)

pub returns-in_err-put_total-3 : goal.returns-in_err-put_total-3
returns-in_err-put_total-3 c =
    passed_on c.from_residual-in_err-put_total-3.result _ _ c.from_residual-in_err-put_total-3.ensures.1
    (third_refused c.args.snap.now.tree c.in_err-put_total-3.field-0.0 c.args.report.items c.put_total.new.out.items c.put_total-2.new.out.items c.put_total-3.new.out.items c.in_ok-put_total.ensures c.in_ok-put_total-2.ensures
    c.in_err-put_total-3.ensures)

pub returns : goal.returns
returns c = three_given c.args.snap.now.tree c.put_total-3.new.out c.args.report.items c.put_total.new.out.items c.put_total-2.new.out.items c.requires c.in_ok-put_total.ensures c.in_ok-put_total-2.ensures c.in_ok-put_total-3.ensures
