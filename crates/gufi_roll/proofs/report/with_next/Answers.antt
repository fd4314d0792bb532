use Rattle.gufi_tree.proofs.Kids.{at_place}
use Rattle.gufi_roll.proofs.Tops.{flags_len, report_same}
use Rattle.gufi_roll.proofs.report.with_next.Goals as goal

pub returns : goal.returns
returns c =
    let d = (at_place c.args.tree.now c.args.id.0 c.requires.within).0 in
    report_same c.args.tree.now c.args.flags.now c.args.id.0 d (flags_len c.args.tree.now c.args.flags.now c.requires.flags) c.requires.within c.args.report c.requires.before c.if-flags-id.false
