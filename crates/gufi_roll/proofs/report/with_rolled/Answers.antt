use Rattle.std.proofs.Common.{◌<◌, ◌∙◌, length, refl, ap, arith}
use Rattle.gufi_tree.proofs.Kids.{at_place}
use Rattle.gufi_roll.proofs.Tops.{flags_len, rolled_fits, tops_fit, rows_fit, report_more}
use Rattle.gufi_roll.proofs.report.with_rolled.Goals as goal

pub overflow_add-result : goal.overflow_add-result
overflow_add-result c =
    let d = (at_place c.args.tree.now c.args.id.0 c.requires.within).0 in
    let few : length c.args.tree.now < 4294967296 = omega (arith, c.dirs-count.ensures.count, c.dirs-count.type_inv) in
    let fits = rolled_fits c.args.tree.now c.args.flags.now c.args.id.0 d (flags_len c.args.tree.now c.args.flags.now c.requires.flags) c.requires.within c.args.report c.requires.before c.requires.rolled 4294967296 few in
    omega (arith, fits)

pub overflow_add-result-2 : goal.overflow_add-result-2
overflow_add-result-2 c =
    let d = (at_place c.args.tree.now c.args.id.0 c.requires.within).0 in
    let few : length c.args.tree.now < 4294967296 = omega (arith, c.dirs-count.ensures.count, c.dirs-count.type_inv) in
    let fits = tops_fit c.args.tree.now c.args.flags.now c.args.id.0 d (flags_len c.args.tree.now c.args.flags.now c.requires.flags) c.requires.within c.args.report c.requires.before c.requires.rolled 4294967296 few in
    omega (arith, fits, c.top_count-top.ensures.few)

pub overflow_add-result-3 : goal.overflow_add-result-3
overflow_add-result-3 c =
    let d = (at_place c.args.tree.now c.args.id.0 c.requires.within).0 in
    let fits = rows_fit c.args.tree.now c.args.flags.now c.args.id.0 d (flags_len c.args.tree.now c.args.flags.now c.requires.flags) c.requires.within c.args.report c.requires.before c.requires.rolled c.len.result 4294967296 (c.len.ensures ∙ ap length (c.entries.ensures.value d)) c.dirs-count.ensures.rows in
    omega (arith, fits)

pub returns : goal.returns
returns c =
    let d = (at_place c.args.tree.now c.args.id.0 c.requires.within).0 in
    report_more c.args.tree.now c.args.flags.now c.args.id.0 d (flags_len c.args.tree.now c.args.flags.now c.requires.flags) c.requires.within c.args.report c.requires.before c.requires.rolled _ c.len.result c.top_count-top.result
    refl (c.len.ensures ∙ ap length (c.entries.ensures.value d)) (c.top_count-top.ensures.value d)
