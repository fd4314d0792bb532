use Rattle.std.proofs.Common.{◌+◌, sym, ◌∙◌, arith}
use Rattle.gufi_image.specs.declared.width.Width.TheVariants.{Named, Guarded}
use Rattle.gufi_image.specs.Widths.{directory_needs}
use Rattle.gufi_image.proofs.Widest.{wider_more, wide_enough, widest_all}
use Rattle.gufi_image.proofs.width.width_of.Goals as goal

pub returns-then-has_acls : goal.returns-then-has_acls
returns-then-has_acls c =
    wide_enough (directory_needs Guarded) (directory_needs Named) c.args.tree.now (c.loop-number.number + 1) c.wider-widest.result
    (c.wider-widest.ensures ∙ wider_more (directory_needs Guarded) (directory_needs Named) c.args.tree.now c.loop-number.number c.dir.result c.loop-number.widest c.directory_width.result (omega (arith, c.loop-number-test.true, c.dirs-number-end.ensures.count)) c.dir.ensures.value c.loop-number.invariant c.directory_width.ensures)
    (sym c.has_acls.ensures ∙ c.if-has_acls.true)

pub loop-number-preserved : goal.loop-number-preserved
loop-number-preserved c =
    c.wider-widest.ensures
    ∙ wider_more (directory_needs Guarded) (directory_needs Named) c.args.tree.now c.loop-number.number c.dir.result c.loop-number.widest c.directory_width.result (omega (arith, c.loop-number-test.true, c.dirs-number-end.ensures.count)) c.dir.ensures.value c.loop-number.invariant c.directory_width.ensures

pub returns : goal.returns
returns c = widest_all (directory_needs Guarded) (directory_needs Named) c.args.tree.now c.loop-number.number c.loop-number.widest (omega (arith, c.loop-number-test.false, c.dirs-number-end.ensures.count)) c.loop-number.invariant
