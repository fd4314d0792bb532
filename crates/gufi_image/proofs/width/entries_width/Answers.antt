use Rattle.std.proofs.Common.{Bool, ◌+◌, sym, ap, ◌∙◌, arith}
use Rattle.gufi_tree.specs.declared.tree.Entry.{Entry}
use Rattle.gufi_image.specs.declared.width.Width.{Width}
use Rattle.gufi_image.specs.declared.width.Width.TheVariants.{Named, Guarded}
use Rattle.gufi_image.specs.Widths.{record_needs, record_width}
use Rattle.gufi_image.proofs.Widest.{wider_more, wide_enough, widest_all}
use Rattle.gufi_image.proofs.width.entries_width.Goals as goal

abbrev needs : Width → Entry → Bool
needs width e = record_needs width e.rec

pub returns-then-has_acls : goal.returns-then-has_acls
returns-then-has_acls c =
    wide_enough (needs Guarded) (needs Named) c.args.entries.now (c.loop-place.place + 1) c.wider-widest.result
    (c.wider-widest.ensures ∙ wider_more (needs Guarded) (needs Named) c.args.entries.now c.loop-place.place c.at.result c.loop-place.widest c.record_width.result (omega arith) c.at.ensures c.loop-place.invariant (c.record_width.ensures ∙ ap record_width c.rec.ensures))
    (sym c.has_acls.ensures ∙ c.if-has_acls.true)

pub loop-place-preserved : goal.loop-place-preserved
loop-place-preserved c =
    c.wider-widest.ensures
    ∙ wider_more (needs Guarded) (needs Named) c.args.entries.now c.loop-place.place c.at.result c.loop-place.widest c.record_width.result (omega arith) c.at.ensures c.loop-place.invariant (c.record_width.ensures ∙ ap record_width c.rec.ensures)

pub returns : goal.returns
returns c = widest_all (needs Guarded) (needs Named) c.args.entries.now c.loop-place.place c.loop-place.widest (omega arith) c.loop-place.invariant
