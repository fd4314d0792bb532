use Rattle.std.proofs.Common.{Bool, sym, ap, ◌∙◌, arith}
use Rattle.gufi_base.specs.declared.record.Rec.{Rec}
use Rattle.gufi_tree.specs.declared.tree.Entry.{Entry}
use Rattle.gufi_tree.proofs.TooLong.{one_found, none_found, none_at_all}
use Rattle.gufi_image.specs.declared.width.Width.{Width}
use Rattle.gufi_image.specs.Widths.{record_needs}
use Rattle.gufi_image.proofs.width.entries_need.Goals as goal

abbrev test : Width → Entry → Bool
test width e = record_needs width e.rec

pub returns-then-record_needs : goal.returns-then-record_needs
returns-then-record_needs c =
    one_found (test c.args.width) c.args.entries.now c.loop-place.place c.at.result (omega arith) c.at.ensures (ap (λ (r : Rec). record_needs c.args.width r) (sym c.rec.ensures) ∙ sym c.record_needs.ensures ∙ c.if-record_needs.true)

pub loop-place-preserved : goal.loop-place-preserved
loop-place-preserved c =
    none_found (test c.args.width) c.args.entries.now c.loop-place.place c.at.result (omega arith) c.at.ensures c.loop-place.invariant (ap (λ (r : Rec). record_needs c.args.width r) (sym c.rec.ensures) ∙ sym c.record_needs.ensures ∙ c.if-record_needs.false)

pub returns : goal.returns
returns c = none_at_all (test c.args.width) c.args.entries.now c.loop-place.place (omega arith) c.loop-place.invariant
