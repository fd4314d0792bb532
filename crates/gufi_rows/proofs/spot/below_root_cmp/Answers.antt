use Rattle.std.proofs.Common.{◌<◌, ◌∙◌, length, drop, arith, ap}
use Rattle.std.specs.Cmp.Lexicographic.{slice_cmp}
use Rattle.std.proofs.lemmas.List.{length-drop}
use Rattle.gufi_base.specs.TextOrder.{slash_first}
use Rattle.gufi_base.proofs.CutParts.{IsCut-parts}
use Rattle.gufi_rows.proofs.PartOrders.{one_stem, stem_goes_on, stem_went_on, stems_differ}
use Rattle.gufi_rows.proofs.spot.below_root_cmp.Goals as goal

pub returns-then-same-a : goal.returns-then-same-a
returns-then-same-a c = λ p q a b.
    let same = c.common_front-same.ensures in
    let n = c.common_front-same.result in
    c.cmp.ensures
    ∙ one_stem n _ _ _ _ p q (IsCut-parts _ _ p a c.requires.a) (IsCut-parts _ _ q b c.requires.b) same.same same.within_a same.within_b
    (omega (arith, length-drop n c.args.a.stem.now)) (omega (arith, length-drop n c.args.b.stem.now))

pub returns-else-same-a : goal.returns-else-same-a
returns-else-same-a c = λ p q a b.
    let same = c.common_front-same.ensures in
    let n = c.common_front-same.result in
    c.text_cmp.ensures.bytes ∙ ap (λ t. slice_cmp slash_first t c.args.b.base.now) c.behind-left.ensures
    ∙ stem_went_on n _ _ _ _ p q (IsCut-parts _ _ p a c.requires.a) (IsCut-parts _ _ q b c.requires.b) same.same same.within_a same.within_b
    (omega arith) (omega (arith, length-drop n c.args.b.stem.now))

pub returns-then-same-a-2 : goal.returns-then-same-a-2
returns-then-same-a-2 c = λ p q a b.
    let same = c.common_front-same.ensures in
    let n = c.common_front-same.result in
    c.text_cmp-then-same-a-2.ensures.bytes ∙ ap (slice_cmp slash_first c.args.a.base.now) c.behind-right.ensures
    ∙ stem_goes_on n _ _ _ _ p q (IsCut-parts _ _ p a c.requires.a) (IsCut-parts _ _ q b c.requires.b) same.same same.within_a same.within_b
    (omega (arith, length-drop n c.args.a.stem.now)) (omega arith)

pub returns : goal.returns
returns c = λ p q a b.
    let same = c.common_front-same.ensures in
    let n = c.common_front-same.result in
    let in_a : n < length c.args.a.stem.now = omega arith in
    let in_b : n < length c.args.b.stem.now = omega arith in
    c.text_cmp-2.ensures.bytes ∙ ap (λ t. slice_cmp slash_first t c.behind-right.result.now) c.behind-left.ensures ∙ ap (slice_cmp slash_first (drop n c.args.a.stem.now)) c.behind-right.ensures
    ∙ stems_differ n _ _ _ _ p q (IsCut-parts _ _ p a c.requires.a) (IsCut-parts _ _ q b c.requires.b) same.same same.within_a same.within_b
    in_a in_b (same.most in_a in_b)
