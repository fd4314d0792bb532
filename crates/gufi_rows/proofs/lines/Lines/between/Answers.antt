use Rattle.std.proofs.Common.{◌∙◌, ap, arith}
use Rattle.gufi_rows.specs.LaidLines.{lines_of}
use Rattle.gufi_rows.proofs.Laid.{lines-between, lines-bounds}
use Rattle.gufi_rows.proofs.lines.Lines.between.Goals as goal

pub slice_bounds-result-count : goal.slice_bounds-result-count
slice_bounds-result-count c =
    let whole = c.deref.ensures.value ∙ c.self.invariant.whole ∙ ap lines_of c.self.view_is in
    (lines-bounds c.args.self.now c.args.from c.args.end c.requires.from c.deref.result.now c.start-start.result c.start-stop.result whole c.start-start.ensures c.start-stop.ensures).order

pub slice_bounds-result-start : goal.slice_bounds-result-start
slice_bounds-result-start c =
    let whole = c.deref.ensures.value ∙ c.self.invariant.whole ∙ ap lines_of c.self.view_is in
    let bounds = lines-bounds c.args.self.now c.args.from c.args.end c.requires.from c.deref.result.now c.start-start.result c.start-stop.result whole c.start-start.ensures c.start-stop.ensures in
    omega (arith, bounds.order)

pub slice_bounds-result-end : goal.slice_bounds-result-end
slice_bounds-result-end c =
    let whole = c.deref.ensures.value ∙ c.self.invariant.whole ∙ ap lines_of c.self.view_is in
    let bounds = lines-bounds c.args.self.now c.args.from c.args.end c.requires.from c.deref.result.now c.start-start.result c.start-stop.result whole c.start-start.ensures c.start-stop.ensures in
    omega (arith, bounds.order, bounds.within)

pub returns : goal.returns
returns c =
    let whole = c.deref.ensures.value ∙ c.self.invariant.whole ∙ ap lines_of c.self.view_is in
    lines-between c.args.self.now c.args.from c.args.end c.requires.from c.deref.result.now c.start-start.result c.start-stop.result whole c.start-start.ensures c.start-stop.ensures
