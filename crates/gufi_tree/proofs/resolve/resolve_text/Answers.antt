use Rattle.std.proofs.Common.{◌∙◌, arith, take}
use Rattle.gufi_base.specs.PathTexts.{closed_names}
use Rattle.gufi_tree.proofs.Resolving.{reached_start, next_of, next_slash, next_text, next_names, refused_is, reached_next, next_longer, reached_end}
use Rattle.gufi_tree.proofs.resolve.resolve_text.Goals as goal

pub loop-offset-init : goal.loop-offset-init
loop-offset-init c = reached_start c.args.dirs.now c.args.who.now c.args.text.now c.requires.shape c.requires.text

pub cut-requires-clause-slash : goal.cut-requires-clause-slash
cut-requires-clause-slash c =
    let tree = c.args.dirs.now in
    let n = next_of c.args.dirs.now c.args.who.now c.args.text.now c.loop-offset.offset c.loop-offset.place c.loop-offset.invariant c.loop-offset-test.true in
    next_slash tree c.args.who.now c.args.text.now c.loop-offset.offset c.loop-offset.place n

pub step-requires-clause-text : goal.step-requires-clause-text
step-requires-clause-text c =
    let tree = c.args.dirs.now in
    let n = next_of c.args.dirs.now c.args.who.now c.args.text.now c.loop-offset.offset c.loop-offset.place c.loop-offset.invariant c.loop-offset-test.true in
    let parts = c.cut.ensures (take c.loop-offset.offset c.args.text.now) n.name (closed_names n.rest) n.whole n.len n.plain in
    next_text tree c.args.who.now c.args.text.now c.loop-offset.offset c.loop-offset.place n c.cut.result.0.now parts.0

pub step-requires-clause-name : goal.step-requires-clause-name
step-requires-clause-name c =
    let tree = c.args.dirs.now in
    let n = next_of c.args.dirs.now c.args.who.now c.args.text.now c.loop-offset.offset c.loop-offset.place c.loop-offset.invariant c.loop-offset-test.true in
    let parts = c.cut.ensures (take c.loop-offset.offset c.args.text.now) n.name (closed_names n.rest) n.whole n.len n.plain in
    next_names tree c.args.who.now c.args.text.now c.loop-offset.offset c.loop-offset.place n c.cut.result.0.now c.cut.result.1.now parts.0 parts.1

pub returns-in-Err : goal.returns-in-Err
returns-in-Err c =
    let tree = c.args.dirs.now in
    let n = next_of c.args.dirs.now c.args.who.now c.args.text.now c.loop-offset.offset c.loop-offset.place c.loop-offset.invariant c.loop-offset-test.true in
    let parts = c.cut.ensures (take c.loop-offset.offset c.args.text.now) n.name (closed_names n.rest) n.whole n.len n.plain in
    refused_is tree c.args.who.now c.args.text.now c.loop-offset.offset c.loop-offset.place n c.cut.result.1.now c.in-Err.refused parts.1 c.in-Err.ensures

pub loop-offset-smaller : goal.loop-offset-smaller
loop-offset-smaller c =
    let tree = c.args.dirs.now in
    let n = next_of c.args.dirs.now c.args.who.now c.args.text.now c.loop-offset.offset c.loop-offset.place c.loop-offset.invariant c.loop-offset-test.true in
    let parts = c.cut.ensures (take c.loop-offset.offset c.args.text.now) n.name (closed_names n.rest) n.whole n.len n.plain in
    let more = next_longer tree c.args.who.now c.args.text.now c.loop-offset.offset c.loop-offset.place n c.cut.result.0.now parts.0 in
    omega (arith, more, c.loop-offset-test.true)

pub loop-offset-preserved : goal.loop-offset-preserved
loop-offset-preserved c =
    let tree = c.args.dirs.now in
    let n = next_of c.args.dirs.now c.args.who.now c.args.text.now c.loop-offset.offset c.loop-offset.place c.loop-offset.invariant c.loop-offset-test.true in
    let parts = c.cut.ensures (take c.loop-offset.offset c.args.text.now) n.name (closed_names n.rest) n.whole n.len n.plain in
    reached_next tree c.args.who.now c.args.text.now c.loop-offset.offset c.loop-offset.place n c.cut.result.0.now c.cut.result.1.now c.in-Ok.found parts.0 parts.1 c.in-Ok.ensures.0 c.in-Ok.ensures.1 c.in-Ok.ensures.2

pub returns : goal.returns
returns c =
    c.arrive.ensures ∙ reached_end c.args.dirs.now c.args.who.now c.args.text.now c.loop-offset.offset c.loop-offset.place c.loop-offset.invariant c.loop-offset-test.false
