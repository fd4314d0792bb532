use Rattle.std.proofs.Common.{refl, sym, ◌∙◌, arith}
use Rattle.std.proofs.lemmas.List.{length-map}
use Rattle.gufi_tree.specs.Tree.{entry_row}
use Rattle.gufi_tree.proofs.Numbered.{zip_none}
use Rattle.gufi_tree.proofs.Kept.{rows_within, lines_taken}
use Rattle.gufi_tree.proofs.stanzas.kept_lines.Goals as goal

pub loop-place-init : goal.loop-place-init
loop-place-init c = record { at = refl; lines = c.in_ok-lines.ensures.items ∙ sym (zip_none c.args.places.now) }

pub push_lines-requires-clause-within : goal.push_lines-requires-clause-within
push_lines-requires-clause-within c =
    let within = rows_within c.args.dirs.now c.loop-place.place c.at-dir.result (omega arith) (c.at-dir.ensures c.at-dir.result) in
    let at = c.loop-place.invariant.at in
    let whole = c.requires.whole in
    omega (arith, within, at, whole)

pub rows_in-at-requires : goal.rows_in-at-requires
rows_in-at-requires c =
    let within = rows_within c.args.dirs.now c.loop-place.place c.at-dir.result (omega arith) (c.at-dir.ensures c.at-dir.result) in
    let whole = c.requires.whole in
    omega (arith, within, whole, c.count_of-count.ensures, c.count_of-count.type_inv, length-map c.at-dir.result.entries (entry_row c.at-dir.result.path))

pub overflow_add-at : goal.overflow_add-at
overflow_add-at c =
    let within = rows_within c.args.dirs.now c.loop-place.place c.at-dir.result (omega arith) (c.at-dir.ensures c.at-dir.result) in
    let at = c.loop-place.invariant.at in
    let whole = c.requires.whole in
    omega (arith, within, at, whole, c.rows_in-at.ensures, c.count_of-count.ensures, c.count_of-count.type_inv)

pub loop-place-preserved : goal.loop-place-preserved
loop-place-preserved c =
    let l = c.loop-place in
    let more = lines_taken c.args.dirs.now l.place l.at c.rows_in-at.result c.at-dir.result c.args.places.now l.lines.items c.push_lines.new.lines.items (omega arith) (c.at-dir.ensures c.at-dir.result)
    l.invariant.at c.rows_in-at.ensures l.invariant.lines c.in_ok-push_lines.ensures in
    record { at = more.0; lines = more.1 }
