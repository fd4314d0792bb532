use Rattle.std.proofs.Common.{List, ◌++◌, drop, sym, ap, ◌∙◌, arith}
use Rattle.std.proofs.lemmas.List.{append-nil}
use Rattle.gufi_base.specs.declared.record.Line.{Line}
use Rattle.gufi_tree.proofs.Kept.{next_line}
use Rattle.gufi_tree.proofs.Numbered.{zip_none}
use Rattle.gufi_tree.proofs.stanzas.push_entry_lines.Goals as goal

pub loop-place-init : goal.loop-place-init
loop-place-init c =
    let lines = c.args.lines.now.items in
    sym (ap (λ (ls : List Line). lines ++ ls) (zip_none (drop c.args.at c.args.places.now)) ∙ append-nil lines)

pub loop-place-preserved : goal.loop-place-preserved
loop-place-preserved c =
    let l = c.loop-place in
    next_line c.args.lines.now.items l.lines.items c.push_entry_line.new.lines.items c.args.places.now c.args.at l.place c.args.path.now c.args.entries.now c.at.result
    l.invariant (let a = c.requires.within in omega arith) (omega arith) (c.at.ensures c.at.result) c.in_ok-push_entry_line.ensures
