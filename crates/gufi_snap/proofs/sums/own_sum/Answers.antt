use Rattle.std.proofs.Common.{List, [], ◌∷◌, map, ap, ◌∙◌, subst}
use Rattle.gufi_base.specs.declared.record.Rec.{Rec}
use Rattle.gufi_base.specs.declared.record.Row.{Row}
use Rattle.gufi_tree.specs.declared.tree.Entry.{Entry}
use Rattle.gufi_tree.specs.Tree.{dir_row, entry_row}
use Rattle.gufi_sums.specs.Total.{IsTotal}
use Rattle.gufi_snap.proofs.Growing.{total_more, total_nothing}
use Rattle.gufi_snap.proofs.sums.own_sum.Goals as goal

pub returns : goal.returns
returns c =
    let d = c.args.dir.now in
    let row : Row = dir_row d in
    subst (λ (es : List Entry). IsTotal c.add_entries.new.sum (row ∷ map (entry_row d.path) es)) c.entries.ensures
    (c.add_entries.ensures d.path (row ∷ [])
    (total_more c.empty-sum.result c.add.new.self c.meta.result.now [] row (total_nothing c.empty-sum.result c.empty-sum.ensures.sum c.empty-sum.ensures.bounded) c.add.ensures.sum
    (c.meta.ensures ∙ ap (λ (r : Rec). r.meta) c.rec.ensures) c.add.ensures.bounded))
