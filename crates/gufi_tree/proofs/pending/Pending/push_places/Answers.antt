use Rattle.std.proofs.Common.{ℕ, List, ◌∙◌, ◌++◌, map, ap, arith}
use Rattle.std.proofs.lemmas.List.{take_all}
use Rattle.gufi_tree.specs.declared.pending.PlacedRow.{PlacedRow}
use Rattle.gufi_tree.specs.Packs.{places_of}
use Rattle.gufi_tree.proofs.Waiting.{places_are}
use Rattle.gufi_tree.proofs.pending.Pending.push_places.Goals as goal

pub returns : goal.returns
returns c =
    let i = c.self.inside in
    let rows = c.as_slice-row-items.result.now in
    c.loop-row.invariant
    ∙ ap (λ (ns : List ℕ). c.args.places.now.items ++ ns)
    (ap (map (λ (r : PlacedRow). r.place)) (take_all c.loop-row.row-index rows (omega arith) ∙ c.as_slice-row-items.ensures.value) ∙ places_are i.text.items i.rows.items ∙ ap places_of c.self.view_is)
