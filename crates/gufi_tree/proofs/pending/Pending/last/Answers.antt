use Rattle.std.proofs.Common.{◌≡◌, ◌∙◌, ◌-◌, List, Some, ap, length, subst}
use Rattle.std.specs.Prelude.{slice_get}
use Rattle.gufi_tree.specs.declared.pending.PlacedRow.{PlacedRow}
use Rattle.gufi_tree.specs.declared.tree.Entry.{Entry}
use Rattle.gufi_tree.specs.Bundles.{entry_in}
use Rattle.gufi_tree.specs.declared.rows.Spot.{Spot}
use Rattle.gufi_tree.specs.Packs.{last_entry}
use Rattle.gufi_tree.specs.Rows.{packed_row}
use Rattle.gufi_tree.proofs.Waiting.{last_placed}
use Rattle.gufi_tree.proofs.pending.Pending.last.Goals as goal

pub returns-in-Some : goal.returns-in-Some
returns-in-Some c =
    let row = c.in-Some.row.now in
    let i = c.self.inside in
    let there : Some row ≡ slice_get i.rows.items (length i.rows.items - 1) = subst (λ (rows : List PlacedRow). Some row ≡ slice_get rows (length rows - 1)) c.deref.ensures.value c.in-Some.ensures.value in
    let spot : c.of.result ≡ entry_in c.as_slice.result.now row.packed = c.of.ensures ∙ ap (λ (s : Spot). entry_in c.as_slice.result.now (packed_row s row.packed.meta)) c.spot.ensures in
    ap (λ (e : Entry). Some e) (spot ∙ ap (λ text. entry_in text row.packed) c.as_slice.ensures.value) ∙ last_placed i.text.items i.rows.items row there ∙ ap last_entry c.self.view_is
