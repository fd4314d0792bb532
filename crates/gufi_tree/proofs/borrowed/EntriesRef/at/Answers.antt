use Rattle.std.proofs.Common.{◌<◌, ◌∙◌, List, get_or, length, sym, ap, subst, arith}
use Rattle.std.proofs.lemmas.List.{get_or-map, length-map}
use Rattle.gufi_tree.specs.declared.bundle.Packed.{Packed}
use Rattle.gufi_tree.specs.declared.tree.Entry.{Entry}
use Rattle.gufi_tree.specs.Bundles.{entry_in, IsPacked}
use Rattle.gufi_tree.specs.Rows.{packed_row}
use Rattle.gufi_tree.proofs.borrowed.EntriesRef.at.Goals as goal

pub of-requires : goal.of-requires
of-requires c =
    let row : Packed = packed_row c.at.result.0 c.at.result.1.now in
    let within : c.args.place < length c.self.inside.rows = omega (arith, c.requires, ap length c.self.view_is, length-map c.self.inside.rows (entry_in c.self.inside.text.now)) in
    subst (IsPacked c.self.inside.text.now) (sym (c.at.ensures row)) (c.self.invariant.0 c.args.place row within)

pub returns : goal.returns
returns c = λ e.
    let text = c.self.inside.text.now in
    let row : Packed = packed_row c.at.result.0 c.at.result.1.now in
    let within : c.args.place < length c.self.inside.rows = omega (arith, c.requires, ap length c.self.view_is, length-map c.self.inside.rows (entry_in text)) in
    c.of.ensures ∙ ap (entry_in text) (c.at.ensures row) ∙ sym (get_or-map (entry_in text) c.self.inside.rows c.args.place row e within) ∙ ap (λ (es : List Entry). get_or es c.args.place e) c.self.view_is
