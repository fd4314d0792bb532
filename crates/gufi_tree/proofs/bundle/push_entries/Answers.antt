use Rattle.std.proofs.Common.{◌≡◌, ◌∙◌, ◌++◌, ℕ, List, length, map, take, ap, subst, arith}
use Rattle.std.proofs.lemmas.Result.{on_ok_weaker}
use Rattle.gufi_tree.specs.declared.pending.PlacedRow.{PlacedRow}
use Rattle.gufi_tree.specs.Bundles.{entries_in}
use Rattle.gufi_tree.specs.Packs.{entries_of, shifted_row, Placed}
use Rattle.gufi_tree.proofs.Waiting.{entries_in-more, GoesOn-shifted}
use Rattle.gufi_tree.proofs.bundle.push_entries.Goals as goal

pub returns-clause-goes_on : goal.returns-clause-goes_on
returns-clause-goes_on c =
    let i = c.entries.inside in
    let text = c.args.text.now.items in
    let rows = c.args.rows.now in
    let base = c.in_ok-base.base in
    let behind : base ≡ length text = omega (arith, c.in_ok-base.ensures.1) in
    let is : c.extend_from_slice.new.self.items ≡ text ++ i.text.items = c.in_ok-extend_from_slice.ensures.items ∙ ap (λ (t : List ℕ). text ++ t) c.as_slice.ensures.value in
    let some : (count : ℕ) × (c.push_rows.new.self ≡ rows ++ map (shifted_row base) (take count i.rows.items)) =
    subst (λ (es : List PlacedRow). (count : ℕ) × (c.push_rows.new.self ≡ rows ++ map (shifted_row base) (take count es))) c.as_slice-2.ensures.value c.push_rows.ensures.some in
    GoesOn-shifted text i.text.items c.extend_from_slice.new.self.items base behind is rows c.push_rows.new.self i.rows.items c.requires c.entries.invariant some

pub returns-clause-entries : goal.returns-clause-entries
returns-clause-entries c =
    let i = c.entries.inside in
    let text = c.args.text.now.items in
    let rows = c.args.rows.now in
    let base = c.in_ok-base.base in
    let behind : base ≡ length text = omega (arith, c.in_ok-base.ensures.1) in
    let is : c.extend_from_slice.new.self.items ≡ text ++ i.text.items = c.in_ok-extend_from_slice.ensures.items ∙ ap (λ (t : List ℕ). text ++ t) c.as_slice.ensures.value in
    on_ok_weaker c.push_rows.result
    (λ all. entries_in-more text i.text.items c.extend_from_slice.new.self.items base behind is rows c.push_rows.new.self i.rows.items c.requires
    (all ∙ ap (λ (es : List PlacedRow). rows ++ map (shifted_row base) es) c.as_slice-2.ensures.value) ∙ ap (λ (ps : List Placed). entries_in text rows ++ entries_of ps) c.entries.view_is)
    c.push_rows.ensures.all
