use Rattle.std.proofs.Common.{ℕ, ◌+◌, ◌-◌, ◌||◌, ltb, length, ◌∙◌, sym, ap}
use Rattle.gufi_tree.specs.Graft.{is_over}
use Rattle.gufi_tree.proofs.TooLong.{found_with_room, found_without}
use Rattle.gufi_tree.proofs.too_long.directory_has_long_row.Goals as goal

pub returns-then-has_room : goal.returns-then-has_room
returns-then-has_room c =
    c.has_name_over.ensures
    ∙ found_with_room c.args.above.now c.args.dir.now c.path-path.result c.entries-entries.result c.text.result.now c.text-2.result.now c.path-path.ensures c.entries-entries.ensures c.text.ensures.text c.text-2.ensures.text
    (sym c.has_room.ensures ∙ c.if-has_room.true)

pub returns : goal.returns
returns c =
    let bytes = length c.text.result.now + length c.text-2.result.now - 2 in
    c.is_any_over.ensures
    ∙ ap (λ (n : ℕ). is_over n bytes || ltb 0 (length c.entries-entries.result)) c.names_below-names.ensures
    ∙ found_without c.args.above.now c.args.dir.now c.path-path.result c.entries-entries.result c.text.result.now c.text-2.result.now c.path-path.ensures c.entries-entries.ensures c.text.ensures.text c.text-2.ensures.text
    (sym c.has_room.ensures ∙ c.if-has_room.false)
