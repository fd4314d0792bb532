use Rattle.std.proofs.Common.{◌+◌, ◌∷◌, length, sym, ap, ◌∙◌}
use Rattle.gufi_base.specs.declared.record.Line.{Line}
use Rattle.gufi_base.specs.declared.record.Rec.{Rec}
use Rattle.gufi_tree.specs.StanzaLines.{stanza_holds}
use Rattle.gufi_line.proofs.Counts.{dir_room, entry_room, root_apart, line_as}
use Rattle.gufi_line.proofs.lines.Lines.push.Goals as goal

pub push_dir-requires-clause-room : goal.push_dir-requires-clause-room
push_dir-requires-clause-room c = dir_room c.args.self.now _ _ c.requires.placed (sym c.is_dir.ensures ∙ c.if-is_dir.true)

pub unreachable-requires : goal.unreachable-requires
unreachable-requires c =
    let fits = entry_room c.args.self.now _ _ c.requires.placed (sym c.is_dir.ensures ∙ c.if-is_dir.false) in
    root_apart c.args.self.now (ap (stanza_holds c.args.self.now) (sym c.in_default.ensures) ∙ fits.0)

pub push_entry-requires-clause-room : goal.push_entry-requires-clause-room
push_entry-requires-clause-room c = (entry_room c.args.self.now _ _ c.requires.placed (sym c.is_dir.ensures ∙ c.if-is_dir.false)).1

pub push_entry-requires-clause-place : goal.push_entry-requires-clause-place
push_entry-requires-clause-place c =
    let fits = entry_room c.args.self.now _ _ c.requires.placed (sym c.is_dir.ensures ∙ c.if-is_dir.false) in
    (c.args.line.path, fits.0, sym (c.as_slice.ensures.value ∙ c.in-Some.ensures.1))

pub returns : goal.returns
returns c =
    let fits = entry_room c.args.self.now _ _ c.requires.placed (sym c.is_dir.ensures ∙ c.if-is_dir.false) in
    c.in_ok-push_entry.ensures c.args.line.path fits.0 (sym (c.as_slice.ensures.value ∙ c.in-Some.ensures.1))
    ∙ ap (λ (r : Rec). record { number = length c.args.self.now + 1; path = c.args.line.path; rec = r } ∷ c.args.self.now) c.as_rec_ref.ensures
    ∙ ap (λ (l : Line). l ∷ c.args.self.now) (line_as c.args.line _ c.requires.number)
