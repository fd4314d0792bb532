use Rattle.std.proofs.Common.{◌≡◌, true, [], ◌∷◌, ◌++◌, sym, ◌∙◌}
use Rattle.gufi_base.specs.Paths.{Components, base_name}
use Rattle.gufi_base.proofs.Children.{child_of}
use Rattle.gufi_base.proofs.RowParts.{base_name_push}
use Rattle.gufi_tree.specs.StanzaLines.{stanza_holds}
use Rattle.gufi_line.proofs.SoundLines.{placed_entry}
use Rattle.gufi_line.proofs.quick.add_entry.Goals as goal

pub push_entry-requires-clause-place : goal.push_entry-requires-clause-place
push_entry-requires-clause-place c =
    let parent = c.in-Some.parent.now in
    let name = c.in-Some-child_name.name.now in
    let path : Components = parent ++ name ∷ [] in
    (path, c.in-Some.ensures path ∙ child_of parent name, base_name_push parent name)

pub returns : goal.returns
returns c =
    let parent = c.in-Some.parent.now in
    let name = c.in-Some-child_name.name.now in
    let path : Components = parent ++ name ∷ [] in
    let holds : stanza_holds c.args.lines.now path ≡ true = c.in-Some.ensures path ∙ child_of parent name in
    let named : base_name path ≡ name = base_name_push parent name in
    let taken = c.in_ok-push_entry.ensures path holds named in
    (path, placed_entry c.args.root.now c.args.lines.now _ c.args.content.now.path.now path c.in-Some-child_name.ensures.1 holds c.requires (sym c.has_max_entries.ensures ∙ c.if-has_max_entries.false), rw c.of-rec.ensures at taken)
