use Rattle.std.proofs.Common.{◌≡◌, ◌∙◌, ◌++◌, ◌∷◌, [], List, sym, ap, subst}
use Rattle.gufi_base.specs.Paths.{Components}
use Rattle.gufi_base.specs.PathTexts.{names, IsText}
use Rattle.gufi_base.proofs.Names.{IsText-kept_text, names-kept_text}
use Rattle.gufi_base.specs.declared.record.Rec.{Rec}
use Rattle.gufi_tree.specs.declared.tree.Entry.{Entry}
use Rattle.gufi_tree.specs.Packs.{Placed, entries_of}
use Rattle.gufi_tree.proofs.graft.push_below.Goals as goal

pub of_text-joined-requires : goal.of_text-joined-requires
of_text-joined-requires c =
    subst IsText (sym (c.as_slice.ensures.value ∙ c.in_ok-join_paths.ensures.text)) (IsText-kept_text (c.args.path.now ++ c.path.result) c.join_paths.ensures.names)

pub returns : goal.returns
returns c =
    let p : Components = c.args.path.now in
    let path : c.of_text-joined.result ≡ p ++ (c.args.dir.now).path =
    c.of_text-joined.ensures ∙ ap names (c.as_slice.ensures.value ∙ c.in_ok-join_paths.ensures.text) ∙ names-kept_text (p ++ c.path.result) c.join_paths.ensures.names
    ∙ ap (λ (q : Components). p ++ q) c.path.ensures in
    let es : entries_of c.push_entries.new.pending ≡ (c.args.dir.now).entries =
    c.in_ok-push_entries.ensures ∙ ap (λ (ps : List Placed). entries_of ps ++ c.entries.result) c.clear.ensures ∙ c.entries.ensures in
    c.in_ok-close.ensures.closed
    ∙ ap (λ (q : Components). c.args.dirs.now ++ record { path = q; rec = c.rec.result; entries = entries_of c.push_entries.new.pending } ∷ []) path
    ∙ ap (λ (rec : Rec). c.args.dirs.now ++ record { path = p ++ (c.args.dir.now).path; rec = rec; entries = entries_of c.push_entries.new.pending } ∷ []) c.rec.ensures
    ∙ ap (λ (es : List Entry). c.args.dirs.now ++ record { path = p ++ (c.args.dir.now).path; rec = (c.args.dir.now).rec; entries = es } ∷ []) es
