use Rattle.std.proofs.Common.{◌≡◌, ◌∙◌, ◌++◌, List, ap}
use Rattle.std.proofs.lemmas.Result.{IfOk-weaker}
use Rattle.gufi_tree.specs.Packs.{Placed, entries_of}
use Rattle.gufi_tree.specs.Tree.{Directory}
use Rattle.gufi_tree.proofs.outside.copy_dir.Goals as goal

pub returns-clause-directory : goal.returns-clause-directory
returns-clause-directory c =
    let es : entries_of c.push_entries.new.pending ≡ (c.args.dir.now).entries =
    c.in_ok-push_entries.ensures ∙ ap (λ (ps : List Placed). entries_of ps ++ c.entries-entries.result) c.in_ok-pending.ensures ∙ c.entries-entries.ensures in
    let same : record { path = c.path.result; rec = c.rec.result; entries = entries_of c.push_entries.new.pending } ≡ c.args.dir.now =
    (λ i. record { path = c.path.ensures i; rec = c.rec.ensures i; entries = es i }) in
    IfOk-weaker c.pack.result _ _ (λ place is. is ∙ same) c.pack.ensures.directory
