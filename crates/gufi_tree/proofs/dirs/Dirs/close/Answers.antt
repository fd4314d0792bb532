use Rattle.std.proofs.Common.{◌∙◌, [], ◌∷◌, ◌++◌, List, ap}
use Rattle.std.specs.Prelude.{Result, Ok, Err, OnErr}
use Rattle.std.proofs.lemmas.List.Elements.{All-push}
use Rattle.gufi_tree.specs.Packs.{entries_of}
use Rattle.gufi_tree.specs.Tree.{Directory}
use Rattle.gufi_tree.specs.Bundled.{directories_at, lists_of, Stands}
use Rattle.gufi_tree.proofs.Bundled.{directories-kept, directories-push, stand-kept}
use Rattle.gufi_tree.proofs.dirs.Dirs.close.Goals as goal

pub invariant_of-self-2 : goal.invariant_of-self-2
invariant_of-self-2 c =
    let after = lists_of c.pack.new.bundles.items c.pack.new.last in
    rw c.in_ok-push.ensures.items
    (All-push (Stands after) c.self.inside.places.items c.in_ok-place.place (stand-kept _ after c.pack.ensures.keep c.self.inside.places.items c.self.invariant) c.in_ok-place.ensures.stands)

pub returns-clause-closed : goal.returns-clause-closed
returns-clause-closed c =
    let after = lists_of c.pack.new.bundles.items c.pack.new.last in
    let dir : Directory = record { path = c.args.path.now; rec = c.args.rec.now; entries = entries_of c.args.entries.now } in
    ap (directories_at after) c.in_ok-push.ensures.items
    ∙ directories-push _ after c.pack.ensures.keep c.self.inside.places.items c.self.invariant c.in_ok-place.place dir c.in_ok-place.ensures.directory
    ∙ ap (λ (ds : List Directory). ds ++ dir ∷ []) c.self.view_is

always : {A E : Type 0} (r : Result A E) (P : Type 0) → P → OnErr r P
always (Ok x) P h = tt
always (Err e) P h = h

pub returns-in_err-place-clause-unchanged : goal.returns-in_err-place-clause-unchanged
returns-in_err-place-clause-unchanged c =
    always _ _ (directories-kept _ (lists_of c.pack.new.bundles.items c.pack.new.last) c.pack.ensures.keep c.self.inside.places.items c.self.invariant ∙ c.self.view_is)

pub returns-in_err-push-clause-unchanged : goal.returns-in_err-push-clause-unchanged
returns-in_err-push-clause-unchanged c =
    let after = lists_of c.pack.new.bundles.items c.pack.new.last in
    always _ _ (ap (directories_at after) c.in_err-push.ensures.items ∙ directories-kept _ after c.pack.ensures.keep c.self.inside.places.items c.self.invariant ∙ c.self.view_is)
