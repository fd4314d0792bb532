use Rattle.std.proofs.Common.{◌≡◌, ◌∙◌, [], List, Global, ap, subst}
use Rattle.std.specs.declared.sync.Arc.{Arc}
use Rattle.gufi_tree.specs.Packs.{entries_of}
use Rattle.gufi_tree.specs.Tree.{Directory}
use Rattle.gufi_tree.specs.Bundled.{directory_at, lists_of, Keep, Stands}
use Rattle.gufi_tree.proofs.Bundled.{Keep-trans}
use Rattle.gufi_tree.proofs.dirs.pack.Goals as goal

pub returns-clause-keep : goal.returns-clause-keep
returns-clause-keep c =
    Keep-trans _ (lists_of c.args.bundles.now.items c.push_last.new.last) _
    (subst (λ (bundles : List (Arc (List Directory) Global)). Keep (lists_of bundles c.args.last.now) (lists_of bundles c.push_last.new.last)) c.as_slice.ensures.value c.push_last.ensures.keep) c.make_room.ensures

pub returns-clause-stands : goal.returns-clause-stands
returns-clause-stands c =
    c.make_room.ensures.stand c.in_ok-place.place
    (subst (λ (bundles : List (Arc (List Directory) Global)). Stands (lists_of bundles c.push_last.new.last) c.in_ok-place.place) c.as_slice.ensures.value c.in_ok-place.ensures.stands)

pub returns-clause-directory : goal.returns-clause-directory
returns-clause-directory c =
    let dir : Directory = record { path = c.args.path.now; rec = c.args.rec.now; entries = entries_of c.args.entries.now } in
    c.make_room.ensures.same c.in_ok-place.place
    (subst (λ (bundles : List (Arc (List Directory) Global)). Stands (lists_of bundles c.push_last.new.last) c.in_ok-place.place) c.as_slice.ensures.value c.in_ok-place.ensures.stands)
    ∙ subst (λ (bundles : List (Arc (List Directory) Global)). directory_at (lists_of bundles c.push_last.new.last) c.in_ok-place.place ≡ dir) c.as_slice.ensures.value c.in_ok-place.ensures.directory
