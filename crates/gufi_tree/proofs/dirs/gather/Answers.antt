use Rattle.std.proofs.Common.{◌≡◌, ◌∙◌, ◌++◌, [], List, ap}
use Rattle.gufi_tree.specs.declared.dirs.Place.{Place}
use Rattle.gufi_tree.specs.Bundled.{lists_of, directories_at}
use Rattle.gufi_tree.specs.Tree.{Directory}
use Rattle.gufi_tree.proofs.Bundled.{share-kept, taken_share}
use Rattle.gufi_tree.proofs.dirs.gather.Goals as goal

pub push_again-requires-clause-share : goal.push_again-requires-clause-share
push_again-requires-clause-share c = rw c.as_slice.ensures.value (taken_share _ _ _ _ _ c.requires.taken)

pub push_again-requires-2-clause-share : goal.push_again-requires-2-clause-share
push_again-requires-2-clause-share c = rw c.as_slice-2.ensures.value (share-kept _ _ _ _ (taken_share _ _ _ _ _ c.requires.taken) c.push_again.ensures.keep)

pub returns : goal.returns
returns c =
    let from = lists_of c.args.from.now c.args.from_last.now in
    c.in_ok-push_again-2.ensures.pushed
    ∙ ap (λ (ds : List Directory). ds ++ directories_at from c.args.back.now)
    (c.in_ok-push_again.ensures.pushed ∙ ap (λ (ps : List Place). directories_at (lists_of c.args.taken.bundles.items c.new-last.result) ps ++ directories_at from c.args.front.now) c.in_ok-places.ensures.items)
