use Rattle.std.proofs.Common.{◌∙◌, List, ap, sym, subst, arith}
use Rattle.std.specs.Prelude.{All}
use Rattle.std.proofs.lemmas.List.{append-nil, get_or_default}
use Rattle.std.proofs.lemmas.List.Elements.{All-push}
use Rattle.gufi_tree.specs.declared.dirs.Place.{Place}
use Rattle.gufi_tree.specs.Bundled.{lists_of, directories_at, Stands}
use Rattle.gufi_tree.proofs.Bundled.{Keep-refl, Keep-trans, place_pushed, share-kept, stand-kept}
use Rattle.gufi_tree.proofs.outside.push_again.Goals as goal

pub place_again-requires-clause-share : goal.place_again-requires-clause-share
place_again-requires-clause-share c = share-kept _ _ _ _ c.requires.share c.loop-place.invariant.keep

pub loop-place-init : goal.loop-place-init
loop-place-init c = record { keep = Keep-refl _; stand = c.requires.stand; pushed = sym (append-nil _) }

pub loop-place-preserved : goal.loop-place-preserved
loop-place-preserved c =
    let l = c.loop-place in
    let now = lists_of l.bundles.items l.last in
    let after = lists_of c.place_again.new.bundles.items c.place_again.new.last in
    record {
      keep = Keep-trans _ _ _ l.invariant.keep c.place_again.ensures.keep;
      stand = rw c.in_ok-push.ensures.items (All-push (Stands after) l.places.items c.in_ok-again.again (stand-kept now after c.place_again.ensures.keep l.places.items l.invariant.stand) c.in_ok-again.ensures.stands);
      pushed = ap (directories_at after) c.in_ok-push.ensures.items
          ∙ place_pushed _ _ now after c.args.places.now.items l.places.items c.args.some.now l.place-index _ c.in_ok-again.again (omega arith) (get_or_default c.args.some.now l.place-index _ _ (omega arith)) c.place_again.ensures.keep l.invariant.stand l.invariant.pushed c.in_ok-again.ensures.same;
    }
