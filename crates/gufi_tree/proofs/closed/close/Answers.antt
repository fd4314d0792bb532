use Rattle.std.proofs.Common.{ℕ, List, [], ◌∷◌, ◌++◌, refl, ap, ◌∙◌, append_assoc}
use Rattle.std.proofs.lemmas.Result.{on_ok_weaker}
use Rattle.gufi_tree.specs.Packs.{entries_of, places_of, Packs}
use Rattle.gufi_tree.specs.Tree.{Directory}
use Rattle.gufi_tree.proofs.closed.close.Goals as goal

pub returns-clause-ended : goal.returns-clause-ended
returns-clause-ended c =
    let own = c.order-distinct.new.self.pending in
    let dir : Directory = record { path = c.as_path_ref.result; rec = c.as_rec_ref.result; entries = entries_of own } in
    on_ok_weaker c.close.result (λ e. record {
      own = own;
      dir = dir;
      moved = c.order-distinct.ensures.order;
      dirs = ap (λ (p : Packs). p.dirs) e ∙ ap (λ (ds : List Directory). ds ++ dir ∷ []) c.order-distinct.ensures.dirs;
      path = c.as_path_ref.ensures;
      rec = c.as_rec_ref.ensures;
      taken = refl;
      places = c.in_ok-push_places.ensures ∙ ap (λ (ns : List ℕ). ns ++ places_of own) c.in_ok-push.ensures.items ∙ append_assoc c.args.closing.now.places.items (c.args.begun.place ∷ []) (places_of own);
      before_apart = c.still_distinct-closing.ensures.before;
      apart = λ yes. c.order-distinct.ensures.distinct (c.still_distinct-closing.ensures.now yes);
    }) c.close.ensures
