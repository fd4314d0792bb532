use Rattle.std.proofs.Common.{◌≡◌, ◌∙◌, ◌++◌, List, take, drop, map, sym, ap, ap₂}
use Rattle.std.proofs.lemmas.List.{take-map, drop-map, take_rest}
use Rattle.std.proofs.lemmas.List.Elements.{All-take, All-drop}
use Rattle.std.proofs.lemmas.Result.{IfOk-weaker}
use Rattle.gufi_tree.specs.Bundled.{lists_of, directory_at, Stands}
use Rattle.gufi_tree.specs.Tree.{Directory}
use Rattle.gufi_tree.proofs.dirs.Dirs.outside.Goals as goal

pub gather-requires-clause-front : goal.gather-requires-clause-front
gather-requires-clause-front c =
    let s = c.self.inside in
    rw (c.as_slice-bundles.ensures.value, c.as_slice-places.ensures.value) (All-take (Stands (lists_of s.bundles.items s.last)) c.args.at s.places.items c.self.invariant)

pub gather-requires-clause-back : goal.gather-requires-clause-back
gather-requires-clause-back c =
    let s = c.self.inside in
    let all = Stands (lists_of s.bundles.items s.last) in
    rw (c.as_slice-bundles.ensures.value, c.as_slice-places.ensures.value) (All-take all _ _ (All-drop all c.args.end s.places.items c.self.invariant))

pub returns : goal.returns
returns c =
    let s = c.self.inside in
    let f = directory_at (lists_of s.bundles.items s.last) in
    let gathered = rw (c.as_slice-bundles.ensures.value, c.as_slice-places.ensures.value) at c.gather.ensures in
    IfOk-weaker c.gather.result _ _ (λ rest is. is ∙ ap₂ (λ (front back : List Directory). front ++ back)
    (sym (take-map f c.args.at s.places.items) ∙ ap (take c.args.at) c.self.view_is)
    (ap (map f) (take_rest s.places.items c.args.end) ∙ sym (drop-map f c.args.end s.places.items) ∙ ap (drop c.args.end) c.self.view_is)) gathered
