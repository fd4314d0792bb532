use Rattle.std.proofs.Common.{◌∙◌, ◌++◌, List, take, drop, ap}
use Rattle.std.proofs.lemmas.List.Elements.{All-append, All-take, All-drop}
use Rattle.gufi_tree.specs.declared.dirs.Place.{Place}
use Rattle.gufi_tree.specs.Bundled.{lists_of, directories_at, Stands}
use Rattle.gufi_tree.specs.Tree.{Directory}
use Rattle.gufi_tree.proofs.Bundled.{directories-put}
use Rattle.gufi_tree.proofs.dirs.Dirs.put_in_place.Goals as goal

pub invariant_of-self : goal.invariant_of-self
invariant_of-self c =
    let lists = lists_of c.self.inside.bundles.items c.self.inside.last in
    let places = c.self.inside.places.items in
    let all = c.self.invariant in
    rw (c.in_ok-self-inside.ensures, c.as_slice.ensures.value)
    (All-append (Stands lists) _ _ (All-take (Stands lists) c.args.at places all)
    (All-append (Stands lists) _ _ (All-drop (Stands lists) c.args.from places all) (All-drop (Stands lists) c.args.at _ (All-take (Stands lists) c.args.from places all))))

pub returns : goal.returns
returns c =
    let lists = lists_of c.self.inside.bundles.items c.self.inside.last in
    ap (directories_at lists) c.in_ok-self-inside.ensures
    ∙ ap (λ (ps : List Place). directories_at lists (take c.args.at ps ++ (drop c.args.from ps ++ drop c.args.at (take c.args.from ps)))) c.as_slice.ensures.value
    ∙ directories-put lists c.self.inside.places.items c.args.at c.args.from
    ∙ ap (λ (ds : List Directory). take c.args.at ds ++ (drop c.args.from ds ++ drop c.args.at (take c.args.from ds))) c.self.view_is
