use Rattle.std.proofs.Common.{◌≡◌, ◌<◌, List, length, sym, ◌∙◌, ap, subst}
use Rattle.gufi_tree.specs.Tree.{Directory}
use Rattle.gufi_tree.specs.Places.{path_at}
use Rattle.gufi_tree.proofs.Below.{below_dirs}
use Rattle.gufi_snap.proofs.Spliced.{range_fits, place_fits, sums_made}
use Rattle.gufi_snap.proofs.contents.Contents.refreshed.Goals as goal

pub spliced-requires-clause-within : goal.spliced-requires-clause-within
spliced-requires-clause-within c =
    let k = c.args.at.0 in
    let within : k < length c.self.inside.tree = subst (λ (t : List Directory). k < length t) (sym c.self.view_is) c.requires.within in
    let counted : c.args.count ≡ length (below_dirs c.self.inside.tree (path_at c.self.inside.tree k)) = c.requires.count ∙ ap (λ (t : List Directory). length (below_dirs t (path_at t k))) (sym c.self.view_is) in
    range_fits c.self.inside.tree c.part.inside.tree k c.args.count c.in-Some-Some.sums c.in-Some-Some.others (c.self.invariant.kept _ c.in-Some-Some.is-0) (c.part.invariant.kept _ c.in-Some-Some.is-1) within counted

pub add_above-requires-clause-id : goal.add_above-requires-clause-id
add_above-requires-clause-id c =
    let k = c.args.at.0 in
    let within : k < length c.self.inside.tree = subst (λ (t : List Directory). k < length t) (sym c.self.view_is) c.requires.within in
    let counted : c.args.count ≡ length (below_dirs c.self.inside.tree (path_at c.self.inside.tree k)) = c.requires.count ∙ ap (λ (t : List Directory). length (below_dirs t (path_at t k))) (sym c.self.view_is) in
    place_fits c.self.inside.tree c.part.inside.tree k c.args.count c.in-Some-Some.sums c.in-Some-Some.others (c.self.invariant.kept _ c.in-Some-Some.is-0) (c.part.invariant.kept _ c.in-Some-Some.is-1) within counted c.in_ok-tree.tree c.in_ok-tree.ensures

pub add_above-requires-clause-sums : goal.add_above-requires-clause-sums
add_above-requires-clause-sums c =
    let k = c.args.at.0 in
    let within : k < length c.self.inside.tree = subst (λ (t : List Directory). k < length t) (sym c.self.view_is) c.requires.within in
    let counted : c.args.count ≡ length (below_dirs c.self.inside.tree (path_at c.self.inside.tree k)) = c.requires.count ∙ ap (λ (t : List Directory). length (below_dirs t (path_at t k))) (sym c.self.view_is) in
    sums_made c.self.inside.tree c.part.inside.tree k c.args.count c.in-Some-Some.sums c.in-Some-Some.others (c.self.invariant.kept _ c.in-Some-Some.is-0) (c.part.invariant.kept _ c.in-Some-Some.is-1) within counted c.in_ok-tree.tree c.in_ok-tree.ensures c.in_ok-sums.sums c.in_ok-sums.ensures
