use Rattle.std.proofs.Common.{List, Ok, sym, ap, ◌∙◌, subst, arith}
use Rattle.std.proofs.lemmas.List.{length-map}
use Rattle.std.proofs.lemmas.List.Sorted.{length_permutation}
use Rattle.std.specs.Option.{IfSome}
use Rattle.gufi_tree.specs.declared.lines.Ordered.{Ordered}
use Rattle.gufi_tree.specs.Shape.{IsOrdered}
use Rattle.gufi_tree.specs.Gathered.{row_of_line}
use Rattle.gufi_tree.specs.Tree.{Directory}
use Rattle.gufi_tree.proofs.Ended.{whole_few, whole_rows, ordered_count, ordered_tree}
use Rattle.gufi_tree.proofs.Kept.{dirs_few}
use Rattle.gufi_tree.proofs.lines.build_stanzas.Goals as goal

pub order_closed-requires-clause-few : goal.order_closed-requires-clause-few
order_closed-requires-clause-few c =
    let closed = c.in_ok-closed.closed in
    let few = dirs_few closed.dirs in
    let rows = length_permutation _ _ (whole_rows c.args.stanzas closed.dirs closed.places.items closed.distinct c.in_ok-closed.ensures) in
    let b = length-map c.args.stanzas row_of_line in
    let d = c.requires in
    omega arith

pub with_parents-requires-clause-few : goal.with_parents-requires-clause-few
with_parents-requires-clause-few c =
    let closed = c.in_ok-closed.closed in
    let o : IsOrdered closed.dirs c.in-Some.found.dirs c.in-Some.found.parents.items =
    subst (λ x. IfSome x (λ (ordered : Ordered). IsOrdered closed.dirs ordered.dirs ordered.parents.items)) c.in-Some.is c.in_ok-found.ensures in
    let few = dirs_few c.in-Some.found.dirs in
    let rows = ordered_count c.args.stanzas closed.dirs closed.places.items closed.distinct c.in_ok-closed.ensures c.in-Some.found.dirs c.in-Some.found.parents.items o in
    let d = c.requires in
    omega arith

pub with_parents-requires-clause-rows : goal.with_parents-requires-clause-rows
with_parents-requires-clause-rows c =
    let closed = c.in_ok-closed.closed in
    let o : IsOrdered closed.dirs c.in-Some.found.dirs c.in-Some.found.parents.items =
    subst (λ x. IfSome x (λ (ordered : Ordered). IsOrdered closed.dirs ordered.dirs ordered.parents.items)) c.in-Some.is c.in_ok-found.ensures in
    let rows = ordered_count c.args.stanzas closed.dirs closed.places.items closed.distinct c.in_ok-closed.ensures c.in-Some.found.dirs c.in-Some.found.parents.items o in
    let d = c.requires in
    omega arith

pub returns-in-Some : goal.returns-in-Some
returns-in-Some c =
    let closed = c.in_ok-closed.closed in
    let o : IsOrdered closed.dirs c.in-Some.found.dirs c.in-Some.found.parents.items =
    subst (λ x. IfSome x (λ (ordered : Ordered). IsOrdered closed.dirs ordered.dirs ordered.parents.items)) c.in-Some.is c.in_ok-found.ensures in
    ordered_tree c.args.stanzas closed.dirs closed.places.items closed.distinct c.in_ok-closed.ensures c.in-Some.found.dirs c.in-Some.found.parents.items o
    ∙ ap (λ (t : List Directory). Ok t) (sym c.in_ok-with_parents-in-Some.ensures)

pub lines-requires-clause-few : goal.lines-requires-clause-few
lines-requires-clause-few c =
    let closed = c.in_ok-closed.closed in
    whole_few c.args.stanzas closed.dirs closed.places.items closed.distinct c.in_ok-closed.ensures c.requires
