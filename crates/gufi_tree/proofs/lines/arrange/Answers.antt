use Rattle.std.proofs.Common.{◌∙◌, sym, subst}
use Rattle.std.proofs.lemmas.Result.{IfOk-weaker}
use Rattle.gufi_tree.specs.Gathered.{IsArranged}
use Rattle.std.proofs.lemmas.List.Sorted.{IsPermutation-trans}
use Rattle.gufi_tree.proofs.Faultless.{faultless_from_none}
use Rattle.gufi_tree.proofs.Homes.{AreInOrder-same}
use Rattle.gufi_tree.proofs.Arranged.{gathered_sorted, gathered_order, gathered_homes, arranged}
use Rattle.gufi_tree.proofs.lines.arrange.Goals as goal

pub place-requires-clause-order : goal.place-requires-clause-order
place-requires-clause-order c =
    let g = gathered_sorted c.args.lines.items c.in_ok-gathered.gathered.loose.items c.in_ok-gathered.gathered.stored.items c.sort_directories.new.stored.items c.sort_directories.ensures.permutation c.in_ok-gathered.ensures in
    gathered_order c.args.lines.items c.in_ok-gathered.gathered.loose.items c.sort_directories.new.stored.items (faultless_from_none c.args.lines.items c.requires) g c.sort_directories.ensures.order

pub place-requires-clause-homes : goal.place-requires-clause-homes
place-requires-clause-homes c =
    let g = gathered_sorted c.args.lines.items c.in_ok-gathered.gathered.loose.items c.in_ok-gathered.gathered.stored.items c.sort_directories.new.stored.items c.sort_directories.ensures.permutation c.in_ok-gathered.ensures in
    gathered_homes c.args.lines.items c.in_ok-gathered.gathered.loose.items c.sort_directories.new.stored.items (faultless_from_none c.args.lines.items c.requires) g

pub returns : goal.returns
returns c =
    let lines = c.args.lines.items in
    let loose = c.in_ok-gathered.gathered.loose.items in
    let sorted = c.sort_directories.new.stored.items in
    let final = c.sort_entries.new.stored.items in
    let sound = faultless_from_none lines c.requires in
    let g = gathered_sorted lines loose c.in_ok-gathered.gathered.stored.items sorted c.sort_directories.ensures.permutation c.in_ok-gathered.ensures in
    let order = gathered_order lines loose sorted sound g c.sort_directories.ensures.order in
    let done = arranged lines final sound
    (IsPermutation-trans _ _ _ g.rows (IsPermutation-trans _ _ _ c.in_ok-place.ensures.rows c.sort_entries.ensures.rows))
    (c.sort_entries.ensures.kinds ∙ c.in_ok-place.ensures.kinds g.kinds)
    (AreInOrder-same final sorted (c.sort_entries.ensures.paths ∙ c.in_ok-place.ensures.paths) order)
    c.sort_entries.ensures.order in
    IfOk-weaker c.keep_all.result _ _ (λ kept e. subst (IsArranged lines) (sym e) done) c.keep_all.ensures
