use Rattle.std.proofs.Common.{sym, ◌∙◌, subst, arith}
use Rattle.gufi_tree.specs.Places.{path_at}
use Rattle.gufi_tree.proofs.Ranges.{own_prefix}
use Rattle.gufi_snap.specs.SumsByPlace.{AreSumsBut}
use Rattle.gufi_snap.proofs.Ancestors.{parent_some, parent_none, parent_leads}
use Rattle.gufi_snap.proofs.Raised.{known_behind, sums_raised}
use Rattle.gufi_snap.proofs.sums.add_above.Goals as goal

pub loop-above-init : goal.loop-above-init
loop-above-init c = record { within = c.requires.id; leads = own_prefix (path_at c.args.tree.now c.args.at.0); sums = c.requires.sums }

pub parent-requires : goal.parent-requires
parent-requires c = c.loop-above.invariant.within

pub sum_under-sum-requires-clause-own : goal.sum_under-sum-requires-clause-own
sum_under-sum-requires-clause-own c = c.loop-above.invariant.sums.own

pub sum_under-sum-requires-clause-len : goal.sum_under-sum-requires-clause-len
sum_under-sum-requires-clause-len c = c.loop-above.invariant.sums.len

pub sum_under-sum-requires-clause-behind : goal.sum_under-sum-requires-clause-behind
sum_under-sum-requires-clause-behind c =
    let i = c.loop-above.invariant in
    known_behind c.args.tree.now c.requires.shape c.loop-above.place.0 i.within (path_at c.args.tree.now c.args.at.0) c.in-Some.above (sym c.parent.ensures ∙ c.in-Some.is) i.leads c.loop-above.sums i.sums

pub put_below-requires : goal.put_below-requires
put_below-requires c =
    let i = c.loop-above.invariant in
    let up = parent_some c.args.tree.now c.requires.shape c.loop-above.place.0 i.within c.in-Some.above (sym c.parent.ensures ∙ c.in-Some.is) in
    omega (arith, up.0, i.within, i.sums.len)

pub loop-above-smaller : goal.loop-above-smaller
loop-above-smaller c = (parent_some c.args.tree.now c.requires.shape c.loop-above.place.0 c.loop-above.invariant.within c.in-Some.above (sym c.parent.ensures ∙ c.in-Some.is)).0

pub loop-above-preserved : goal.loop-above-preserved
loop-above-preserved c =
    let tree = c.args.tree.now in
    let i = c.loop-above.invariant in
    let path = path_at tree c.args.at.0 in
    let is = sym c.parent.ensures ∙ c.in-Some.is in
    let up = parent_some tree c.requires.shape c.loop-above.place.0 i.within c.in-Some.above is in
    record {
      within = omega (arith, up.0, i.within);
      leads = parent_leads tree c.requires.shape c.loop-above.place.0 i.within path c.in-Some.above is i.leads;
      sums = subst (AreSumsBut tree path c.in-Some.above.0) (sym c.in_ok-put_below.ensures)
          (sums_raised tree c.requires.shape c.loop-above.place.0 i.within path c.in-Some.above is i.leads c.loop-above.sums i.sums c.sum_under-sum.result c.sum_under-sum.ensures);
    }

pub returns : goal.returns
returns c =
    let tree = c.args.tree.now in
    let i = c.loop-above.invariant in
    subst (λ n. AreSumsBut tree (path_at tree c.args.at.0) n c.loop-above.sums) (parent_none tree c.requires.shape c.loop-above.place.0 i.within (sym c.parent.ensures ∙ c.in_default.is)) i.sums
