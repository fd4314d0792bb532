use Rattle.std.proofs.Common.{sym, ◌∙◌, arith}
use Rattle.std.proofs.lemmas.List.{length-set}
use Rattle.gufi_tree.specs.Places.{path_at}
use Rattle.gufi_tree.proofs.Ranges.{own_prefix}
use Rattle.gufi_snap.proofs.Ancestors.{parent_some, parent_none, parent_leads}
use Rattle.gufi_snap.proofs.Known.{known_raised, all_known}
use Rattle.gufi_snap.proofs.flags.forget_above.Goals as goal

pub loop-above-init : goal.loop-above-init
loop-above-init c = record { within = c.requires.id; leads = own_prefix (path_at c.args.tree.now c.args.at.0); len = c.requires.len; known = λ limit h. h }

pub loop-above-smaller : goal.loop-above-smaller
loop-above-smaller c = (parent_some c.args.tree.now c.requires.shape c.loop-above.place.0 c.loop-above.invariant.within c.in-Some.above (sym c.parent.ensures ∙ c.in-Some.is)).0

pub loop-above-preserved : goal.loop-above-preserved
loop-above-preserved c =
    let tree = c.args.tree.now in
    let i = c.loop-above.invariant in
    let path = path_at tree c.args.at.0 in
    let k = c.loop-above.place.0 in
    let is = sym c.parent.ensures ∙ c.in-Some.is in
    let up = parent_some tree c.requires.shape k i.within c.in-Some.above is in
    record {
      within = omega (arith, up.0, i.within);
      leads = parent_leads tree c.requires.shape k i.within path c.in-Some.above is i.leads;
      len = length-set c.loop-above.known.items c.in-Some.above.0 _ ∙ i.len;
      known = λ limit h. known_raised tree c.requires.shape k i.within path c.in-Some.above is i.leads limit c.loop-above.known.items (i.known limit h);
    }

pub returns : goal.returns
returns c = λ limit h.
    let tree = c.args.tree.now in
    let i = c.loop-above.invariant in
    all_known tree limit (path_at tree c.args.at.0) c.loop-above.place.0 c.loop-above.known.items (parent_none tree c.requires.shape c.loop-above.place.0 i.within (sym c.parent.ensures ∙ c.in_default.is)) (i.known limit h)
