use Rattle.std.proofs.Common.{◌∙◌, subst}
use Rattle.gufi_rows.specs.PathLists.{StandsBehind, bytes_in}
use Rattle.gufi_rows.proofs.Spots.{IsSpan-grows, bytes_in-grows, IsSpot-parts, StandsBehind-grows, IfSome-grows}
use Rattle.gufi_rows.proofs.spot.keep.Goals as goal

pub returns-clause-kept : goal.returns-clause-kept
returns-clause-kept c = λ path parts.
    let mid = c.keep_stem.new.text.items in
    let next = c.put.new.text.items in
    let grown = c.in_ok-base.ensures.grown in
    let stem = c.in_ok-stem.stem in
    IsSpot-parts next c.args.stem.now c.args.base.now _ path (IsSpan-grows mid next stem grown c.in_ok-stem.ensures.within) c.in_ok-base.ensures.within
    (bytes_in-grows mid next stem grown c.in_ok-stem.ensures.within ∙ c.in_ok-stem.ensures.bytes) c.in_ok-base.ensures.bytes parts

pub returns-clause-follows : goal.returns-clause-follows
returns-clause-follows c = λ e.
    let mid = c.keep_stem.new.text.items in
    let last = c.args.last in
    let name = c.args.base.now in
    StandsBehind-grows mid c.put.new.text.items last c.args.stem.now name c.in_ok-base.ensures.grown (IfSome-grows _ mid last c.in_ok-stem.ensures.grown c.requires)
    (subst (λ front. StandsBehind mid last front name) c.in_ok-stem.ensures.bytes
    (subst (λ t. StandsBehind t last (bytes_in t c.in_ok-stem.stem) name) c.as_slice.ensures.value (c.follows-follows.ensures e)))
