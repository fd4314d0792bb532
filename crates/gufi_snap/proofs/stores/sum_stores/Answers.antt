use Rattle.std.proofs.Common.{◌≡◌, ◌+◌, ◌<◌, ◌∷◌, ◌++◌, [], List, length, get_or, ap, ◌∙◌, subst, arith}
use Rattle.std.proofs.lemmas.List.{length-append}
use Rattle.gufi_tree.specs.Tree.{Directory, own_rows}
use Rattle.gufi_sums.specs.declared.summary.Summary.{Summary}
use Rattle.gufi_sums.specs.Total.{IsTotal}
use Rattle.gufi_snap.proofs.Growing.{own_pushed, entries_few}
use Rattle.gufi_snap.proofs.stores.sum_stores.Goals as goal

pub own_sum-requires : goal.own_sum-requires
own_sum-requires g c =
    let x : Directory = c.dir-in-loop-place.result.now in
    let within : c.loop-place.place < length c.args.tree.now = subst (λ n. c.loop-place.place < n) c.dirs-place-end.ensures.count c.loop-place-test.true in
    let is : x ≡ get_or c.args.tree.now c.loop-place.place x = c.dir-in-loop-place.ensures ∙ c.of-store.ensures.store ∙ c.dir.ensures.value x in
    entries_few c.args.tree.now c.loop-place.place x within c.requires is

pub loop-place-preserved : goal.loop-place-preserved
loop-place-preserved g c =
    let old = c.loop-place.sums.own in
    let last = c.own_sum.result in
    let more = c.in_ok-push.ensures in
    let own : (d : Directory) → IsTotal last (own_rows (get_or c.args.tree.now c.loop-place.place d)) =
    λ d. subst (λ (x : Directory). IsTotal last (own_rows x)) (c.dir-in-loop-place.ensures ∙ c.of-store.ensures.store ∙ c.dir.ensures.value d) c.own_sum.ensures in
    rw more (record {
      ticks = let a = c.of-store.ensures.tick in let b = c.loop-place.invariant.ticks in omega arith;
      len = length-append old (last ∷ []) ∙ ap (λ n. n + 1) c.loop-place.invariant.len;
      both = ap (λ (l : List Summary). l ++ last ∷ []) c.loop-place.invariant.both;
      each = own_pushed c.args.tree.now old last c.loop-place.place c.loop-place.invariant.len c.loop-place.invariant.each own;
    })

pub returns-clause-sums : goal.returns-clause-sums
returns-clause-sums g c =
    let tree = c.args.tree.now in
    let sums = c.loop-place.sums in
    let inv = c.loop-place.invariant in
    let count = c.dirs-place-end.ensures.count in
    let all : c.loop-place.place ≡ length tree = let a = c.loop-place-test.false in let b = c.loop-place.auto.place-end in omega arith in
    record {
      own = record { len = inv.len ∙ all; each = λ k d s h. inv.each k d s (omega arith) };
      len = ap (λ (l : List Summary). length l) inv.both ∙ inv.len ∙ all;
      under = λ k s a b. absurd (omega arith);
      before = λ k s h. ap (λ (l : List Summary). get_or l k s) inv.both;
    }
