use Rattle.std.proofs.Common.{◌≡◌, ◌∷◌, ◌∙◌, rules, arith, subst}
use Rattle.std.proofs.lemmas.Grind.{common_steps}
use Rattle.gufi_stats.specs.Joined.{AreBounded}
use Rattle.gufi_stats.proofs.Joined.{next-joined, next-room}
use Rattle.gufi_stats.proofs.sums.join_all.Goals as goal

pub loop-number-preserved : goal.loop-number-preserved
loop-number-preserved c =
    let l = c.loop-number in
    let number = c.in-Some.number.now in
    let sum = c.in-Some.sum.now in
    let rest = c.next.new.self in
    let is : l.number-iterator ≡ (number, sum) ∷ rest = (first_of (search rules, grind (arith, common_steps))) in
    record {
      so_far = next-joined c.args.less l.sums.entries c.join_sum.new.sums.entries l.number-iterator rest number c.saturating_sub.result sum is c.saturating_sub.ensures c.in_ok-join_sum.ensures.joined ∙ l.invariant.so_far;
      room = next-room l.sums.entries c.join_sum.new.sums.entries l.number-iterator rest number c.saturating_sub.result sum is c.in_ok-join_sum.ensures.joined l.invariant.room;
      in_bounds = c.in_ok-join_sum.ensures.bounded;
      more_in_bounds = (subst AreBounded is l.invariant.more_in_bounds).1;
    }
