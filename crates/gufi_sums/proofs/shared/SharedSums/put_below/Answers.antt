use Rattle.gufi_sums.specs.Blocks.{lists_of, sum_at}
use Rattle.std.proofs.Common.{length, ap, arith}
use Rattle.std.proofs.lemmas.List.{length-map}
use Rattle.gufi_sums.specs.SumLists.{SumLists}
use Rattle.gufi_sums.proofs.Slots.{below_put}
use Rattle.gufi_sums.proofs.shared.SharedSums.put_below.Goals as goal

pub returns : goal.returns
returns c =
    below_put _ (lists_of c.add_sum.new.blocks.items c.add_sum.new.last.items) c.add_sum.ensures.keep c.self.inside.slots.items c.self.invariant c.args.self.now c.self.view_is c.args.place c.index.result.now c.in_ok-below.below c.args.sum
    (omega (arith, c.requires, ap (λ (s : SumLists). length s.below) c.self.view_is, length-map c.self.inside.slots.items (λ both. sum_at (lists_of c.self.inside.blocks.items c.self.inside.last.items) both.below))) c.index.ensures c.in_ok-below.ensures.sum
