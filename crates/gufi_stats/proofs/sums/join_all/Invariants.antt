use Rattle.std.proofs.Common.{◌≡◌, ℕ, ◌+◌, ◌^◌, ◌<◌}
use Rattle.gufi_sums.specs.Total.{rows_in}
use Rattle.gufi_stats.specs.Grouped.{sum_in, rows_counted}
use Rattle.gufi_stats.specs.Joined.{all_joined, AreBounded}
use Rattle.gufi_stats.proofs.sums.join_all.Given as goal

abbrev pub invariant-loop-number : goal.invariant-loop-number
invariant-loop-number l = record {
  so_far : all_joined l.less l.sums.entries l.number-iterator ≡ all_joined l.less l.initial.sums.entries l.more.entries;
  room : (n : ℕ) → rows_in (sum_in l.sums.entries n) + rows_counted l.number-iterator < 2 ^ 40;
  in_bounds : AreBounded l.sums.entries;
  more_in_bounds : AreBounded l.number-iterator;
}
