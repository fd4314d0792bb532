use Rattle.std.proofs.Common.{◌≡◌, ◌≤◌, ◌==◌, length, take}
use Rattle.std.specs.List.{filter}
use Rattle.gufi_stats.proofs.number.count_slashes.Given as goal

abbrev pub invariant-loop-k : goal.invariant-loop-k
invariant-loop-k l = record {
  slashes : l.count ≡ length (filter (λ b. b == 47) (take l.k l.text));
  few : l.count ≤ l.k;
}
