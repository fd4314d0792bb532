use Rattle.std.proofs.Common.{◌≡◌, ◌+◌, ◌^◌, ◌<◌, ◌≤◌, ◌++◌, length, drop}
use Rattle.std.specs.Prelude.{decimal}
use Rattle.gufi_base.proofs.number.fill_wide_digits.Given as goal

abbrev pub invariant-loop-rest : goal.invariant-loop-rest
invariant-loop-rest l = record {
  digits : decimal l.number ≡ decimal l.rest ++ drop (l.at + 1) l.buffer;
  within : l.at < length l.buffer;
  small : l.rest ≤ l.number;
  room : l.rest < 10 ^ (l.at + 1);
}

abbrev pub decreases-loop-rest : goal.decreases-loop-rest
decreases-loop-rest l = l.rest
