use Rattle.std.proofs.Common.{◌-◌, ◌<◌, ◌≤◌}
use Rattle.gufi_base.proofs.Digits.{ReadsFront}
use Rattle.gufi_line.proofs.digits.DigitPairs.number_within.Given as goal

abbrev pub invariant-pairs : goal.invariant-pairs
invariant-pairs l = record {
  few : l.at ≤ 16;
  some : 0 < l.at;
  front : ReadsFront l.text l.number l.at;
}

abbrev pub decreases-pairs : goal.decreases-pairs
decreases-pairs l = 16 - l.at
