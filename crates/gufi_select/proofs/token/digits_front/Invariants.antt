use Rattle.std.proofs.Common.{◌-◌, ◌≤◌, length}
use Rattle.gufi_select.specs.Tokens.{is_digit}
use Rattle.gufi_select.proofs.TokenLemmas.{IsFront}
use Rattle.gufi_select.proofs.token.digits_front.Given as goal

abbrev pub invariant-digits : goal.invariant-digits
invariant-digits l = record {
  front : IsFront is_digit l.bytes l.size;
  within : l.size ≤ length l.bytes;
}

abbrev pub decreases-digits : goal.decreases-digits
decreases-digits l = length l.bytes - l.size
