use Rattle.std.proofs.Common.{◌-◌, ◌≤◌, length}
use Rattle.gufi_select.specs.Tokens.{is_word_byte}
use Rattle.gufi_select.proofs.TokenLemmas.{IsFront}
use Rattle.gufi_select.proofs.token.word_front.Given as goal

abbrev pub invariant-letters : goal.invariant-letters
invariant-letters l = record {
  front : IsFront is_word_byte l.bytes l.size;
  within : l.size ≤ length l.bytes;
}

abbrev pub decreases-letters : goal.decreases-letters
decreases-letters l = length l.bytes - l.size
