use Rattle.std.proofs.Common.{◌<◌, ◌^◌, drop}
use Rattle.gufi_base.proofs.Digits.{Reads}
use Rattle.gufi_base.proofs.number.short_number.Given as goal

abbrev pub invariant-loop-byte : goal.invariant-loop-byte
invariant-loop-byte l = record {
  read : Reads 10 l.bytes l.number (drop l.byte-index l.bytes);
  small : l.number < 10 ^ l.byte-index;
}
