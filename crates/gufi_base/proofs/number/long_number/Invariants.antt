use Rattle.std.proofs.Common.{◌<◌, ◌^◌, drop}
use Rattle.gufi_base.proofs.Digits.{Reads}
use Rattle.gufi_base.proofs.number.long_number.Given as goal

abbrev pub invariant-loop-byte : goal.invariant-loop-byte
invariant-loop-byte l = record {
  read : Reads l.radix l.bytes l.number (drop l.byte-index l.bytes);
  fits : l.number < 2 ^ 64;
}
