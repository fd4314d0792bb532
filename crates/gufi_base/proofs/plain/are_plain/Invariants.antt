use Rattle.std.proofs.Common.{◌≤◌, drop}
use Rattle.gufi_base.proofs.PlainTexts.{Scanned}
use Rattle.gufi_base.proofs.plain.are_plain.Given as goal

abbrev pub invariant-loop-byte : goal.invariant-loop-byte
invariant-loop-byte l = record {
  run : l.run ≤ l.byte-index;
  scanned : Scanned l.bytes l.reached l.run (drop l.byte-index l.bytes);
}
