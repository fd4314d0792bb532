use Rattle.std.proofs.Common.{length}
use Rattle.std.specs.Bool.{OnTrue}
use Rattle.gufi_glob.specs.KeptParts.{parts_of}
use Rattle.gufi_glob.specs.Unclosed.{IsUnclosed}
use Rattle.gufi_glob.proofs.Reading.{Reads}
use Rattle.gufi_glob.proofs.reader.read_parts.Given as goal

abbrev pub invariant-bytes : goal.invariant-bytes
invariant-bytes l = record {
  reads : Reads l.bytes (parts_of l.parts.items) l.rest;
  unclosed : OnTrue l.is_unclosed (IsUnclosed l.rest);
}

abbrev pub decreases-bytes : goal.decreases-bytes
decreases-bytes l = length l.rest
