use Rattle.std.proofs.Common.{◌≡◌, ℕ, ◌<◌}
use Rattle.std.specs.Prelude.{◌&&◌, ◌||◌, nat_le, nat_lt}
use Rattle.gufi_glob.specs.ByteSets.{has_byte}
use Rattle.gufi_glob.proofs.byte_set.ByteSet.insert_range.Given as goal

abbrev pub invariant-bytes : goal.invariant-bytes
invariant-bytes l = record {
  some : (b : ℕ) → b < 256 → has_byte l.self.words b ≡ ((nat_le l.from b && nat_lt b l.byte) || has_byte l.initial.self.words b);
  none : l.byte-end < l.from → l.byte ≡ l.from;
}
