use Rattle.std.proofs.Common.{◌≡◌, ℕ, ◌<◌, drop}
use Rattle.std.specs.Prelude.{◌||◌}
use Rattle.std.specs.List.{list_any}
use Rattle.gufi_glob.specs.ByteSets.{has_byte}
use Rattle.gufi_glob.specs.Patterns.{is_within}
use Rattle.gufi_glob.proofs.byte_set.ByteSet.of.Given as goal

abbrev pub invariant-each : goal.invariant-each
invariant-each l = (b : ℕ) → b < 256 → list_any (is_within b) l.ranges ≡ (has_byte l.set.words b || list_any (is_within b) (drop l.range-index l.ranges))
