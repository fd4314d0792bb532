use Rattle.std.proofs.Common.{◌≡◌, ◌+◌, drop, false}
use Rattle.std.specs.Prelude.{option_map}
use Rattle.gufi_glob.specs.Patterns.{close_at}
use Rattle.gufi_glob.proofs.bracket.close_at.Given as goal

abbrev pub invariant-bytes : goal.invariant-bytes
invariant-bytes l = close_at false l.bytes ≡ option_map (λ n. n + l.at) (close_at l.escaped (drop l.at l.bytes))
