use Rattle.std.proofs.Common.{◌≡◌, ◌++◌, drop, false}
use Rattle.gufi_glob.specs.Patterns.{unescaped_bytes}
use Rattle.gufi_glob.proofs.bracket.unescaped_bytes.Given as goal

abbrev pub invariant-bytes : goal.invariant-bytes
invariant-bytes l = unescaped_bytes false l.bytes ≡ l.members.items ++ unescaped_bytes l.escaped (drop l.byte-index l.bytes)
