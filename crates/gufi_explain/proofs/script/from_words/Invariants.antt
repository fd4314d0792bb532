use Rattle.std.proofs.Common.{◌≡◌, ◌-◌}
use Rattle.gufi_explain.specs.Scripts.{from_words}
use Rattle.gufi_explain.proofs.script.from_words.Given as goal

abbrev pub invariant-loop-passed : goal.invariant-loop-passed
invariant-loop-passed l = from_words l.count l.text ≡ from_words (l.count - l._passed) l.rest
