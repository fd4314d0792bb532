use Rattle.std.proofs.Common.{◌≡◌, length}
use Rattle.gufi_script.specs.ScriptWords.{has_bad_escape}
use Rattle.gufi_script.proofs.word.has_bad_escape.Given as goal

abbrev pub invariant-loop-rest : goal.invariant-loop-rest
invariant-loop-rest l = has_bad_escape l.fn.text ≡ has_bad_escape l.rest

abbrev pub decreases-loop-rest : goal.decreases-loop-rest
decreases-loop-rest l = length l.rest
