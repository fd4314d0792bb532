use Rattle.std.proofs.Common.{◌≡◌, take}
use Rattle.std.specs.Prelude.{map}
use Rattle.percent_encoding.specs.Percent.{percent_decode}
use Rattle.gufi_script.proofs.word.all_decoded.Given as goal

abbrev pub invariant-loop-word : goal.invariant-loop-word
invariant-loop-word l = l.words.items ≡ map (λ word. percent_decode word.now) (take l.word-index l.fn.raw)
