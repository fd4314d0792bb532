use Rattle.std.proofs.Common.{◌≡◌, drop}
use Rattle.gufi_words.specs.WordTexts.{texts}
use Rattle.gufi_explain.specs.Refused.{is_given}
use Rattle.gufi_explain.proofs.refused.is_given.Given as goal

abbrev pub invariant-loop-word : goal.invariant-loop-word
invariant-loop-word l = is_given (texts l.words) l.option ≡ is_given (texts (drop l.word-index l.words)) l.option
