use Rattle.std.proofs.Common.{◌≡◌, ◌++◌, take}
use Rattle.gufi_words.specs.WordTexts.{texts}
use Rattle.gufi_explain.specs.Shown.{spaced}
use Rattle.gufi_explain.proofs.shown.put_spaced.Given as goal

abbrev pub invariant-loop-word : goal.invariant-loop-word
invariant-loop-word l = l.out.items ≡ l.initial.out.items ++ spaced (texts (take l.word-index l.words))
