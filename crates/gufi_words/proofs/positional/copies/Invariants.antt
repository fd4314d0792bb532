use Rattle.std.proofs.Common.{◌≡◌, take}
use Rattle.gufi_words.specs.WordTexts.{texts}
use Rattle.gufi_words.proofs.positional.copies.Given as goal

abbrev pub invariant-loop-word : goal.invariant-loop-word
invariant-loop-word l = l.copies.items ≡ texts (take l.word-index l.words)
