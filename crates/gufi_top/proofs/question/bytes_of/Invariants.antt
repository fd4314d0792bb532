use Rattle.std.proofs.Common.{◌≡◌, take}
use Rattle.gufi_top.proofs.question.bytes_of.Given as goal

abbrev pub invariant-words : goal.invariant-words
invariant-words l = l.copies.items ≡ take l.word-index l.words
