use Rattle.std.proofs.Common.{◌≡◌, drop}
use Rattle.gufi_words.specs.WordTexts.{texts}
use Rattle.gufi_explain.specs.Refused.{passwd_of}
use Rattle.gufi_explain.proofs.refused.passwd_of.Given as goal

abbrev pub invariant-loop-at : goal.invariant-loop-at
invariant-loop-at l = passwd_of (texts l.words) ≡ passwd_of (texts (drop l.at l.words))
