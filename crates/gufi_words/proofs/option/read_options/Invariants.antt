use Rattle.std.proofs.Common.{◌≡◌, drop}
use Rattle.gufi_words.specs.WordTexts.{texts}
use Rattle.gufi_words.specs.WordOptions.{start, read_options}
use Rattle.gufi_words.proofs.option.read_options.Given as goal

abbrev pub invariant-loop-place : goal.invariant-loop-place
invariant-loop-place l =
    read_options l.command start 1 (drop 1 (texts l.words)) ≡ read_options l.command l.reading l.place (drop l.place (texts l.words))
