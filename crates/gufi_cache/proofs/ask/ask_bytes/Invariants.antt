use Rattle.std.proofs.Common.{◌≡◌, ◌∷◌, take}
use Rattle.std.specs.List.{flat_map}
use Rattle.gufi_cache.specs.Asks.{word_bytes}
use Rattle.gufi_cache.proofs.ask.ask_bytes.Given as goal

abbrev pub invariant-loop-word : goal.invariant-loop-word
invariant-loop-word l = l.bytes.items ≡ l.letter ∷ flat_map word_bytes (take l.word-index l.words)
