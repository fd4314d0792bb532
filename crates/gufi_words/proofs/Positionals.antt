-- Words by their places.
use Rattle.std.proofs.Common.{◌≡◌, ℕ, List, drop}
use Rattle.std.specs.Prelude.{String}
use Rattle.std.specs.declared.alloc.Global.{Global}
use Rattle.std.specs.String.{string_bytes}
use Rattle.std.proofs.lemmas.List.{drop_all, drop-map, length-map}
use Rattle.gufi_words.specs.WordTexts.{texts}

pub drop_texts : (n : ℕ) (words : List (String Global)) → drop n (texts words) ≡ texts (drop n words)
drop_texts n words = drop-map string_bytes n words

pub ruleset word_lists = (drop_texts, drop_all, length-map)
