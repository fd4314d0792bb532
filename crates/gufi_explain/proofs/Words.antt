-- Words that are cut, as the lists of their bytes.
use Rattle.std.proofs.Common.{◌≡◌, ℕ, List, ◌∷◌, ◌++◌, take, drop}
use Rattle.std.specs.Prelude.{String}
use Rattle.std.specs.declared.alloc.Global.{Global}
use Rattle.std.specs.String.{string_bytes}
use Rattle.std.proofs.lemmas.List.{take-map, drop-map}
use Rattle.std.proofs.lemmas.Grind.{flat_map-append}
use Rattle.gufi_words.specs.WordTexts.{texts}
use Rattle.gufi_explain.specs.Shown.{escaped, spaced}

pub take_texts : (n : ℕ) (words : List (String Global)) → take n (texts words) ≡ texts (take n words)
take_texts n words = take-map string_bytes n words

pub drop_texts : (n : ℕ) (words : List (String Global)) → drop n (texts words) ≡ texts (drop n words)
drop_texts n words = drop-map string_bytes n words

pub spaced_parts : (before after : List (List ℕ)) → spaced (before ++ after) ≡ spaced before ++ spaced after
spaced_parts before after = flat_map-append (λ word. 32 ∷ escaped word) before after

pub ruleset word_cuts = (take_texts, drop_texts)
