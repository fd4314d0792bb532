-- Lines that are passed by a word.
use Rattle.std.proofs.Common.{◌≡◌, ℕ, zero, suc, ◌+◌, ◌-◌, ◌<◌, List, refl, arith}
use Rattle.gufi_explain.specs.Scripts.{from_word, behind_front_word, from_words}

one_passed : (n m : ℕ) (text : List ℕ) → n ≡ m + 1 → from_words n text ≡ from_words m (behind_front_word (from_word text))
one_passed zero m text is = absurd (omega arith)
one_passed (suc n) m text is = let same : n ≡ m = omega arith in rw same refl

pub passed_word : (count passed : ℕ) (text : List ℕ) → passed < count
    → from_words (count - passed) text ≡ from_words (count - (passed + 1)) (behind_front_word (from_word text))
passed_word count passed text before = one_passed (count - passed) (count - (passed + 1)) text (omega arith)
