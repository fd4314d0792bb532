-- Texts that are passed by a byte between their parts.
use Rattle.std.proofs.Common.{◌≡◌, ℕ, zero, suc, ◌+◌, ◌-◌, ◌<◌, List, refl, arith}
use Rattle.std.specs.Prelude.{Option, Some, None}
use Rattle.gufi_explain.specs.Notes.{behind_mark, behind_marks}

one_passed : (mark n m : ℕ) (text rest : List ℕ) → n ≡ m + 1 → Some rest ≡ behind_mark mark text → behind_marks mark n text ≡ behind_marks mark m rest
one_passed mark zero m text rest is found = absurd (omega arith)
one_passed mark (suc n) m text rest is found = let same : n ≡ m = omega arith in rw (same, ← found) refl

none_left : (mark n m : ℕ) (text : List ℕ) → n ≡ m + 1 → (let none : Option (List ℕ) = None in none ≡ behind_mark mark text) → (let none : Option (List ℕ) = None in behind_marks mark n text ≡ none)
none_left mark zero m text is missing = absurd (omega arith)
none_left mark (suc n) m text is missing = rw (← missing) refl

pub passed_one : (mark count passed : ℕ) (text rest : List ℕ) → passed < count → Some rest ≡ behind_mark mark text
    → behind_marks mark (count - passed) text ≡ behind_marks mark (count - (passed + 1)) rest
passed_one mark count passed text rest before found = one_passed mark (count - passed) (count - (passed + 1)) text rest (omega arith) found

pub passed_none : (mark count passed : ℕ) (text : List ℕ) → passed < count → (let none : Option (List ℕ) = None in none ≡ behind_mark mark text)
    → (let none : Option (List ℕ) = None in behind_marks mark (count - passed) text ≡ none)
passed_none mark count passed text before missing = none_left mark (count - passed) (count - (passed + 1)) text (omega arith) missing

pub ruleset marks = (passed_one, passed_none)
