-- Ends of words.
use Rattle.std.proofs.Common.{◌≡◌, ℕ, suc, ◌-◌, ◌<◌, List, [], ◌∷◌, length, take, get_or, refl, ap, arith}
use Rattle.gufi_base.specs.Basics.{last_of, all_but_last}

last_there : (b d : ℕ) (rest : List ℕ) → get_or (b ∷ rest) (length rest) d ≡ last_of d (b ∷ rest)
last_there b d [] = refl
last_there b d (c ∷ rest) = last_there c d rest

pub last_at : (word : List ℕ) → 0 < length word → get_or word (length word - 1) 0 ≡ last_of 0 word
last_at [] some = absurd (omega arith)
last_at (b ∷ rest) some = let place : suc (length rest) - 1 ≡ length rest = omega arith in rw place (last_there b 0 rest)

front_there : (b : ℕ) (rest : List ℕ) → take (length rest) (b ∷ rest) ≡ all_but_last (b ∷ rest)
front_there b [] = refl
front_there b (c ∷ rest) = ap (λ (l : List ℕ). b ∷ l) (front_there c rest)

pub front_at : (word : List ℕ) → 0 < length word → take (length word - 1) word ≡ all_but_last word
front_at [] some = absurd (omega arith)
front_at (b ∷ rest) some = let place : suc (length rest) - 1 ≡ length rest = omega arith in rw place (front_there b rest)
