-- The bytes of an ask tell its letter and its words.
use Rattle.std.proofs.Common.{◌≡◌, ℕ, suc, ◌<◌, ◌^◌, List, [], ◌∷◌, ◌++◌, length, refl, sym, ap, ◌∙◌, append_assoc, arith}
use Rattle.std.specs.Int.{to_le_bytes, from_le_bytes, w32}
use Rattle.std.specs.List.{All, flat_map}
use Rattle.std.proofs.lemmas.Nat.{from_le_bytes-to_le_bytes_4}
use Rattle.gufi_cache.specs.Asks.{word_bytes, ask_bytes}

-- equal lists are equal in front and behind, where they are cut at the same place
cut_once : (xs ys us vs : List ℕ) → length xs ≡ length ys → xs ++ us ≡ ys ++ vs → (xs ≡ ys) × (us ≡ vs)
cut_once [] [] us vs long same = (refl, same)
cut_once [] (y ∷ ys) us vs long same = absurd (omega arith)
cut_once (x ∷ xs) [] us vs long same = absurd (omega arith)
cut_once (x ∷ xs) (y ∷ ys) us vs long same =
    let first : x ≡ y = cc in
    let rest = cut_once xs ys us vs (omega arith) cc in
    (cc, rest.1)

-- the length in four bytes tells the number
length_told : (n m : ℕ) → n < 2 ^ 32 → m < 2 ^ 32 → to_le_bytes w32 n ≡ to_le_bytes w32 m → n ≡ m
length_told n m fits fits' same = sym (from_le_bytes-to_le_bytes_4 n fits) ∙ ap (from_le_bytes w32) same ∙ from_le_bytes-to_le_bytes_4 m fits'

-- the first word, and the bytes of the others
first_told : (word other us vs : List ℕ) → length word < 2 ^ 32 → length other < 2 ^ 32 → word_bytes word ++ us ≡ word_bytes other ++ vs → (word ≡ other) × (us ≡ vs)
first_told word other us vs short short' same =
    let lengths = cut_once (to_le_bytes w32 (length word)) (to_le_bytes w32 (length other)) (word ++ us) (other ++ vs) refl (sym (append_assoc (to_le_bytes w32 (length word)) word us) ∙ same ∙ append_assoc (to_le_bytes w32 (length other)) other vs) in
    cut_once word other us vs (length_told (length word) (length other) short short' lengths.0) lengths.1

words_told : (words others : List (List ℕ)) → All (λ word. length word < 2 ^ 32) words → All (λ word. length word < 2 ^ 32) others
    → flat_map word_bytes words ≡ flat_map word_bytes others → words ≡ others
words_told [] [] short short' same = refl
words_told [] (other ∷ others) short short' same = absurd cc
words_told (word ∷ words) [] short short' same = absurd cc
words_told (word ∷ words) (other ∷ others) short short' same =
    let first = first_told word other (flat_map word_bytes words) (flat_map word_bytes others) (short 0 [] (omega arith)) (short' 0 [] (omega arith)) same in
    let rest = words_told words others (λ k d within. short (suc k) d (omega arith)) (λ k d within. short' (suc k) d (omega arith)) first.1 in
    cc

-- equal bytes are of the same letter and words
pub ask_told : (letter other : ℕ) (words others : List (List ℕ)) → All (λ word. length word < 2 ^ 32) words → All (λ word. length word < 2 ^ 32) others
    → ask_bytes letter words ≡ ask_bytes other others → (letter ≡ other) × (words ≡ others)
ask_told letter other words others short short' same =
    let first : letter ≡ other = cc in
    (first, words_told words others short short' cc)
