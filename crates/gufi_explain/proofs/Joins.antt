-- Words that are joined by a space.
use Rattle.std.proofs.Common.{◌≡◌, ℕ, ◌-◌, ◌≤◌, List, [], ◌∷◌, ◌++◌, length, take, drop, get_or, sym, ap, ◌∙◌, append-nil, arith}
use Rattle.std.specs.List.{flat_map, join_with_byte}
use Rattle.std.proofs.lemmas.List.{take_all}

-- joined words are the first, and each other behind a space
joined_words : (first : List ℕ) (others : List (List ℕ)) → join_with_byte 32 (first ∷ others) ≡ first ++ flat_map (λ word. 32 ∷ word) others
joined_words first [] = sym (append-nil first)
joined_words first (next ∷ others) = ap (λ l. first ++ 32 ∷ l) (joined_words next others)

pub joined-put : (words : List (List ℕ)) (first front now : List ℕ) → 1 ≤ length words → first ≡ get_or words 0 first → front ≡ first
    → now ≡ front ++ flat_map (λ word. 32 ∷ word) (take (length words - 1) (drop 1 words)) → now ≡ join_with_byte 32 words
joined-put [] first front now some is copied put = absurd (omega arith)
joined-put (word ∷ words) first front now some is copied put =
    let behind : flat_map (λ (w : List ℕ). 32 ∷ w) (take (length (word ∷ words) - 1) words) ≡ flat_map (λ (w : List ℕ). 32 ∷ w) words = ap (flat_map (λ (w : List ℕ). 32 ∷ w)) (take_all (length (word ∷ words) - 1) words (omega arith)) in
    put ∙ ap (λ l. front ++ l) behind ∙ ap (λ l. l ++ flat_map (λ w. 32 ∷ w) words) (copied ∙ is) ∙ sym (joined_words word words)
