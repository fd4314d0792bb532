-- Parts that are joined by a byte which none of them holds.
use Rattle.std.proofs.Common.{◌≡◌, ℕ, Bool, true, List, [], ◌∷◌, refl, ap, ◌∙◌}
use Rattle.std.specs.List.{list_all, join_with_byte}
use Rattle.std.proofs.lemmas.Bool.{and_parts, and_from}
use Rattle.std.proofs.lemmas.List.Folds.{list_all-append}
use Rattle.gufi_base.specs.Basics.{split}
use Rattle.gufi_base.proofs.Parts.{has_no, split_first, split_one}

pub split_join : (s : ℕ) (part : List ℕ) (parts : List (List ℕ)) → list_all (has_no s) (part ∷ parts) ≡ true → split s (join_with_byte s (part ∷ parts)) ≡ part ∷ parts
split_join s part [] h = split_one s part (and_parts (has_no s part) true h).0
split_join s part (next ∷ parts) h =
    let both = and_parts (has_no s part) (list_all (has_no s) (next ∷ parts)) h in
    split_first s part (join_with_byte s (next ∷ parts)) both.0 ∙ ap (λ (ps : List (List ℕ)). part ∷ ps) (split_join s next parts both.1)

pub all_join : (q : ℕ → Bool) (s : ℕ) → q s ≡ true → (parts : List (List ℕ)) → list_all (list_all q) parts ≡ true → list_all q (join_with_byte s parts) ≡ true
all_join q s own [] h = refl
all_join q s own (part ∷ []) h = (and_parts (list_all q part) true h).0
all_join q s own (part ∷ next ∷ parts) h =
    let both = and_parts (list_all q part) (list_all (list_all q) (next ∷ parts)) h in
    list_all-append q part (s ∷ join_with_byte s (next ∷ parts)) ∙ and_from _ _ both.0 (and_from _ _ own (all_join q s own (next ∷ parts) both.1))
