-- Lines and columns, cut again.
use Rattle.std.proofs.Common.{◌≡◌, ℕ, ◌==◌, true, not, List, [], ◌∷◌, refl, sym, ap, ◌∙◌, append-nil}
use Rattle.std.specs.List.{list_all, flat_map, join_with_byte}
use Rattle.std.proofs.lemmas.Bool.{and_parts, and_from}
use Rattle.std.proofs.lemmas.List.Folds.{list_all-append}
use Rattle.gufi_base.specs.Basics.{split, line, text_lines}
use Rattle.gufi_base.proofs.Parts.{has_no, split_first, split_one, split_closed, last_of_push, all_but_last_push}

-- parts joined by a byte that none of them holds
pub split_join : (s : ℕ) (part : List ℕ) (parts : List (List ℕ)) → list_all (has_no s) (part ∷ parts) ≡ true → split s (join_with_byte s (part ∷ parts)) ≡ part ∷ parts
split_join s part [] h = split_one s part (and_parts (has_no s part) true h).0
split_join s part (next ∷ parts) h =
    let both = and_parts (has_no s part) (list_all (has_no s) (next ∷ parts)) h in
    split_first s part (join_with_byte s (next ∷ parts)) both.0 ∙ ap (λ (ps : List (List ℕ)). part ∷ ps) (split_join s next parts both.1)

-- a byte that is neither in the parts nor joins them
pub join_has_no : (s c : ℕ) → not (c == s) ≡ true → (parts : List (List ℕ)) → list_all (has_no s) parts ≡ true → has_no s (join_with_byte c parts) ≡ true
join_has_no s c other [] h = refl
join_has_no s c other (part ∷ []) h = (and_parts (has_no s part) true h).0
join_has_no s c other (part ∷ next ∷ parts) h =
    let both = and_parts (has_no s part) (list_all (has_no s) (next ∷ parts)) h in
    list_all-append (λ b. not (b == s)) part (c ∷ join_with_byte c (next ∷ parts)) ∙ and_from _ _ both.0 (and_from _ _ other (join_has_no s c other (next ∷ parts) both.1))

-- lines that hold no newline
pub lines_cut : (parts : List (List ℕ)) → list_all (has_no 10) parts ≡ true → text_lines (flat_map line parts) ≡ parts
lines_cut parts each =
    ap text_lines (sym (append-nil (flat_map line parts)))
    ∙ rw (split_closed 10 parts [] each refl, last_of_push {A = List ℕ} [] parts [], all_but_last_push parts []) refl
