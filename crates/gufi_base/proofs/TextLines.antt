-- The lines of a text.
use Rattle.std.proofs.Common.{◌≡◌, ◌≢◌, ◌⊎◌, inl, inr, ℕ, true, List, [], ◌∷◌, ◌++◌, length, refl, sym, ap, ◌∙◌, append_assoc, append-nil}
use Rattle.std.specs.Prelude.{if◌then◌else◌}
use Rattle.std.proofs.lemmas.Bool.{cases_Bool}
use Rattle.gufi_base.specs.Basics.{is_empty, split, text_lines, all_but_last, last_of}
use Rattle.gufi_base.proofs.Parts.{closed_by, split_first, last_of_push, all_but_last_push}
use Rattle.gufi_base.proofs.Cuts.{split_append, split_some, last_has_no, close_split, all_but_last_and_last}

-- a byte at the end cuts an empty last part
pub split_ended : (s : ℕ) (front : List ℕ) → split s (front ++ s ∷ []) ≡ split s front ++ [] ∷ []
split_ended s front =
    split_append s front (s ∷ []) ∙ ap (λ (ps : List (List ℕ)). all_but_last (split s front) ++ ps) (split_first s (last_of [] (split s front)) [] (last_has_no s front))
    ∙ sym (append_assoc (all_but_last (split s front)) (last_of [] (split s front) ∷ []) ([] ∷ [])) ∙ ap (λ (ps : List (List ℕ)). ps ++ [] ∷ []) (whole (split s front) (split_some s front))
  where
    whole : (ps : List (List ℕ)) → (ps ≡ [] → ⊥) → all_but_last ps ++ last_of [] ps ∷ [] ≡ ps
    whole [] some = absurd (some refl)
    whole (p ∷ ps) some = all_but_last_and_last [] p ps

lines_of_parts : (parts : List (List ℕ)) → (if is_empty (last_of [] (parts ++ [] ∷ [])) then all_but_last (parts ++ [] ∷ []) else parts ++ [] ∷ []) ≡ parts
lines_of_parts parts = rw (last_of_push [] parts []) (all_but_last_push parts [])

-- a newline at the end ends the last line
text_lines_ended : (front : List ℕ) → text_lines (front ++ 10 ∷ []) ≡ split 10 front
text_lines_ended front = rw (split_ended 10 front) (lines_of_parts (split 10 front))

-- parts that are closed by a byte are nothing, or end with it
closed_ends : (s : ℕ) (parts : List (List ℕ)) → (closed_by s parts ≡ []) ⊎ ((rest : List ℕ) × (closed_by s parts ≡ rest ++ s ∷ []))
closed_ends s [] = inl refl
closed_ends s (part ∷ parts) =
    elim (closed_ends s parts) [
      | inl none ↦ inr (part, ap (λ (l : List ℕ). (part ++ s ∷ []) ++ l) none ∙ append-nil (part ++ s ∷ []))
      | inr some ↦ inr ((part ++ s ∷ []) ++ some.0, ap (λ (l : List ℕ). (part ++ s ∷ []) ++ l) some.1 ∙ sym (append_assoc (part ++ s ∷ []) some.0 (s ∷ [])))
    ]

empty_is : (xs : List ℕ) → is_empty xs ≡ true → xs ≡ []
empty_is [] e = refl
empty_is (x ∷ xs) e = cc

-- the last part of a text that isn't empty and doesn't end with a newline isn't empty
last_is_some : (b : ℕ) (bytes : List ℕ) → ((rest : List ℕ) → b ∷ bytes ≢ rest ++ 10 ∷ []) → is_empty (last_of [] (split 10 (b ∷ bytes))) ≡ true → ⊥
last_is_some b bytes unended empty =
    let joined : closed_by 10 (all_but_last (split 10 (b ∷ bytes))) ≡ b ∷ bytes =
    sym (append-nil _) ∙ ap (λ (l : List ℕ). closed_by 10 (all_but_last (split 10 (b ∷ bytes))) ++ l) (sym (empty_is _ empty)) ∙ close_split 10 (b ∷ bytes) in
    elim (closed_ends 10 (all_but_last (split 10 (b ∷ bytes)))) [
      | inl none ↦ cc
      | inr some ↦ unended some.0 (sym joined ∙ some.1)
    ]

pub lines_ended : (bytes front : List ℕ) → bytes ≡ front ++ 10 ∷ [] → text_lines bytes ≡ split 10 front
lines_ended bytes front e = rw e (text_lines_ended front)

pub lines_unended : (bytes : List ℕ) → length bytes ≢ 0 → ((rest : List ℕ) → bytes ≢ rest ++ 10 ∷ []) → text_lines bytes ≡ split 10 bytes
lines_unended [] some unended = absurd (some refl)
lines_unended (b ∷ bytes) some unended =
    elim (cases_Bool (is_empty (last_of [] (split 10 (b ∷ bytes))))) [
      | inl empty ↦ absurd (last_is_some b bytes unended empty)
      | inr more ↦ rw more refl
    ]
