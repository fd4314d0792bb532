-- A code for formulas, by which a type that contracts see as something with a formula in it is told apart.
use Rattle.std.specs.Prelude.{◌≡◌, ◌⊎◌, ℕ, zero, suc, List, [], ◌∷◌, ◌++◌, refl}
use Rattle.std.proofs.Common.{ap, ◌∙◌, sym, inl, inr, append_assoc, append-nil}
use Rattle.std.specs.Coded.{Coded, coded_ℕ, coded_list, coded⊎}
use base.Stored.{coded_via}
use Rattle.gufi_formula.specs.Formulas.{Formula, test, negation, both, either}

module _ {A : Type 0} where
  -- a formula behind its parts: each test, and 0, 1, 2 for not, and, or
  abbrev pub parts_first : Formula A → List (A ⊎ ℕ)
  parts_first (test a) = inl a ∷ []
  parts_first (negation f) = parts_first f ++ inr 0 ∷ []
  parts_first (both f g) = parts_first f ++ (parts_first g ++ inr 1 ∷ [])
  parts_first (either f g) = parts_first f ++ (parts_first g ++ inr 2 ∷ [])

  -- a part, above formulas of which the newest stands first
  abbrev pub with_part : A ⊎ ℕ → List (Formula A) → List (Formula A)
  with_part (inl a) stack = test a ∷ stack
  with_part (inr zero) (f ∷ stack) = negation f ∷ stack
  with_part (inr (suc zero)) (g ∷ f ∷ stack) = both f g ∷ stack
  with_part (inr (suc (suc n))) (g ∷ f ∷ stack) = either f g ∷ stack
  with_part part stack = stack

  abbrev pub with_parts : List (A ⊎ ℕ) → List (Formula A) → List (Formula A)
  with_parts [] stack = stack
  with_parts (part ∷ parts) stack = with_parts parts (with_part part stack)

  pub with_parts-first : (f : Formula A) (rest : List (A ⊎ ℕ)) (stack : List (Formula A)) → with_parts (parts_first f ++ rest) stack ≡ with_parts rest (f ∷ stack)
  with_parts-first (test a) rest stack = refl
  with_parts-first (negation f) rest stack =
      ap (λ parts. with_parts parts stack) (append_assoc (parts_first f) (inr 0 ∷ []) rest)
      ∙ with_parts-first f (inr 0 ∷ rest) stack
  with_parts-first (both f g) rest stack =
      ap (λ parts. with_parts parts stack) (append_assoc (parts_first f) (parts_first g ++ inr 1 ∷ []) rest)
      ∙ with_parts-first f ((parts_first g ++ inr 1 ∷ []) ++ rest) stack
      ∙ ap (λ parts. with_parts parts (f ∷ stack)) (append_assoc (parts_first g) (inr 1 ∷ []) rest)
      ∙ with_parts-first g (inr 1 ∷ rest) (f ∷ stack)
  with_parts-first (either f g) rest stack =
      ap (λ parts. with_parts parts stack) (append_assoc (parts_first f) (parts_first g ++ inr 2 ∷ []) rest)
      ∙ with_parts-first f ((parts_first g ++ inr 2 ∷ []) ++ rest) stack
      ∙ ap (λ parts. with_parts parts (f ∷ stack)) (append_assoc (parts_first g) (inr 2 ∷ []) rest)
      ∙ with_parts-first g (inr 2 ∷ rest) (f ∷ stack)

  with_parts-all : (f : Formula A) → with_parts (parts_first f) [] ≡ f ∷ []
  with_parts-all f = ap (λ parts. with_parts parts []) (sym (append-nil (parts_first f))) ∙ with_parts-first f [] []

  abbrev first_or : Formula A → List (Formula A) → Formula A
  first_or d [] = d
  first_or d (f ∷ rest) = f

  pub parts_first-same : (f g : Formula A) → parts_first f ≡ parts_first g → f ≡ g
  parts_first-same f g e =
      ap (first_or f) (sym (with_parts-all f) ∙ ap (λ parts. with_parts parts []) e ∙ with_parts-all g)

  abbrev pub formula_coded : Coded A → Coded (Formula A)
  formula_coded code = coded_via (coded_list (coded⊎ code coded_ℕ)) parts_first parts_first-same
