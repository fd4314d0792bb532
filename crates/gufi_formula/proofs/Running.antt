-- Steps of a formula give it back, and its truth.
use Rattle.std.proofs.Common.{◌≡◌, ℕ, zero, suc, Bool, true, false, List, [], ◌∷◌, ◌++◌, length, drop, refl, sym, ap, ap₂, ◌∙◌, append_assoc, append-nil, arith}
use Rattle.std.specs.Prelude.{◌&&◌, ◌||◌}
use Rattle.std.specs.Prelude.{Some, None}
use Rattle.std.specs.List.{list_all}
use Rattle.std.proofs.lemmas.List.Folds.{list_all-append}
use Rattle.gufi_formula.specs.Formulas.{Formula, test, negation, both, either, hangs_on_first, holds, is_positive, only_test}
use Rattle.gufi_formula.specs.Steps.{first_of, steps_of, run, with_steps, newest_or, formula_in, is_no_inversion, IsKept}
use Rattle.gufi_formula.specs.declared.step.Step.{Step}
use Rattle.gufi_formula.specs.declared.step.Step.TheVariants.{Invert, IfTrue, IfFalse, BothEnd, EitherEnd}

module _ {A : Type 0} where
  -- two operands, with what is between and behind them, in the order in which they are taken
  pub operands : (front back : List (Step A)) (skip mark : Step A) (rest : List (Step A))
      → (front ++ (skip ∷ (back ++ mark ∷ []))) ++ rest ≡ front ++ (skip ∷ (back ++ (mark ∷ rest)))
  operands front back skip mark rest =
      append_assoc front (skip ∷ (back ++ mark ∷ [])) rest ∙ ap (λ l. front ++ (skip ∷ l)) (append_assoc back (mark ∷ []) rest)

  -- the steps of a formula make it of its first test
  with_steps-more : (f : Formula A) (rest : List (Step A)) (stack : List (Formula A)) → with_steps (steps_of f ++ rest) (test (first_of f) ∷ stack) ≡ with_steps rest (f ∷ stack)
  with_steps-more (test a) rest stack = refl
  with_steps-more (negation f) rest stack =
      ap (λ l. with_steps l (test (first_of f) ∷ stack)) (append_assoc (steps_of f) (Invert ∷ []) rest) ∙ with_steps-more f (Invert ∷ rest) stack
  with_steps-more (both f g) rest stack =
      ap (λ l. with_steps l (test (first_of f) ∷ stack)) (operands (steps_of f) (steps_of g) (IfTrue (first_of g) (length (steps_of g))) BothEnd rest)
      ∙ with_steps-more f (IfTrue (first_of g) (length (steps_of g)) ∷ (steps_of g ++ (BothEnd ∷ rest))) stack
      ∙ with_steps-more g (BothEnd ∷ rest) (f ∷ stack)
  with_steps-more (either f g) rest stack =
      ap (λ l. with_steps l (test (first_of f) ∷ stack)) (operands (steps_of f) (steps_of g) (IfFalse (first_of g) (length (steps_of g))) EitherEnd rest)
      ∙ with_steps-more f (IfFalse (first_of g) (length (steps_of g)) ∷ (steps_of g ++ (EitherEnd ∷ rest))) stack
      ∙ with_steps-more g (EitherEnd ∷ rest) (f ∷ stack)

  formula_in-steps_of : (f : Formula A) → formula_in (first_of f) (steps_of f) ≡ f
  formula_in-steps_of f =
      ap (λ l. newest_or (test (first_of f)) (with_steps l (test (first_of f) ∷ []))) (sym (append-nil (steps_of f)))
      ∙ ap (newest_or (test (first_of f))) (with_steps-more f [] [])

  -- the first test and the steps of a formula, and that formula
  pub record Keeps (first : A) (steps : List (Step A)) (f : Formula A) : Type 0 where
    pub formula : formula_in first steps ≡ f
    pub hangs : hangs_on_first (formula_in first steps) ≡ hangs_on_first f
    pub is : IsKept first steps

  keeps : (first : A) (steps : List (Step A)) (f : Formula A) → first_of f ≡ first → steps_of f ≡ steps → Keeps first steps f
  keeps first steps f first_same steps_same =
      let formula : formula_in first steps ≡ f =
      sym (ap (λ a. formula_in a (steps_of f)) first_same ∙ ap (formula_in first) steps_same) ∙ formula_in-steps_of f in
      record { formula = formula; hangs = ap hangs_on_first formula; is = record { test_is = ap first_of formula ∙ first_same; steps_are = ap steps_of formula ∙ steps_same } }

  pub kept_test : (a : A) → Keeps a [] (test a)
  kept_test a = keeps a [] (test a) refl refl

  pub kept_negation : (first : A) (steps : List (Step A)) → IsKept first steps → Keeps first (steps ++ Invert ∷ []) (negation (formula_in first steps))
  kept_negation first steps is = keeps first (steps ++ Invert ∷ []) (negation (formula_in first steps)) is.test_is (ap (λ l. l ++ Invert ∷ []) is.steps_are)

  -- two that were kept apart, and then one behind the other
  joined : (steps : List (Step A)) (second : A) (more : List (Step A)) (f g : Formula A) (skip : A → ℕ → Step A) (mark : Step A)
      → steps_of f ≡ steps → first_of g ≡ second → steps_of g ≡ more
      → steps_of f ++ (skip (first_of g) (length (steps_of g)) ∷ (steps_of g ++ mark ∷ [])) ≡ ((steps ++ skip second (length more) ∷ []) ++ more) ++ mark ∷ []
  joined steps second more f g skip mark is others_first others =
      ap (λ l. l ++ (skip (first_of g) (length (steps_of g)) ∷ (steps_of g ++ mark ∷ []))) is
      ∙ ap (λ a. steps ++ (skip a (length (steps_of g)) ∷ (steps_of g ++ mark ∷ []))) others_first
      ∙ ap (λ l. steps ++ (skip second (length l) ∷ (l ++ mark ∷ []))) others
      ∙ sym (append_assoc (steps ++ skip second (length more) ∷ []) more (mark ∷ []) ∙ append_assoc steps (skip second (length more) ∷ []) (more ++ mark ∷ []))

  pub kept_both : (first : A) (steps : List (Step A)) (second : A) (more : List (Step A)) → IsKept first steps → IsKept second more
      → Keeps first (((steps ++ IfTrue second (length more) ∷ []) ++ more) ++ BothEnd ∷ []) (both (formula_in first steps) (formula_in second more))
  kept_both first steps second more is others =
      keeps first _ (both (formula_in first steps) (formula_in second more)) is.test_is (joined steps second more (formula_in first steps) (formula_in second more) IfTrue BothEnd is.steps_are others.test_is others.steps_are)

  pub kept_either : (first : A) (steps : List (Step A)) (second : A) (more : List (Step A)) → IsKept first steps → IsKept second more
      → Keeps first (((steps ++ IfFalse second (length more) ∷ []) ++ more) ++ EitherEnd ∷ []) (either (formula_in first steps) (formula_in second more))
  kept_either first steps second more is others =
      keeps first _ (either (formula_in first steps) (formula_in second more)) is.test_is (joined steps second more (formula_in first steps) (formula_in second more) IfFalse EitherEnd is.steps_are others.test_is others.steps_are)

  -- a formula that is false wherever its first test is
  falls : (truth : A → Bool) (f : Formula A) → hangs_on_first f ≡ true → truth (first_of f) ≡ false → holds truth f ≡ false
  falls truth (test a) h fails = fails
  falls truth (negation f) h fails = grind (arith, h)
  falls truth (both f g) h fails = rw (falls truth f h fails) refl
  falls truth (either f g) h fails = grind (arith, h)

  pub hung : (truth : A → Bool) (first : A) (steps : List (Step A)) (hangs : Bool) → IsKept first steps → hangs ≡ hangs_on_first (formula_in first steps)
      → hangs ≡ true → truth first ≡ false → holds truth (formula_in first steps) ≡ false
  hung truth first steps hangs is told h fails = falls truth (formula_in first steps) (sym told ∙ h) (ap truth is.test_is ∙ fails)

  -- what is kept of one test, and of more
  pub kept_alone : (first : A) (steps : List (Step A)) → length steps ≡ 0 → only_test (formula_in first steps) ≡ Some first
  kept_alone first [] none = refl
  kept_alone first (step ∷ rest) none = absurd (omega arith)

  pub kept_more : (first : A) (steps : List (Step A)) → IsKept first steps → (length steps ≡ 0 → ⊥) → only_test (formula_in first steps) ≡ None
  kept_more first steps is more = by (formula_in first steps) is.steps_are where
    by : (f : Formula A) → steps_of f ≡ steps → only_test f ≡ None
    by (test a) e = absurd (more (sym (ap length e)))
    by _ e = refl

  -- two operands, with steps between and behind them that turn nothing round
  pair : (f g : Formula A) (skip mark : Step A) → is_no_inversion skip ≡ true → is_no_inversion mark ≡ true → list_all is_no_inversion (steps_of f) ≡ is_positive f → list_all is_no_inversion (steps_of g) ≡ is_positive g
      → list_all is_no_inversion (steps_of f ++ (skip ∷ (steps_of g ++ mark ∷ []))) ≡ is_positive f && is_positive g
  pair f g skip mark s m left right =
      list_all-append is_no_inversion (steps_of f) (skip ∷ (steps_of g ++ mark ∷ []))
      ∙ ap₂ (λ (a : Bool) (b : Bool). a && (b && list_all is_no_inversion (steps_of g ++ mark ∷ []))) left s
      ∙ ap (λ (b : Bool). is_positive f && b) (list_all-append is_no_inversion (steps_of g) (mark ∷ []) ∙ ap₂ (λ (a : Bool) (b : Bool). a && (b && true)) right m ∙ and-true (is_positive g)) where
        and-true : (b : Bool) → b && true ≡ b
        and-true true = refl
        and-true false = refl

  -- the steps of a formula without a negation turn nothing round
  positive_steps : (f : Formula A) → list_all is_no_inversion (steps_of f) ≡ is_positive f
  positive_steps (test a) = refl
  positive_steps (negation f) = list_all-append is_no_inversion (steps_of f) (Invert ∷ []) ∙ last (list_all is_no_inversion (steps_of f)) where
    last : (b : Bool) → b && false ≡ false
    last true = refl
    last false = refl
  positive_steps (both f g) = pair f g (IfTrue (first_of g) (length (steps_of g))) BothEnd refl refl (positive_steps f) (positive_steps g)
  positive_steps (either f g) = pair f g (IfFalse (first_of g) (length (steps_of g))) EitherEnd refl refl (positive_steps f) (positive_steps g)

  pub kept_positive : (first : A) (steps : List (Step A)) → IsKept first steps → list_all is_no_inversion steps ≡ is_positive (formula_in first steps)
  kept_positive first steps is = ap (list_all is_no_inversion) (sym is.steps_are) ∙ positive_steps (formula_in first steps)

  module _ (truth : A → Bool) where
    run_skip : (now : Bool) (front rest : List (Step A)) → run truth now (length front) (front ++ rest) ≡ run truth now 0 rest
    run_skip now [] rest = refl
    run_skip now (step ∷ front) rest = run_skip now front rest

    -- steps that are passed over
    pub run_drop : (now : Bool) (n : ℕ) (steps : List (Step A)) → run truth now n steps ≡ run truth now 0 (drop n steps)
    run_drop now zero steps = refl
    run_drop now (suc n) [] = refl
    run_drop now (suc n) (step ∷ rest) = run_drop now n rest

    run_more : (f : Formula A) (rest : List (Step A)) → run truth (truth (first_of f)) 0 (steps_of f ++ rest) ≡ run truth (holds truth f) 0 rest
    run_more (test a) rest = refl
    run_more (negation f) rest =
        ap (run truth (truth (first_of f)) 0) (append_assoc (steps_of f) (Invert ∷ []) rest) ∙ run_more f (Invert ∷ rest)
    run_more (both f g) rest =
        ap (run truth (truth (first_of f)) 0) (operands (steps_of f) (steps_of g) (IfTrue (first_of g) (length (steps_of g))) BothEnd rest)
        ∙ run_more f (IfTrue (first_of g) (length (steps_of g)) ∷ (steps_of g ++ (BothEnd ∷ rest)))
        ∙ on (holds truth f) (run_more g (BothEnd ∷ rest))
      where
        on : (b : Bool) → run truth (truth (first_of g)) 0 (steps_of g ++ (BothEnd ∷ rest)) ≡ run truth (holds truth g) 0 rest
            → run truth b 0 (IfTrue (first_of g) (length (steps_of g)) ∷ (steps_of g ++ (BothEnd ∷ rest))) ≡ run truth (b && holds truth g) 0 rest
        on true more = more
        on false more = run_skip false (steps_of g) (BothEnd ∷ rest)
    run_more (either f g) rest =
        ap (run truth (truth (first_of f)) 0) (operands (steps_of f) (steps_of g) (IfFalse (first_of g) (length (steps_of g))) EitherEnd rest)
        ∙ run_more f (IfFalse (first_of g) (length (steps_of g)) ∷ (steps_of g ++ (EitherEnd ∷ rest)))
        ∙ on (holds truth f) (run_more g (EitherEnd ∷ rest))
      where
        on : (b : Bool) → run truth (truth (first_of g)) 0 (steps_of g ++ (EitherEnd ∷ rest)) ≡ run truth (holds truth g) 0 rest
            → run truth b 0 (IfFalse (first_of g) (length (steps_of g)) ∷ (steps_of g ++ (EitherEnd ∷ rest))) ≡ run truth (b || holds truth g) 0 rest
        on true more = run_skip true (steps_of g) (EitherEnd ∷ rest)
        on false more = more

    -- what is kept of a formula is true where it is
    pub run_holds : (first : A) (steps : List (Step A)) → IsKept first steps → run truth (truth first) 0 steps ≡ holds truth (formula_in first steps)
    run_holds first steps is =
        let f = formula_in first steps in
        ap (λ a. run truth (truth a) 0 steps) (sym is.test_is) ∙ ap (run truth (truth (first_of f)) 0) (sym is.steps_are ∙ sym (append-nil (steps_of f))) ∙ run_more f []
