-- Hints in postfix order give their formula back, and may hold where it holds.
use Rattle.std.proofs.Common.{◌≡◌, Bool, true, false, List, [], ◌∷◌, ◌++◌, length, refl, sym, ap, ◌∙◌, subst, append_assoc, append-nil}
use Rattle.std.specs.Prelude.{Option, Some, None, not, ◌&&◌, ◌||◌, if◌then◌else◌}
use Rattle.std.specs.List.{flat_map}
use Rattle.std.proofs.lemmas.Bool.{false≢true}
use Rattle.gufi_base.specs.declared.record.Meta.{Meta}
use Rattle.gufi_base.specs.declared.record.Row.{Row}
use Rattle.gufi_base.specs.Kinds.{is_file}
use Rattle.gufi_formula.specs.Leaves.{tells}
use Rattle.gufi_base.specs.declared.hint.Hint.{Hint}
use Rattle.gufi_base.specs.declared.hint.Hint.TheVariants.{Kind, SizeIn, MtimeIn, UidIn, GidIn, Unknown, Not, And, Or}
use Rattle.gufi_formula.specs.Formulas.{Formula, test, negation, both, either, holds}
use Rattle.gufi_formula.specs.Steps.{first_of, steps_of, formula_in, IsKept}
use Rattle.gufi_formula.specs.declared.step.Step.{Step}
use Rattle.gufi_formula.specs.declared.step.Step.TheVariants.{Invert, IfTrue, IfFalse, BothEnd, EitherEnd}
use Rattle.gufi_formula.proofs.RangeLemmas.{InRange, in_sums}
use Rattle.gufi_formula.proofs.Running.{operands}
use Rattle.gufi_formula.specs.StepHints.{step_hints}
use Rattle.gufi_formula.specs.Hints.{postfix, with_hint, hints_behind, only_one, formula_of, AreWhole, Chance, certain, turned, both_chances, either_chance, chance, chance_at, chance_or, is_size, chance_told, fits_sums, may_hold}

-- ---- hints one behind another

hints_behind-append : (a b : List Hint) (o : Option (List (Formula Hint))) → hints_behind (a ++ b) o ≡ hints_behind b (hints_behind a o)
hints_behind-append a b None = refl
hints_behind-append [] b (Some stack) = refl
hints_behind-append (hint ∷ a) b (Some stack) = hints_behind-append a b (with_hint hint stack)

-- the same above other formulas
above : List (Formula Hint) → Option (List (Formula Hint)) → Option (List (Formula Hint))
above more None = None
above more (Some stack) = Some (stack ++ more)

with_hint-more : (hint : Hint) (stack more left : List (Formula Hint)) → with_hint hint stack ≡ Some left → with_hint hint (stack ++ more) ≡ Some (left ++ more)
with_hint-more (Kind kind) stack more left e = cc
with_hint-more (SizeIn first last) stack more left e = cc
with_hint-more (MtimeIn first last) stack more left e = cc
with_hint-more (UidIn first last) stack more left e = cc
with_hint-more (GidIn first last) stack more left e = cc
with_hint-more Unknown stack more left e = cc
with_hint-more Not [] more left e = cc
with_hint-more Not (f ∷ stack) more left e = cc
with_hint-more And [] more left e = cc
with_hint-more And (g ∷ []) more left e = cc
with_hint-more And (g ∷ (f ∷ stack)) more left e = cc
with_hint-more Or [] more left e = cc
with_hint-more Or (g ∷ []) more left e = cc
with_hint-more Or (g ∷ (f ∷ stack)) more left e = cc

behind_hint : (hints : List Hint) (o more_o : Option (List (Formula Hint))) (more left : List (Formula Hint))
    → ((stack : List (Formula Hint)) → o ≡ Some stack → more_o ≡ Some (stack ++ more))
    → ((stack : List (Formula Hint)) → hints_behind hints (Some stack) ≡ Some left → hints_behind hints (Some (stack ++ more)) ≡ Some (left ++ more))
    → hints_behind hints o ≡ Some left → hints_behind hints more_o ≡ Some (left ++ more)
behind_hint hints None more_o more left at next e = cc
behind_hint hints (Some stack) more_o more left at next e = ap (hints_behind hints) (at stack refl) ∙ next stack e

hints_behind-more : (hints : List Hint) (stack more left : List (Formula Hint)) → hints_behind hints (Some stack) ≡ Some left → hints_behind hints (Some (stack ++ more)) ≡ Some (left ++ more)
hints_behind-more [] stack more left e = cc
hints_behind-more (hint ∷ rest) stack more left e =
    behind_hint rest (with_hint hint stack) (with_hint hint (stack ++ more)) more left (λ s. with_hint-more hint stack more s) (λ s. hints_behind-more rest s more left) e

only_left : (o : Option (List (Formula Hint))) (f : Formula Hint) → only_one o ≡ Some f → o ≡ Some (f ∷ [])
only_left None f e = cc
only_left (Some []) f e = cc
only_left (Some (g ∷ [])) f e = cc
only_left (Some (g ∷ (h ∷ rest))) f e = cc

-- whole hints leave their formula, whatever stands before and behind them
leaf_read : (hints : List Hint) (f : Formula Hint) → formula_of hints ≡ Some f → (rest : List Hint) (stack : List (Formula Hint))
    → hints_behind (hints ++ rest) (Some stack) ≡ hints_behind rest (Some (f ∷ stack))
unfolding formula_of
leaf_read hints f e rest stack =
    hints_behind-append hints rest (Some stack) ∙ ap (hints_behind rest) (hints_behind-more hints [] stack (f ∷ []) (only_left (hints_behind hints (Some [])) f e))

-- ---- formulas of hints

module _ {A : Type 0} where
  -- the formula with these in place of its tests
  abbrev pub joined : (A → Formula Hint) → Formula A → Formula Hint
  joined of (test a) = of a
  joined of (negation f) = negation (joined of f)
  joined of (both f g) = both (joined of f) (joined of g)
  joined of (either f g) = either (joined of f) (joined of g)

  pub hinted_formula : (leaf : A → List Hint) → ((a : A) → AreWhole (leaf a)) → Formula A → Formula Hint
  hinted_formula leaf whole f = joined (λ a. (whole a).0) f

  module _ (leaf : A → List Hint) (whole : (a : A) → AreWhole (leaf a)) where
    two_behind : (f g : Formula A) (sign : Hint) (rest : List Hint) (stack : List (Formula Hint))
        → hints_behind ((postfix leaf f ++ (postfix leaf g ++ sign ∷ [])) ++ rest) (Some stack) ≡ hints_behind (postfix leaf f ++ (postfix leaf g ++ (sign ∷ rest))) (Some stack)
    two_behind f g sign rest stack =
        ap (λ l. hints_behind l (Some stack)) (append_assoc (postfix leaf f) (postfix leaf g ++ sign ∷ []) rest ∙ ap (λ l. postfix leaf f ++ l) (append_assoc (postfix leaf g) (sign ∷ []) rest))

    pub postfix_read : (f : Formula A) (rest : List Hint) (stack : List (Formula Hint))
        → hints_behind (postfix leaf f ++ rest) (Some stack) ≡ hints_behind rest (Some (joined (λ a. (whole a).0) f ∷ stack))
    postfix_read (test a) rest stack = leaf_read (leaf a) (whole a).0 (whole a).1 rest stack
    postfix_read (negation f) rest stack =
        ap (λ l. hints_behind l (Some stack)) (append_assoc (postfix leaf f) (Not ∷ []) rest) ∙ postfix_read f (Not ∷ rest) stack
    postfix_read (both f g) rest stack =
        two_behind f g And rest stack ∙ postfix_read f (postfix leaf g ++ (And ∷ rest)) stack ∙ postfix_read g (And ∷ rest) (joined (λ a. (whole a).0) f ∷ stack)
    postfix_read (either f g) rest stack =
        two_behind f g Or rest stack ∙ postfix_read f (postfix leaf g ++ (Or ∷ rest)) stack ∙ postfix_read g (Or ∷ rest) (joined (λ a. (whole a).0) f ∷ stack)

    pub postfix_formula : (f : Formula A) → formula_of (postfix leaf f) ≡ Some (joined (λ a. (whole a).0) f)
    unfolding formula_of
    postfix_formula f = ap (λ l. only_one (hints_behind l (Some []))) (sym (append-nil (postfix leaf f))) ∙ ap only_one (postfix_read f [] [])

    pub postfix_whole : (f : Formula A) → AreWhole (postfix leaf f)
    postfix_whole f = (joined (λ a. (whole a).0) f, postfix_formula f)

-- ---- chances

-- what is so may be
pub record Covers (c : Chance) (b : Bool) : Type 0 where
  pub holds : b ≡ true → c.holds ≡ true
  pub fails : b ≡ false → c.fails ≡ true

pub certain_covers : (c : Chance) (b : Bool) → c ≡ certain b → Covers c b
certain_covers c true e = record { holds = λ _. ap (λ (d : Chance). d.holds) e; fails = λ f. cc }
certain_covers c false e = record { holds = λ f. cc; fails = λ _. ap (λ (d : Chance). d.fails) e }

-- a hint that is certain, or of which sums tell nothing
hint_covers : (meta : Meta) (hint : Hint) (b : Bool) → (tells hint ≡ true → chance_at meta hint ≡ certain b) → Covers (chance_at meta hint) b
hint_covers meta Unknown b exact = record { holds = λ _. refl; fails = λ _. refl }
hint_covers meta Not b exact = record { holds = λ _. refl; fails = λ _. refl }
hint_covers meta And b exact = record { holds = λ _. refl; fails = λ _. refl }
hint_covers meta Or b exact = record { holds = λ _. refl; fails = λ _. refl }
hint_covers meta (Kind kind) b exact = certain_covers (chance_at meta (Kind kind)) b (exact refl)
hint_covers meta (SizeIn first last) b exact = certain_covers (chance_at meta (SizeIn first last)) b (exact refl)
hint_covers meta (MtimeIn first last) b exact = certain_covers (chance_at meta (MtimeIn first last)) b (exact refl)
hint_covers meta (UidIn first last) b exact = certain_covers (chance_at meta (UidIn first last)) b (exact refl)
hint_covers meta (GidIn first last) b exact = certain_covers (chance_at meta (GidIn first last)) b (exact refl)

-- a hint that is certain of the numbers that sums hold
pub told_covers : (meta : Meta) (hint : Hint) (b : Bool) → fits_sums meta ≡ true → (InRange meta hint → tells hint ≡ true → chance_at meta hint ≡ certain b) → Covers (chance_told meta hint) b
told_covers meta hint b fits exact = by (is_size hint) (is_file meta.kind) refl refl where
  by : (s f : Bool) → is_size hint ≡ s → is_file meta.kind ≡ f → Covers (if s && not f then record { holds = true; fails = true } else chance_at meta hint) b
  by true false e file = record { holds = λ _. refl; fails = λ _. refl }
  by true true e file = hint_covers meta hint b (exact (in_sums meta hint fits (λ s. file)))
  by false f e file = hint_covers meta hint b (exact (in_sums meta hint fits (λ s. absurd (false≢true (sym e ∙ s)))))

-- of numbers out of range hints tell nothing
pub may_hold_within : (hints : List Hint) (row : Row) → (fits_sums row.rec.meta ≡ true → (chance_or (chance_told row.rec.meta) (formula_of hints)).holds ≡ true) → may_hold hints row ≡ true
unfolding may_hold
may_hold_within hints row within = by (fits_sums row.rec.meta) refl where
  by : (b : Bool) → fits_sums row.rec.meta ≡ b → (not b || (chance_or (chance_told row.rec.meta) (formula_of hints)).holds) ≡ true
  by true e = within e
  by false e = refl

or_true : (b : Bool) → b || true ≡ true
or_true true = refl
or_true false = refl

pub covers_turned : (c : Chance) (b : Bool) → Covers c b → Covers (turned c) (not b)
covers_turned c true k = record { holds = λ e. cc; fails = λ e. k.holds refl }
covers_turned c false k = record { holds = λ e. k.fails refl; fails = λ e. cc }

pub covers_both : (c d : Chance) (a b : Bool) → Covers c a → Covers d b → Covers (both_chances c d) (a && b)
covers_both c d true true k l = record { holds = λ e. rw (k.holds refl, l.holds refl) refl; fails = λ e. cc }
covers_both c d true false k l = record { holds = λ e. cc; fails = λ e. rw (l.fails refl) (or_true c.fails) }
covers_both c d false b k l = record { holds = λ e. cc; fails = λ e. rw (k.fails refl) refl }

covers_either : (c d : Chance) (a b : Bool) → Covers c a → Covers d b → Covers (either_chance c d) (a || b)
covers_either c d false false k l = record { holds = λ e. cc; fails = λ e. rw (k.fails refl, l.fails refl) refl }
covers_either c d false true k l = record { holds = λ e. rw (l.holds refl) (or_true c.holds); fails = λ e. cc }
covers_either c d true b k l = record { holds = λ e. rw (k.holds refl) refl; fails = λ e. cc }

module _ {A : Type 0} where
  pub joined_covers : (at : Hint → Chance) (of : A → Formula Hint) (truth : A → Bool) → ((a : A) → Covers (chance at (of a)) (truth a))
      → (f : Formula A) → Covers (chance at (joined of f)) (holds truth f)
  joined_covers at of truth each (test a) = each a
  joined_covers at of truth each (negation f) = covers_turned (chance at (joined of f)) (holds truth f) (joined_covers at of truth each f)
  joined_covers at of truth each (both f g) = covers_both (chance at (joined of f)) (chance at (joined of g)) (holds truth f) (holds truth g) (joined_covers at of truth each f) (joined_covers at of truth each g)
  joined_covers at of truth each (either f g) = covers_either (chance at (joined of f)) (chance at (joined of g)) (holds truth f) (holds truth g) (joined_covers at of truth each f) (joined_covers at of truth each g)

  -- where each test's hints cover its truth, those of a formula cover its own
  pub postfix_covers : (leaf : A → List Hint) (whole : (a : A) → AreWhole (leaf a)) (at : Hint → Chance) (truth : A → Bool)
      → ((a : A) → Covers (chance_or at (formula_of (leaf a))) (truth a)) → (f : Formula A) → Covers (chance at (joined (λ a. (whole a).0) f)) (holds truth f)
  postfix_covers leaf whole at truth each = joined_covers at (λ a. (whole a).0) truth (λ a. subst (λ o. Covers (chance_or at o) (truth a)) (whole a).1 (each a))

  pub postfix_may_hold : (leaf : A → List Hint) (whole : (a : A) → AreWhole (leaf a)) (row : Row) (truth : A → Bool)
      → (fits_sums row.rec.meta ≡ true → (a : A) → Covers (chance_or (chance_told row.rec.meta) (formula_of (leaf a))) (truth a))
      → (f : Formula A) → holds truth f ≡ true → may_hold (postfix leaf f) row ≡ true
  postfix_may_hold leaf whole row truth each f e =
      may_hold_within (postfix leaf f) row (λ fits. ap (λ o. (chance_or (chance_told row.rec.meta) o).holds) (postfix_formula leaf whole f)
      ∙ ((postfix_covers leaf whole (chance_told row.rec.meta) truth (each fits) f).holds e))

  -- ---- steps

  -- two operands, with the hints between and behind them
  two_more : (leaf : A → List Hint) (f g : Formula A) (skip mark : Step A) (sign : Hint) (rest : List (Step A)) → step_hints leaf skip ≡ leaf (first_of g) → step_hints leaf mark ≡ sign ∷ []
      → ((more : List (Step A)) → leaf (first_of f) ++ flat_map (step_hints leaf) (steps_of f ++ more) ≡ postfix leaf f ++ flat_map (step_hints leaf) more)
      → ((more : List (Step A)) → leaf (first_of g) ++ flat_map (step_hints leaf) (steps_of g ++ more) ≡ postfix leaf g ++ flat_map (step_hints leaf) more)
      → leaf (first_of f) ++ flat_map (step_hints leaf) ((steps_of f ++ (skip ∷ (steps_of g ++ mark ∷ []))) ++ rest)
      ≡ (postfix leaf f ++ (postfix leaf g ++ sign ∷ [])) ++ flat_map (step_hints leaf) rest
  two_more leaf f g skip mark sign rest s m left right =
      let last = flat_map (step_hints leaf) rest in
      ap (λ l. leaf (first_of f) ++ flat_map (step_hints leaf) l) (operands (steps_of f) (steps_of g) skip mark rest)
      ∙ left (skip ∷ (steps_of g ++ (mark ∷ rest)))
      ∙ ap (λ l. postfix leaf f ++ (l ++ flat_map (step_hints leaf) (steps_of g ++ (mark ∷ rest)))) s
      ∙ ap (λ l. postfix leaf f ++ l) (right (mark ∷ rest))
      ∙ ap (λ l. postfix leaf f ++ (postfix leaf g ++ (l ++ last))) m
      ∙ sym (append_assoc (postfix leaf f) (postfix leaf g ++ sign ∷ []) last ∙ ap (λ l. postfix leaf f ++ l) (append_assoc (postfix leaf g) (sign ∷ []) last))

  steps_more : (leaf : A → List Hint) (f : Formula A) (rest : List (Step A))
      → leaf (first_of f) ++ flat_map (step_hints leaf) (steps_of f ++ rest) ≡ postfix leaf f ++ flat_map (step_hints leaf) rest
  steps_more leaf (test a) rest = refl
  steps_more leaf (negation f) rest =
      ap (λ l. leaf (first_of f) ++ flat_map (step_hints leaf) l) (append_assoc (steps_of f) (Invert ∷ []) rest)
      ∙ steps_more leaf f (Invert ∷ rest)
      ∙ sym (append_assoc (postfix leaf f) (Not ∷ []) (flat_map (step_hints leaf) rest))
  steps_more leaf (both f g) rest = two_more leaf f g (IfTrue (first_of g) (length (steps_of g))) BothEnd And rest refl refl (steps_more leaf f) (steps_more leaf g)
  steps_more leaf (either f g) rest = two_more leaf f g (IfFalse (first_of g) (length (steps_of g))) EitherEnd Or rest refl refl (steps_more leaf f) (steps_more leaf g)

  -- what is kept of a formula, behind other hints
  pub kept_hints : (leaf : A → List Hint) (before : List Hint) (first : A) (steps : List (Step A)) → IsKept first steps
      → (before ++ leaf first) ++ flat_map (step_hints leaf) steps ≡ before ++ postfix leaf (formula_in first steps)
  kept_hints leaf before first steps is =
      let f = formula_in first steps in
      append_assoc before (leaf first) (flat_map (step_hints leaf) steps)
      ∙ ap (λ a. before ++ (leaf a ++ flat_map (step_hints leaf) steps)) (sym is.test_is)
      ∙ ap (λ l. before ++ (leaf (first_of f) ++ flat_map (step_hints leaf) l)) (sym is.steps_are ∙ sym (append-nil (steps_of f)))
      ∙ ap (λ l. before ++ l) (steps_more leaf f [] ∙ append-nil (postfix leaf f))
