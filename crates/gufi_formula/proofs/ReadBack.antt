-- What a formula is written as reads back to it, whatever reads it: a reader is seen by what each sign and each test leads to.
use Rattle.std.proofs.Common.{◌≡◌, ℕ, zero, suc, ◌+◌, ◌<◌, ◌≤◌, true, List, [], ◌∷◌, ◌++◌, max, refl, sym, ap, subst, arith, add-one, ◌∙◌}
use Rattle.std.specs.Prelude.{Option, Some, None}
use Rattle.std.proofs.lemmas.List.Sums.{sum_by-cons}
use Rattle.std.specs.List.{sum_by}
use Rattle.gufi_base.specs.Limits.{max_nesting}
use Rattle.gufi_formula.specs.Formulas.{Formula, test, negation, both, either}
use Rattle.gufi_formula.specs.declared.level.Level.{Level}
use Rattle.gufi_formula.specs.Levels.{new_level, joined_formula, negated_formula, with_term, with_or, with_not, level_formula, closed_into, open_ones}
use Rattle.gufi_formula.specs.Written.{Rank, of_or, of_and, of_not, Spelling, enclosed, written, written_formula, nesting, formula_nesting, EachTest}

-- Where a reader stands: whether it wants a term, or a sign behind one; the innermost level, and those outside it.
pub data Place (A : Type 0) : Type 0 where
  before : Level A → List (Level A) → Place A
  behind : Level A → List (Level A) → Place A

-- a level behind a formula of some rank
abbrev pub level_behind : {A : Type 0} → Formula A → Rank → Level A → Level A
level_behind (test a) rank level = with_term (test a) level
level_behind (negation f) rank level = with_term (negation f) level
level_behind (both f g) rank level = with_term (both f g) level
level_behind (either f g) of_or level = record { ors = Some f; ands = Some g; nots = 0 }
level_behind (either f g) of_and level = with_term (either f g) level
level_behind (either f g) of_not level = with_term (either f g) level

-- where a formula of some rank may stand: "or" joins all that stands in its level, "and" all behind the last "or"
abbrev pub Stands : {A : Type 0} → Rank → Level A → Type 0
Stands of_or level = level ≡ new_level
Stands of_and level = level ≡ record { ors = level.ors; ands = None; nots = 0 }
Stands of_not level = Unit {0}

-- one "not" more
negated_once : {A : Type 0} (n : ℕ) (f : Formula A) → negated_formula (n + 1) f ≡ negated_formula n (negation f)
negated_once n f = ap (λ m. negated_formula m f) (add-one n) ∙ inner n
  where
    inner : (n : ℕ) → negation (negated_formula n f) ≡ negated_formula n (negation f)
    inner zero = refl
    inner (suc n) = ap negation (inner n)

pub whole_behind : {A : Type 0} (f : Formula A) → level_formula (level_behind f of_or new_level) ≡ Some f
whole_behind (test a) = refl
whole_behind (negation f) = refl
whole_behind (both f g) = refl
whole_behind (either f g) = refl

behind_and : {A : Type 0} (f : Formula A) (level : Level A) → level_behind f of_and level ≡ with_term f level
behind_and (test a) level = refl
behind_and (negation f) level = refl
behind_and (both f g) level = refl
behind_and (either f g) level = refl

behind_not : {A : Type 0} (f : Formula A) (level : Level A) → level_behind f of_not level ≡ with_term f level
behind_not (test a) level = refl
behind_not (negation f) level = refl
behind_not (both f g) level = refl
behind_not (either f g) level = refl

-- one level more outside
nots_more : {A : Type 0} (level : Level A) (outer : List (Level A)) → sum_by (λ (l : Level A). l.nots) (level ∷ outer) ≡ level.nots + sum_by (λ (l : Level A). l.nots) outer
nots_more level outer = sum_by-cons (λ l. l.nots) level outer

-- a level behind "or", with nothing yet behind it
abbrev fresh : {A : Type 0} → Option (Formula A) → Level A
fresh ors = record { ors = ors; ands = None; nots = 0 }

module _ {A W : Type 0} (spelling : Spelling A W) (Readable : A → Type 0) (Leads : Place A → List W → Place A → Type 0) where
  -- what a reader does at each sign
  pub record Reads : Type 0 where
    pub joins : (s t u : Place A) (words more : List W) → Leads s words t → Leads t more u → Leads s (words ++ more) u
    pub tests : (a : A) (level : Level A) (outer : List (Level A)) → Readable a → Leads (before level outer) (spelling.test_words a) (behind (with_term (test a) level) outer)
    pub opens : (level : Level A) (outer : List (Level A)) → open_ones level outer < max_nesting → Leads (before level outer) (spelling.open_word ∷ []) (before new_level (level ∷ outer))
    pub closes : (inner level : Level A) (outer : List (Level A)) → Leads (behind inner (level ∷ outer)) (spelling.close_word ∷ []) (behind (closed_into (level_formula inner) level) outer)
    pub inverts : (level : Level A) (outer : List (Level A)) → open_ones level outer < max_nesting → Leads (before level outer) (spelling.not_word ∷ []) (before (with_not level) outer)
    pub ands : (level : Level A) (outer : List (Level A)) → Leads (behind level outer) (spelling.and_word ∷ []) (before level outer)
    pub ors : (level : Level A) (outer : List (Level A)) → Leads (behind level outer) (spelling.or_word ∷ []) (before (with_or level) outer)

  -- the words of a formula lead behind it
  ReadBack : Formula A → Type 0
  ReadBack f = (rank : Rank) (level : Level A) (outer : List (Level A)) → Stands rank level → nesting f rank + open_ones level outer ≤ max_nesting
      → Leads (before level outer) (written spelling f rank) (behind (level_behind f rank level) outer)

  module _ (r : Reads) where
    at_and : (f : Formula A) → ReadBack f → (ors : Option (Formula A)) (outer : List (Level A)) → nesting f of_and + open_ones (fresh ors) outer ≤ max_nesting
        → Leads (before (fresh ors) outer) (written spelling f of_and) (behind (with_term f (fresh ors)) outer)
    unfolding ReadBack
    at_and f back ors outer few =
        subst (λ l. Leads (before (fresh ors) outer) (written spelling f of_and) (behind l outer)) (behind_and f (fresh ors)) (back of_and (fresh ors) outer refl few)

    at_not : (f : Formula A) → ReadBack f → (level : Level A) (outer : List (Level A)) → nesting f of_not + open_ones level outer ≤ max_nesting
        → Leads (before level outer) (written spelling f of_not) (behind (with_term f level) outer)
    unfolding ReadBack
    at_not f back level outer few =
        subst (λ l. Leads (before level outer) (written spelling f of_not) (behind l outer)) (behind_not f level) (back of_not level outer tt few)

    -- what stands in parentheses is one term
    in_parentheses : (f : Formula A) (words : List W) (inner level : Level A) (outer : List (Level A)) → level_formula inner ≡ Some f → open_ones level outer < max_nesting
        → Leads (before new_level (level ∷ outer)) words (behind inner (level ∷ outer)) → Leads (before level outer) (enclosed spelling true words) (behind (with_term f level) outer)
    in_parentheses f words inner level outer whole few led =
        let closed = subst (λ o. Leads (behind inner (level ∷ outer)) (spelling.close_word ∷ []) (behind (closed_into o level) outer)) whole (r.closes inner level outer) in
        r.joins (before level outer) (before new_level (level ∷ outer)) (behind (with_term f level) outer) (spelling.open_word ∷ []) (words ++ spelling.close_word ∷ [])
        (r.opens level outer few)
        (r.joins (before new_level (level ∷ outer)) (behind inner (level ∷ outer)) (behind (with_term f level) outer) words (spelling.close_word ∷ []) led closed)

    negation_back : (f : Formula A) → ReadBack f → ReadBack (negation f)
    unfolding ReadBack
    negation_back f back rank level outer stands few =
        let same = ap (λ g. record { ors = level.ors; ands = Some (joined_formula both level.ands g); nots = 0 }) (negated_once level.nots f) in
        subst (λ l. Leads (before level outer) (spelling.not_word ∷ written spelling f of_not) (behind l outer)) same
        (r.joins (before level outer) (before (with_not level) outer) (behind (with_term f (with_not level)) outer) (spelling.not_word ∷ []) (written spelling f of_not)
        (r.inverts level outer (omega arith))
        (at_not f back (with_not level) outer (omega arith)))

    both_words : (f g : Formula A) → ReadBack f → ReadBack g → (ors : Option (Formula A)) (outer : List (Level A)) → max (nesting f of_and) (nesting g of_not) + open_ones (fresh ors) outer ≤ max_nesting
        → Leads (before (fresh ors) outer) (written spelling f of_and ++ spelling.and_word ∷ written spelling g of_not) (behind (with_term (both f g) (fresh ors)) outer)
    both_words f g back_f back_g ors outer few =
        let front = with_term f (fresh ors) in
        r.joins (before (fresh ors) outer) (behind front outer) (behind (with_term g front) outer) (written spelling f of_and) (spelling.and_word ∷ written spelling g of_not)
        (at_and f back_f ors outer (omega arith))
        (r.joins (behind front outer) (before front outer) (behind (with_term g front) outer) (spelling.and_word ∷ []) (written spelling g of_not) (r.ands front outer) (at_not g back_g front outer (omega arith)))

    both_back : (f g : Formula A) → ReadBack f → ReadBack g → ReadBack (both f g)
    unfolding ReadBack
    both_back f g back_f back_g of_or level outer stands few =
        subst (λ l. Leads (before l outer) (written spelling (both f g) of_or) (behind (with_term (both f g) l) outer)) (sym stands)
        (both_words f g back_f back_g None outer (omega (arith, ap (λ (l : Level A). l.nots) stands)))
    both_back f g back_f back_g of_and level outer stands few =
        subst (λ l. Leads (before l outer) (written spelling (both f g) of_and) (behind (with_term (both f g) l) outer)) (sym stands)
        (both_words f g back_f back_g level.ors outer (omega (arith, ap (λ (l : Level A). l.nots) stands)))
    both_back f g back_f back_g of_not level outer stands few =
        in_parentheses (both f g) (written spelling (both f g) of_and) (with_term (both f g) new_level) level outer refl (omega arith)
        (both_words f g back_f back_g None (level ∷ outer) (omega (arith, nots_more level outer)))

    either_words : (f g : Formula A) → ReadBack f → ReadBack g → (outer : List (Level A)) → max (nesting f of_or) (nesting g of_and) + open_ones {A = A} new_level outer ≤ max_nesting
        → Leads (before new_level outer) (written spelling f of_or ++ spelling.or_word ∷ written spelling g of_and) (behind (level_behind (either f g) of_or new_level) outer)
    unfolding ReadBack
    either_words f g back_f back_g outer few =
        let front = level_behind f of_or new_level in
        let last = level_behind (either f g) of_or new_level in
        let joined = subst (λ (o : Option (Formula A)). Leads (behind front outer) (spelling.or_word ∷ []) (before (fresh o) outer)) (whole_behind f) (r.ors front outer) in
        r.joins (before new_level outer) (behind front outer) (behind last outer) (written spelling f of_or) (spelling.or_word ∷ written spelling g of_and)
        (back_f of_or new_level outer refl (omega arith))
        (r.joins (behind front outer) (before (fresh (Some f)) outer) (behind last outer) (spelling.or_word ∷ []) (written spelling g of_and) joined (at_and g back_g (Some f) outer (omega arith)))

    either_back : (f g : Formula A) → ReadBack f → ReadBack g → ReadBack (either f g)
    unfolding ReadBack
    either_back f g back_f back_g of_or level outer stands few =
        subst (λ l. Leads (before l outer) (written spelling (either f g) of_or) (behind (level_behind (either f g) of_or new_level) outer)) (sym stands)
        (either_words f g back_f back_g outer (omega (arith, ap (λ (l : Level A). l.nots) stands)))
    either_back f g back_f back_g of_and level outer stands few =
        in_parentheses (either f g) (written spelling (either f g) of_or) (level_behind (either f g) of_or new_level) level outer refl (omega arith)
        (either_words f g back_f back_g (level ∷ outer) (omega (arith, nots_more level outer)))
    either_back f g back_f back_g of_not level outer stands few =
        in_parentheses (either f g) (written spelling (either f g) of_or) (level_behind (either f g) of_or new_level) level outer refl (omega arith)
        (either_words f g back_f back_g (level ∷ outer) (omega (arith, nots_more level outer)))

    each_back : (f : Formula A) → EachTest Readable f → ReadBack f
    unfolding ReadBack
    each_back (test a) readable = λ rank level outer stands few. r.tests a level outer readable
    each_back (negation f) readable = negation_back f (each_back f readable)
    each_back (both f g) readable = both_back f g (each_back f readable.0) (each_back g readable.1)
    each_back (either f g) readable = either_back f g (each_back f readable.0) (each_back g readable.1)

    -- what a formula is written as leads behind it
    pub read_back : (f : Formula A) → EachTest Readable f → formula_nesting f ≤ max_nesting → Leads (before new_level []) (written_formula spelling f) (behind (level_behind f of_or new_level) [])
    unfolding ReadBack
    read_back f readable few = each_back f readable of_or new_level [] refl (omega arith)
