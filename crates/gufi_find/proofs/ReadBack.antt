-- The words of a formula read back to it.
use Rattle.std.proofs.Common.{◌≡◌, ℕ, ◌+◌, ◌<◌, ◌≤◌, false, List, [], ◌∷◌, ◌++◌, length, refl, sym, ap, ◌∙◌, inl, inr, arith, leb, append_assoc, append-nil, length-append}
use Rattle.std.specs.Prelude.{ℤ, Option, Some, None, Ok, codes, bytes_eq, unwrap_or}
use Rattle.std.proofs.lemmas.Bool.{cases_Bool}
use Rattle.std.proofs.lemmas.Bool.Decides.{nat_tests}
use Rattle.std.proofs.lemmas.Slice.Eq.{bytes_eq-Decides}
use Rattle.gufi_base.specs.Limits.{max_nesting}
use Rattle.gufi_base.specs.Basics.{◌>>=◌}
use Rattle.gufi_formula.specs.declared.level.Level.{Level}
use Rattle.gufi_formula.specs.Formulas.{Formula, test, negation, both, either}
use Rattle.gufi_formula.specs.Levels.{new_level, with_term, open_ones}
use Rattle.gufi_formula.specs.Written.{Rank, of_or, of_and, of_not, EachTest, formula_nesting, written, written_formula}
use Rattle.gufi_formula.proofs.ReadBack.{Place, before, behind, Reads, read_back, whole_behind}
use Rattle.gufi_users.specs.Entries.{UserTables}
use Rattle.gufi_find.specs.declared.test.Test.{Test}
use Rattle.gufi_find.specs.declared.test.Test.TheVariants.{Always}
use Rattle.gufi_find.specs.declared.primary.PrimaryName.{PrimaryName}
use Rattle.gufi_find.specs.declared.place.Place.TheVariants as places
use Rattle.gufi_find.specs.Operands.{primary_named}
use Rattle.gufi_find.specs.Reading.{State, wants_primary, wants_operator, read_word, at_word, first_place, read_find_words, read_find}
use Rattle.gufi_find.specs.Spelled.{IsSpelled, alone, taking, find_spelling}

-- where a reader of words stands
state_at : Place Test → State
state_at (before level outer) = record { place = places.Primary; level = level; outer = outer; least = 0; most = None }
state_at (behind level outer) = record { place = places.Operator; level = level; outer = outer; least = 0; most = None }

room : (count : ℕ) → count < 64 → leb 64 count ≡ false
room count few = grind (arith, nat_tests)

-- a word that begins a primary is no sign
other_word : (word sign : List ℕ) (name : PrimaryName) → primary_named sign ≡ None → primary_named word ≡ Some name → bytes_eq word sign ≡ false
other_word word sign name no_name named =
    elim (cases_Bool (bytes_eq word sign)) [
      | inl same ↦ let clash : Some name ≡ None = sym named ∙ ap primary_named ((bytes_eq-Decides word sign).0 same) ∙ no_name in absurd (cc)
      | inr other ↦ other
    ]

module _ (tables : UserTables) (now : Option ℤ) where
  -- words lead from one state to another, whatever follows them
  Led : State → List (List ℕ) → State → Type 0
  Led s words t = (n : ℕ) (more : List (List ℕ)) → read_find_words tables now n s (words ++ more) ≡ read_find_words tables now (n + length words) t more

  led_join : (s t u : State) (words more : List (List ℕ)) → Led s words t → Led t more u → Led s (words ++ more) u
  unfolding Led
  led_join s t u words more first last n rest =
      let long : n + length words + length more ≡ n + length (words ++ more) = omega (arith, length-append words more) in
      ap (read_find_words tables now n s) (append_assoc words more rest) ∙ first n (more ++ rest) ∙ last (n + length words) rest
      ∙ ap (λ m. read_find_words tables now m u rest) long

  led_word : (s t : State) (word : List ℕ) → read_word tables now s s.place word ≡ Ok t → Led s (word ∷ []) t
  unfolding Led read_find_words
  led_word s t word e n more = ap (λ given. at_word n given >>= λ next. read_find_words tables now (n + 1) next more) e

  led_test : (t : Test) (words : List (List ℕ)) (level : Level Test) (outer : List (Level Test)) → IsSpelled tables now t words → Led (state_at (before level outer)) words (state_at (behind (with_term (test t) level) outer))
  unfolding state_at wants_primary primary_named
  led_test t words level outer (alone {word} {name} named is) =
      led_word (state_at (before level outer)) (state_at (behind (with_term (test t) level) outer)) word
      (rw (other_word word (codes ")") name refl named, other_word word (codes "(") name refl named, other_word word (codes "!") name refl named, named, is) refl)
  led_test t words level outer (taking {word} {argument} {name} {operand} named is reads) =
      let s = state_at (before level outer) in
      let wanting = record s { place = places.Argument operand } in
      let end = state_at (behind (with_term (test t) level) outer) in
      led_join s wanting end (word ∷ []) (argument ∷ [])
      (led_word s wanting word
      (rw (other_word word (codes ")") name refl named, other_word word (codes "(") name refl named, other_word word (codes "!") name refl named, named, is) refl))
      (led_word wanting end argument (rw reads refl))

  module _ (spelled : Test → List (List ℕ)) where
    reads : Reads (find_spelling spelled) (λ t. IsSpelled tables now t (spelled t)) (λ s words t. Led (state_at s) words (state_at t))
    unfolding state_at wants_primary wants_operator
    reads = record {
      joins = λ s t u words more first last. led_join (state_at s) (state_at t) (state_at u) words more first last;
      tests = λ t level outer readable. led_test t (spelled t) level outer readable;
      opens = λ level outer few. led_word (state_at (before level outer)) (state_at (before new_level (level ∷ outer))) (codes "(") (rw (room (open_ones level outer) few) refl);
      closes = λ inner level outer. led_word (state_at (behind inner (level ∷ outer))) (state_at (behind _ outer)) (codes ")") refl;
      inverts = λ level outer few. led_word (state_at (before level outer)) (state_at (before _ outer)) (codes "!") (rw (room (open_ones level outer) few) refl);
      ands = λ level outer. led_word (state_at (behind level outer)) (state_at (before level outer)) (codes "-a") refl;
      ors = λ level outer. led_word (state_at (behind level outer)) (state_at (before _ outer)) (codes "-o") refl;
    }

    -- a formula has a first word
    begun_more : (words more : List (List ℕ)) → first_place words ≡ places.Primary → first_place (words ++ more) ≡ places.Primary
    begun_more [] more e = cc
    begun_more (word ∷ words) more e = refl

    begun_test : (t : Test) (words : List (List ℕ)) → IsSpelled tables now t words → first_place words ≡ places.Primary
    begun_test t words (alone named is) = refl
    begun_test t words (taking named is reads) = refl

    begun : (f : Formula Test) (rank : Rank) → EachTest (λ t. IsSpelled tables now t (spelled t)) f → first_place (written (find_spelling spelled) f rank) ≡ places.Primary
    begun (test t) rank readable = begun_test t (spelled t) readable
    begun (negation f) rank readable = refl
    begun (both f g) of_or readable = begun_more (written (find_spelling spelled) f of_and) (codes "-a" ∷ written (find_spelling spelled) g of_not) (begun f of_and readable.0)
    begun (both f g) of_and readable = begun_more (written (find_spelling spelled) f of_and) (codes "-a" ∷ written (find_spelling spelled) g of_not) (begun f of_and readable.0)
    begun (both f g) of_not readable = refl
    begun (either f g) of_or readable = begun_more (written (find_spelling spelled) f of_or) (codes "-o" ∷ written (find_spelling spelled) g of_and) (begun f of_or readable.0)
    begun (either f g) of_and readable = refl
    begun (either f g) of_not readable = refl

    pub expression_back : (f : Formula Test) → EachTest (λ t. IsSpelled tables now t (spelled t)) f → formula_nesting f ≤ max_nesting
        → read_find (written_formula (find_spelling spelled) f) tables now ≡ Ok (record { expr = f; least_depth = 0; most_depth = None })
    unfolding Led state_at read_find read_find_words
    expression_back f readable few =
        let words = written_formula (find_spelling spelled) f in
        let led = read_back (find_spelling spelled) (λ t. IsSpelled tables now t (spelled t)) (λ s words t. Led (state_at s) words (state_at t)) reads f readable few in
        ap (λ place. read_find_words tables now 1 (record { place = place; level = new_level; outer = []; least = 0; most = None }) words) (begun f of_or readable)
        ∙ ap (read_find_words tables now 1 (state_at (before new_level []))) (sym (append-nil words))
        ∙ led 1 []
        ∙ ap (λ (whole : Option (Formula Test)). Ok (record { expr = unwrap_or whole (test Always); least_depth = 0; most_depth = None })) (whole_behind f)
