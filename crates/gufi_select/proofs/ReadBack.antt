-- The tokens of a condition read back to it.
use Rattle.std.proofs.Common.{◌≡◌, ℕ, suc, ◌<◌, ◌≤◌, false, List, [], ◌∷◌, ◌++◌, length, map, refl, sym, ap, ◌∙◌, arith, leb, append_assoc, append-nil}
use Rattle.std.specs.Prelude.{pos, negsuc, Option, Some, None, Ok}
use Rattle.std.proofs.lemmas.Bool.Decides.{nat_tests}
use Rattle.gufi_base.specs.Limits.{max_nesting}
use Rattle.gufi_base.specs.Basics.{◌>>=◌}
use Rattle.gufi_formula.specs.declared.level.Level.{Level}
use Rattle.gufi_formula.specs.Formulas.{Formula, test}
use Rattle.gufi_formula.specs.Levels.{new_level, with_term, open_ones}
use Rattle.gufi_formula.specs.Written.{of_or, EachTest, formula_nesting, written_formula}
use Rattle.gufi_formula.proofs.ReadBack.{Place, before, behind, level_behind, Reads, read_back, whole_behind}
use Rattle.gufi_select.specs.declared.column.Column.{Column}
use Rattle.gufi_select.specs.declared.column.Table.{Table}
use Rattle.gufi_select.specs.declared.condition.Condition.{Condition}
use Rattle.gufi_select.specs.declared.condition.Condition.TheVariants.{Compares, Finds}
use Rattle.gufi_select.specs.declared.condition.Value.{Value}
use Rattle.gufi_select.specs.declared.condition.Value.TheVariants.{Text, Number}
use Rattle.gufi_select.specs.declared.operator.Operator.{Operator}
use Rattle.gufi_select.specs.declared.place.Place.TheVariants as places
use Rattle.gufi_select.specs.declared.token.Sign.TheVariants.{Open, Close, Star, Minus, Compare}
use Rattle.gufi_select.specs.declared.token.Token.{Token}
use Rattle.gufi_select.specs.declared.token.Token.TheVariants as variants
use Rattle.gufi_select.specs.declared.word.Keyword.TheVariants as words
use Rattle.gufi_select.specs.declared.word.Word.TheVariants.{OfGrammar, OfColumn, OfTable}
use Rattle.gufi_select.specs.Reading.{SelectState, select_start, all_columns, read_placed, read_tokens, read_select, finished}
use Rattle.gufi_select.specs.Spelled.{literal_tokens, condition_tokens, IsTyped, select_spelling, select_tokens}
use Rattle.gufi_select.specs.Tokens.{PlacedToken, tokens}
use Rattle.gufi_select.proofs.ReadLemmas.{one_read, none_read}

abbrev tokens_in : List PlacedToken → List Token
tokens_in placed = map (λ (p : PlacedToken). p.token) placed

-- what is left of placed tokens where those before have led to a state
record Onward (s : SelectState) (placed : List PlacedToken) (more : List Token) (t : SelectState) : Type 0 where
  rest : List PlacedToken
  left : tokens_in rest ≡ more
  same : (length : ℕ) → read_tokens length s placed ≡ read_tokens length t rest

-- tokens lead from one state to another, wherever they stand and whatever follows them
Led : SelectState → List Token → SelectState → Type 0
Led s given t = (placed : List PlacedToken) (more : List Token) → tokens_in placed ≡ given ++ more → Onward s placed more t

led_join : (s t u : SelectState) (given more : List Token) → Led s given t → Led t more u → Led s (given ++ more) u
unfolding Led
led_join s t u given more first last placed others e =
    let one = first placed (more ++ others) (e ∙ append_assoc given more others) in
    let two = last one.rest others one.left in
    record { rest = two.rest; left = two.left; same = λ length. one.same length ∙ two.same length }

led_token : (s t : SelectState) (token : Token) → ((offset : ℕ) → read_placed s (record { offset = offset; token = token }) ≡ Ok t) → Led s (token ∷ []) t
unfolding Led
led_token s t token reads [] more e = absurd (cc)
led_token s t token reads (p ∷ placed) more e =
    let is : p.token ≡ token = cc in
    let left : tokens_in placed ≡ more = cc in
    record {
      rest = placed;
      left = left;
      same = λ length.
          one_read length s p placed
          ∙ ap (λ given. given >>= λ next. read_tokens length next placed) (ap (λ token. read_placed s (record { offset = p.offset; token = token })) is ∙ reads p.offset);
    }

-- two tokens, where what the first leads to keeps its offset
led_two : (s t : SelectState) (between : ℕ → SelectState) (first last : Token) → ((offset : ℕ) → read_placed s (record { offset = offset; token = first }) ≡ Ok (between offset))
    → ((at offset : ℕ) → read_placed (between at) (record { offset = offset; token = last }) ≡ Ok t) → Led s (first ∷ last ∷ []) t
unfolding Led
led_two s t between first last reads ends [] more e = absurd (cc)
led_two s t between first last reads ends (p ∷ placed) more e =
    let is : p.token ≡ first = cc in
    let others : tokens_in placed ≡ (last ∷ []) ++ more = cc in
    let on = led_token (between p.offset) t last (ends p.offset) placed more others in
    record {
      rest = on.rest;
      left = on.left;
      same = λ length.
          one_read length s p placed
          ∙ ap (λ given. given >>= λ next. read_tokens length next placed) (ap (λ token. read_placed s (record { offset = p.offset; token = token })) is ∙ reads p.offset)
          ∙ on.same length;
    }

room : (count : ℕ) → count < 64 → leb 64 count ≡ false
room count few = grind (arith, nat_tests)

module _ (table : Table) where
  -- where a reader of a condition stands
  state_at : Place Condition → SelectState
  state_at (before level outer) = record { place = places.Term; columns = all_columns; table = table; levels = record { level = level; outer = outer }; regexp = None }
  state_at (behind level outer) = record { place = places.Connective; columns = all_columns; table = table; levels = record { level = level; outer = outer }; regexp = None }

  module _ (level : Level Condition) (outer : List (Level Condition)) (column : Column) (operator : Operator) where
    start : SelectState
    start = record (state_at (before level outer)) { place = places.Literal column operator }

    led_start : Led (state_at (before level outer)) (variants.Word (OfColumn column) ∷ variants.Sign (Compare operator) ∷ []) start
    unfolding state_at start
    led_start =
        led_two (state_at (before level outer)) start (λ offset. record (state_at (before level outer)) { place = places.Operator column })
        (variants.Word (OfColumn column)) (variants.Sign (Compare operator)) (λ offset. refl) (λ at offset. refl)

    end : Value → SelectState
    end literal = state_at (behind (with_term (test (Compares column operator literal)) level) outer)

    led_literal : (literal : Value) → IsTyped (Compares column operator literal) → Led start (literal_tokens literal) (end literal)
    unfolding state_at start end
    led_literal (Text bytes) typed = led_token start (end (Text bytes)) (variants.Text bytes) (λ offset. rw typed refl)
    led_literal (Number (pos n)) typed = led_token start (end (Number (pos n))) (variants.Digits (Some n)) (λ offset. rw typed refl)
    led_literal (Number (negsuc n)) typed =
        led_two start (end (Number (negsuc n))) (λ offset. record start { place = places.Negative offset column operator }) (variants.Sign Minus) (variants.Digits (Some (suc n))) (λ offset. refl)
        (λ at offset. rw typed refl)

    led_comparison : (literal : Value) → IsTyped (Compares column operator literal) → Led (state_at (before level outer)) (condition_tokens (Compares column operator literal)) (end literal)
    led_comparison literal typed =
        led_join (state_at (before level outer)) start (end literal) (variants.Word (OfColumn column) ∷ variants.Sign (Compare operator) ∷ []) (literal_tokens literal) led_start (led_literal literal typed)

  led_condition : (c : Condition) (level : Level Condition) (outer : List (Level Condition)) → IsTyped c → Led (state_at (before level outer)) (condition_tokens c) (state_at (behind (with_term (test c) level) outer))
  unfolding end
  led_condition (Compares column operator literal) level outer typed = led_comparison level outer column operator literal typed
  led_condition Finds level outer typed = absurd typed

  reads : Reads select_spelling IsTyped (λ s given t. Led (state_at s) given (state_at t))
  unfolding state_at
  reads = record {
    joins = λ s t u given more first last. led_join (state_at s) (state_at t) (state_at u) given more first last;
    tests = led_condition;
    opens = λ level outer few. led_token (state_at (before level outer)) (state_at (before new_level (level ∷ outer))) (variants.Sign Open) (λ offset. rw (room (open_ones level outer) few) refl);
    closes = λ inner level outer. led_token (state_at (behind inner (level ∷ outer))) (state_at (behind _ outer)) (variants.Sign Close) (λ offset. refl);
    inverts = λ level outer few. led_token (state_at (before level outer)) (state_at (before _ outer)) (variants.Word (OfGrammar words.Not)) (λ offset. rw (room (open_ones level outer) few) refl);
    ands = λ level outer. led_token (state_at (behind level outer)) (state_at (before level outer)) (variants.Word (OfGrammar words.And)) (λ offset. refl);
    ors = λ level outer. led_token (state_at (behind level outer)) (state_at (before _ outer)) (variants.Word (OfGrammar words.Or)) (λ offset. refl);
  }

  -- SELECT * FROM the table WHERE
  led_front : Led select_start (variants.Word (OfGrammar words.Select) ∷ variants.Sign Star ∷ variants.Word (OfGrammar words.From) ∷ variants.Word (OfTable table) ∷ variants.Word (OfGrammar words.Where) ∷ []) (state_at (before new_level []))
  unfolding state_at
  led_front =
      let columns = record select_start { place = places.FromWord; columns = all_columns } in
      let named = record columns { place = places.WhereOrEnd; table = table } in
      led_join select_start columns (state_at (before new_level [])) (variants.Word (OfGrammar words.Select) ∷ variants.Sign Star ∷ []) (variants.Word (OfGrammar words.From) ∷ variants.Word (OfTable table) ∷ variants.Word (OfGrammar words.Where) ∷ [])
      (led_two select_start columns (λ offset. record select_start { place = places.FirstColumn }) (variants.Word (OfGrammar words.Select)) (variants.Sign Star) (λ offset. refl) (λ at offset. refl))
      (led_join columns named (state_at (before new_level [])) (variants.Word (OfGrammar words.From) ∷ variants.Word (OfTable table) ∷ []) (variants.Word (OfGrammar words.Where) ∷ [])
      (led_two columns named (λ offset. record columns { place = places.TableName }) (variants.Word (OfGrammar words.From)) (variants.Word (OfTable table)) (λ offset. refl) (λ at offset. refl))
      (led_token named (state_at (before new_level [])) (variants.Word (OfGrammar words.Where)) (λ offset. refl)))

  pub condition_back : (f : Formula Condition) (text : List ℕ) → EachTest IsTyped f → formula_nesting f ≤ max_nesting → tokens_in (tokens text) ≡ select_tokens table f
      → read_select text ≡ Ok (record { columns = all_columns; table = table; regexp = None; condition = Some f })
  unfolding Led state_at read_select read_tokens
  condition_back f text typed few e =
      let given = written_formula select_spelling f in
      let last = state_at (behind (level_behind f of_or new_level) []) in
      let led = led_join select_start (state_at (before new_level [])) last
      (variants.Word (OfGrammar words.Select) ∷ variants.Sign Star ∷ variants.Word (OfGrammar words.From) ∷ variants.Word (OfTable table) ∷ variants.Word (OfGrammar words.Where) ∷ []) given
      led_front (read_back select_spelling IsTyped (λ s given t. Led (state_at s) given (state_at t)) reads f typed few) in
      let on = led (tokens text) [] (e ∙ sym (append-nil (select_tokens table f))) in
      ap (λ r. r >>= λ s. finished s) (on.same (length text) ∙ ended on.rest on.left)
      ∙ ap (λ (whole : Option (Formula Condition)). Ok (record { columns = all_columns; table = table; regexp = None; condition = whole })) (whole_behind f)
    where
      ended : (rest : List PlacedToken) → tokens_in rest ≡ [] → read_tokens (length text) (state_at (behind (level_behind f of_or new_level) [])) rest ≡ Ok (state_at (behind (level_behind f of_or new_level) []))
      ended [] e = none_read (length text) (state_at (behind (level_behind f of_or new_level) []))
      ended (p ∷ rest) e = absurd (cc)
