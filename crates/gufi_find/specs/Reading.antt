-- How the words of a find expression are read, and their first fault.
use Rattle.std.specs.Prelude.{ℕ, ◌+◌, not, nat_le, List, [], ◌∷◌, Option, Some, None, unwrap_or, Result, Ok, Err, if◌then◌else◌, ℤ, bytes_eq, codes}
use Rattle.gufi_base.specs.Limits.{max_nesting}
use Rattle.gufi_base.specs.Basics.{is_empty, capped_number, result_map_err, ◌>>=◌, ◌>>◌, refuse}
use Rattle.gufi_formula.specs.declared.level.Level.{Level}
use Rattle.gufi_formula.specs.Formulas.{test}
use Rattle.gufi_formula.specs.Levels.{new_level, with_term, with_or, with_not, level_formula, closed_into, open_ones}
use Rattle.gufi_users.specs.Entries.{UserTables}
use Rattle.gufi_find.specs.declared.fault.FindKind.{FindKind}
use Rattle.gufi_find.specs.declared.fault.FindKind.TheVariants.{UnknownPrimary, MissingArgument, Parenthesis, TooDeep, NoNow}
use Rattle.gufi_find.specs.declared.fault.FindError.{FindError}
use Rattle.gufi_find.specs.declared.fault.FindError.TheVariants.{Fault}
use Rattle.gufi_find.specs.declared.test.Test.{Test}
use Rattle.gufi_find.specs.declared.test.Test.TheVariants.{Always, DepthBound}
use Rattle.gufi_find.specs.declared.operand.Item.{Item}
use Rattle.gufi_find.specs.declared.operand.Item.TheVariants as items
use Rattle.gufi_find.specs.declared.primary.Primary.{Primary}
use Rattle.gufi_find.specs.declared.primary.Primary.TheVariants.{Alone, Taking, WithoutNow}
use Rattle.gufi_find.specs.declared.primary.PrimaryName.{PrimaryName}
use Rattle.gufi_find.specs.declared.place.Place.{Place}
use Rattle.gufi_find.specs.declared.place.Place.TheVariants as places
use Rattle.gufi_find.specs.Expressions.{Find}
use Rattle.gufi_find.specs.Operands.{read_operand, primary_named, primary_of}

-- ---- the grammar, from the left

-- what is wanted next, what is open, and the bounds so far
pub record State : Type 0 where
  pub place : Place
  pub level : Level Test
  pub outer : List (Level Test)
  pub least : ℕ
  pub most : Option ℕ

abbrev pub with_item : Item → State → State
with_item (items.OfTest t) s = record s { place = places.Operator; level = with_term (test t) s.level }
with_item (items.LeastDepth n) s = record s { place = places.Operator; level = with_term (test DepthBound) s.level; least = n }
with_item (items.MostDepth n) s = record s { place = places.Operator; level = with_term (test DepthBound) s.level; most = Some n }

-- the faults of a word
abbrev pub begun : Primary → State → Result State FindKind
begun (Alone t) s = Ok (with_item (items.OfTest t) s)
begun (Taking operand) s = Ok (record s { place = places.Argument operand })
begun WithoutNow s = Err NoNow

abbrev pub at_primary : UserTables → Option ℤ → Option PrimaryName → State → Result State FindKind
at_primary tables now None s = Err UnknownPrimary
at_primary tables now (Some name) s = begun (primary_of tables now name) s

abbrev pub opened : State → Result State FindKind
opened s =
    refuse (nat_le max_nesting (open_ones s.level s.outer)) TooDeep >> Ok (record s { place = places.Primary; level = new_level; outer = s.level ∷ s.outer })

abbrev pub inverted : State → Result State FindKind
inverted s = refuse (nat_le max_nesting (open_ones s.level s.outer)) TooDeep >> Ok (record s { place = places.Primary; level = with_not s.level })

unfoldable pub wants_primary : UserTables → Option ℤ → State → List ℕ → Result State FindKind
wants_primary tables now s word =
    if bytes_eq word (codes ")") then Err Parenthesis
    else if bytes_eq word (codes "(") then opened s
    else if bytes_eq word (codes "!") then inverted s
    else at_primary tables now (primary_named word) s

abbrev pub close_level : List (Level Test) → State → Result State FindKind
close_level [] s = Err Parenthesis
close_level (level ∷ outer) s = Ok (record s { level = closed_into (level_formula s.level) level; outer = outer })

unfoldable pub wants_operator : UserTables → Option ℤ → State → List ℕ → Result State FindKind
wants_operator tables now s word =
    if bytes_eq word (codes ")") then close_level s.outer s
    else if bytes_eq word (codes "-o") then Ok (record s { place = places.Primary; level = with_or s.level })
    else if bytes_eq word (codes "-a") then Ok (record s { place = places.Primary })
    else wants_primary tables now s word

abbrev pub read_word : UserTables → Option ℤ → State → Place → List ℕ → Result State FindKind
read_word tables now s places.Primary word = wants_primary tables now s word
read_word tables now s places.Operator word = wants_operator tables now s word
read_word tables now s (places.Argument operand) word = read_operand tables operand word >>= λ item. Ok (with_item item s)

-- the end of the words
abbrev pub at_end : State → Place → Result Find FindKind
at_end s places.Primary = Err MissingArgument
at_end s (places.Argument operand) = Err MissingArgument
at_end s places.Operator =
    refuse (not (is_empty s.outer)) Parenthesis
    >> Ok (record { expr = unwrap_or (level_formula s.level) (test Always); least_depth = s.least; most_depth = s.most })

abbrev pub at_word : {A : Type 0} → ℕ → Result A FindKind → Result A FindError
at_word n given = result_map_err (Fault (capped_number n)) given

-- the words from number n on
unfoldable pub read_find_words : UserTables → Option ℤ → ℕ → State → List (List ℕ) → Result Find FindError
read_find_words tables now n s [] = at_word n (at_end s s.place)
read_find_words tables now n s (word ∷ rest) = at_word n (read_word tables now s s.place word) >>= λ next. read_find_words tables now (n + 1) next rest

-- no words at all are true
abbrev pub first_place : List (List ℕ) → Place
first_place [] = places.Operator
first_place (word ∷ rest) = places.Primary

abbrev pub first_state : List (List ℕ) → State
first_state words = record { place = first_place words; level = new_level; outer = []; least = 0; most = None }

unfoldable pub read_find : List (List ℕ) → UserTables → Option ℤ → Result Find FindError
read_find words tables now = read_find_words tables now 1 (first_state words) words
