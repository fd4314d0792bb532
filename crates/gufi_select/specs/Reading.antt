-- How a SELECT is read, from the left, and its first fault.
use Rattle.std.specs.Prelude.{ℕ, Bool, true, false, not, List, [], ◌∷◌, ◌++◌, length, map, Option, Some, None, is_some, Result, Ok, Err, ok_or, if◌then◌else◌, pos, neg_ℤ}
use Rattle.gufi_base.specs.Basics.{is_empty, capped_number, ◌>>=◌, ◌>>◌, refuse}
use Rattle.gufi_formula.specs.Formulas.{test}
use Rattle.gufi_formula.specs.Levels.{Levels, first_levels, with_term, with_or, level_formula}
use Rattle.gufi_select.specs.declared.column.Column.{Column}
use Rattle.gufi_select.specs.declared.column.Table.{Table}
use Rattle.gufi_select.specs.declared.column.Table.TheVariants.{Rows}
use Rattle.gufi_select.specs.declared.operator.Operator.{Operator}
use Rattle.gufi_select.specs.declared.condition.Condition.{Condition}
use Rattle.gufi_select.specs.declared.condition.Condition.TheVariants.{Compares, Finds}
use Rattle.gufi_select.specs.declared.condition.Value.TheVariants as values
use Rattle.gufi_select.specs.declared.fault.SelectKind.{SelectKind}
use Rattle.gufi_select.specs.declared.fault.SelectKind.TheVariants.{Unexpected, UnknownColumn, UnknownTable, WrongType, LiteralTooBig, OpenText, SecondRegex, BadRegex}
use Rattle.gufi_select.specs.declared.fault.SelectError.{SelectError}
use Rattle.gufi_select.specs.declared.fault.SelectError.TheVariants.{Fault}
use Rattle.gufi_select.specs.declared.place.Place.{Place}
use Rattle.gufi_select.specs.declared.place.Place.TheVariants as places
use Rattle.gufi_select.specs.declared.regexp.Regexp.{Regexp}
use Rattle.gufi_select.specs.declared.state.Sought.{Sought}
use Rattle.gufi_select.specs.declared.token.Sign.TheVariants.{Comma, Open, Close, Star, Semicolon, Minus, Compare}
use Rattle.gufi_select.specs.declared.token.Token.{Token}
use Rattle.gufi_select.specs.declared.token.Token.TheVariants as variants
use Rattle.gufi_select.specs.declared.word.Keyword.TheVariants as words
use Rattle.gufi_select.specs.declared.word.Word.TheVariants.{OfGrammar, OfColumn, OfTable, Unknown}
use Rattle.gufi_select.specs.Columns.{is_text_column, Select}
use Rattle.gufi_select.specs.Levels.{negated, nested, closed}
use Rattle.gufi_select.specs.Names.{starred}
use Rattle.gufi_pattern.specs.Patterns.{is_bad_pattern}
use Rattle.gufi_select.specs.Tokens.{PlacedToken, tokens}

-- what is wanted next, what was read, what stands open, and the REGEXP with its pattern's offset
pub record SelectState : Type 0 where
  pub place : Place
  pub columns : List Column
  pub table : Table
  pub levels : Levels Condition
  pub regexp : Option Sought

abbrev pub go : Place → SelectState → Result SelectState SelectKind
go place s = Ok (record s { place = place })

-- with what stands open then
abbrev pub in_levels : Place → SelectState → Levels Condition → SelectState
in_levels place s levels = record s { place = place; levels = levels }

-- ---- words that name a column or a table; a keyword isn't allowed in their place

abbrev pub column_named : Token → Result Column SelectKind
column_named (variants.Word (OfColumn column)) = Ok column
column_named (variants.Word (OfTable table)) = Err UnknownColumn
column_named (variants.Word Unknown) = Err UnknownColumn
column_named token = Err Unexpected

abbrev pub table_named : Token → Result Table SelectKind
table_named (variants.Word (OfTable table)) = Ok table
table_named (variants.Word (OfColumn column)) = Err UnknownTable
table_named (variants.Word Unknown) = Err UnknownTable
table_named token = Err Unexpected

-- ---- the columns and the table

abbrev pub with_column : SelectState → Column → SelectState
with_column s column = record s { place = places.CommaOrFrom; columns = s.columns ++ column ∷ [] }

-- the columns of `*`
abbrev pub all_columns : List Column
all_columns = map (λ row. row.1) starred

abbrev pub read_select_word : SelectState → Token → Result SelectState SelectKind
read_select_word s (variants.Word (OfGrammar words.Select)) = go places.FirstColumn s
read_select_word s token = Err Unexpected

abbrev pub read_next_column : SelectState → Token → Result SelectState SelectKind
read_next_column s token = column_named token >>= λ column. Ok (with_column s column)

abbrev pub read_first_column : SelectState → Token → Result SelectState SelectKind
read_first_column s (variants.Sign Star) = Ok (record s { place = places.FromWord; columns = all_columns })
read_first_column s token = read_next_column s token

abbrev pub read_from_word : SelectState → Token → Result SelectState SelectKind
read_from_word s (variants.Word (OfGrammar words.From)) = go places.TableName s
read_from_word s token = Err Unexpected

abbrev pub read_comma_or_from : SelectState → Token → Result SelectState SelectKind
read_comma_or_from s (variants.Sign Comma) = go places.NextColumn s
read_comma_or_from s token = read_from_word s token

abbrev pub read_table_name : SelectState → Token → Result SelectState SelectKind
read_table_name s token = table_named token >>= λ table. Ok (record s { place = places.WhereOrEnd; table = table })

abbrev pub read_where_or_end : SelectState → Token → Result SelectState SelectKind
read_where_or_end s (variants.Word (OfGrammar words.Where)) = go places.Term s
read_where_or_end s (variants.Sign Semicolon) = go places.End s
read_where_or_end s token = Err Unexpected

-- ---- the condition

abbrev pub with_condition : SelectState → Condition → SelectState
with_condition s condition = in_levels places.Connective s (record s.levels { level = with_term (test condition) s.levels.level })

abbrev pub read_term : SelectState → Token → Result SelectState SelectKind
read_term s (variants.Word (OfGrammar words.Not)) = negated s.levels >>= λ levels. Ok (in_levels places.Term s levels)
read_term s (variants.Sign Open) = nested s.levels >>= λ levels. Ok (in_levels places.Term s levels)
read_term s token = column_named token >>= λ column. go (places.Operator column) s

abbrev pub read_regexp : Column → SelectState → Result SelectState SelectKind
read_regexp column s = refuse (not (is_text_column column)) WrongType >> refuse (is_some s.regexp) SecondRegex >> go (places.Pattern column) s

abbrev pub read_operator : Column → SelectState → Token → Result SelectState SelectKind
read_operator column s (variants.Word (OfGrammar words.Regexp)) = read_regexp column s
read_operator column s (variants.Sign (Compare operator)) = go (places.Literal column operator) s
read_operator column s token = Err Unexpected

-- a literal of the column's type that fits
abbrev pub read_literal : ℕ → Column → Operator → SelectState → Token → Result SelectState SelectKind
read_literal offset column operator s (variants.Text bytes) =
    refuse (not (is_text_column column)) WrongType >> Ok (with_condition s (Compares column operator (values.Text bytes)))
read_literal offset column operator s (variants.Digits number) =
    refuse (is_text_column column) WrongType >> (ok_or number LiteralTooBig >>= λ n. Ok (with_condition s (Compares column operator (values.Number (pos n)))))
read_literal offset column operator s (variants.Sign Minus) = go (places.Negative offset column operator) s
read_literal offset column operator s token = Err Unexpected

abbrev pub read_digits : Column → Operator → SelectState → Token → Result SelectState SelectKind
read_digits column operator s (variants.Digits number) =
    ok_or number LiteralTooBig >>= λ n. Ok (with_condition s (Compares column operator (values.Number (neg_ℤ (pos n)))))
read_digits column operator s token = Err Unexpected

abbrev pub read_pattern : ℕ → Column → SelectState → Token → Result SelectState SelectKind
read_pattern offset column s (variants.Text bytes) =
    Ok (record (with_condition s Finds) { regexp = Some (record { offset = offset; column = column; pattern = bytes }) })
read_pattern offset column s token = Err Unexpected

abbrev pub read_connective : SelectState → Token → Result SelectState SelectKind
read_connective s (variants.Word (OfGrammar words.And)) = go places.Term s
read_connective s (variants.Word (OfGrammar words.Or)) = Ok (in_levels places.Term s (record s.levels { level = with_or s.levels.level }))
read_connective s (variants.Sign Close) = closed s.levels.level s.levels.outer >>= λ levels. Ok (in_levels places.Connective s levels)
read_connective s (variants.Sign Semicolon) = refuse (not (is_empty s.levels.outer)) Unexpected >> go places.End s
read_connective s token = Err Unexpected

-- the token at an offset
abbrev pub read_token : ℕ → Place → SelectState → Token → Result SelectState SelectKind
read_token offset places.SelectWord s token = read_select_word s token
read_token offset places.FirstColumn s token = read_first_column s token
read_token offset places.NextColumn s token = read_next_column s token
read_token offset places.CommaOrFrom s token = read_comma_or_from s token
read_token offset places.FromWord s token = read_from_word s token
read_token offset places.TableName s token = read_table_name s token
read_token offset places.WhereOrEnd s token = read_where_or_end s token
read_token offset places.Term s token = read_term s token
read_token offset (places.Operator column) s token = read_operator column s token
read_token offset (places.Literal column operator) s token = read_literal offset column operator s token
read_token offset (places.Negative start column operator) s token = read_digits column operator s token
read_token offset (places.Pattern column) s token = read_pattern offset column s token
read_token offset places.Connective s token = read_connective s token
read_token offset places.End s token = Err Unexpected

-- ---- faults and their offsets

abbrev pub fault_at : ℕ → SelectKind → SelectError
fault_at offset kind = Fault (capped_number offset) kind

abbrev pub at_offset : {A : Type 0} → ℕ → Result A SelectKind → Result A SelectError
at_offset offset (Ok x) = Ok x
at_offset offset (Err kind) = Err (fault_at offset kind)

-- A text without its closing quote is no token that could be allowed.
abbrev pub is_open_text : Token → Bool
is_open_text variants.OpenText = true
is_open_text token = false

-- A number's wrong type is known only behind its sign, and stands at the sign.
abbrev pub wrong_negative : Place → Token → Option ℕ
wrong_negative (places.Negative start column operator) (variants.Digits number) = if is_text_column column then Some start else None
wrong_negative place token = None

abbrev pub or_wrong : Option ℕ → Result SelectState SelectError → Result SelectState SelectError
or_wrong (Some start) next = Err (fault_at start WrongType)
or_wrong None next = next

abbrev pub read_placed : SelectState → PlacedToken → Result SelectState SelectError
read_placed s placed =
    or_wrong (wrong_negative s.place placed.token)
    (at_offset placed.offset (refuse (is_open_text placed.token) OpenText >> read_token placed.offset s.place s placed.token))

-- ---- the whole text

abbrev pub may_end : Place → SelectState → Bool
may_end places.WhereOrEnd s = true
may_end places.Connective s = is_empty s.levels.outer
may_end places.End s = true
may_end place s = false

unfoldable pub read_tokens : ℕ → SelectState → List PlacedToken → Result SelectState SelectError
read_tokens length s [] = at_offset length (refuse (not (may_end s.place s)) Unexpected) >> Ok s
read_tokens length s (placed ∷ rest) = read_placed s placed >>= λ next. read_tokens length next rest

abbrev pub select_start : SelectState
select_start = record { place = places.SelectWord; columns = []; table = Rows; levels = first_levels; regexp = None }

abbrev pub read_state : List ℕ → Result SelectState SelectError
read_state bytes = read_tokens (length bytes) select_start (tokens bytes)

abbrev pub regexp_of : Sought → Regexp
regexp_of sought = record { column = sought.column; pattern = sought.pattern }

-- a pattern is judged only where there is no other fault
abbrev pub check_regexp : Option Sought → Result (Option Regexp) SelectError
check_regexp None = Ok None
check_regexp (Some sought) = refuse (is_bad_pattern sought.pattern) (fault_at sought.offset BadRegex) >> Ok (Some (regexp_of sought))

abbrev pub finished : SelectState → Result Select SelectError
finished s =
    check_regexp s.regexp >>= λ regexp. Ok (record { columns = s.columns; table = s.table; regexp = regexp; condition = level_formula s.levels.level })

unfoldable pub read_select : List ℕ → Result Select SelectError
read_select bytes = read_state bytes >>= λ s. finished s
