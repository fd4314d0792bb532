-- How a condition is written as the tokens of a SELECT.
use Rattle.std.specs.Prelude.{◌≡◌, ℤ, suc, pos, negsuc, true, false, List, [], ◌∷◌, Some}
use Rattle.gufi_formula.specs.Formulas.{Formula}
use Rattle.gufi_formula.specs.Written.{Spelling, written_formula}
use Rattle.gufi_select.specs.declared.column.Table.{Table}
use Rattle.gufi_select.specs.declared.condition.Condition.{Condition}
use Rattle.gufi_select.specs.declared.condition.Condition.TheVariants.{Compares, Finds}
use Rattle.gufi_select.specs.declared.condition.Value.{Value}
use Rattle.gufi_select.specs.declared.condition.Value.TheVariants.{Text, Number}
use Rattle.gufi_select.specs.declared.token.Sign.TheVariants.{Open, Close, Star, Minus, Compare}
use Rattle.gufi_select.specs.declared.token.Token.{Token}
use Rattle.gufi_select.specs.declared.token.Token.TheVariants as variants
use Rattle.gufi_select.specs.declared.word.Keyword.TheVariants as words
use Rattle.gufi_select.specs.declared.word.Word.TheVariants.{OfGrammar, OfColumn, OfTable}
use Rattle.gufi_select.specs.Columns.{is_text_column}

abbrev pub number_tokens : ℤ → List Token
number_tokens (pos n) = variants.Digits (Some n) ∷ []
number_tokens (negsuc n) = variants.Sign Minus ∷ variants.Digits (Some (suc n)) ∷ []

abbrev pub literal_tokens : Value → List Token
literal_tokens (Text bytes) = variants.Text bytes ∷ []
literal_tokens (Number n) = number_tokens n

-- a comparison; the pattern of a REGEXP stands in no condition
abbrev pub condition_tokens : Condition → List Token
condition_tokens (Compares column operator literal) = variants.Word (OfColumn column) ∷ variants.Sign (Compare operator) ∷ literal_tokens literal
condition_tokens Finds = []

-- a comparison of a column with a literal of its type
abbrev pub IsTyped : Condition → Type 0
IsTyped (Compares column operator (Text bytes)) = is_text_column column ≡ true
IsTyped (Compares column operator (Number n)) = is_text_column column ≡ false
IsTyped Finds = ⊥

abbrev pub select_spelling : Spelling Condition Token
select_spelling = record {
  test_words = condition_tokens;
  open_word = variants.Sign Open;
  close_word = variants.Sign Close;
  not_word = variants.Word (OfGrammar words.Not);
  and_word = variants.Word (OfGrammar words.And);
  or_word = variants.Word (OfGrammar words.Or);
}

-- SELECT * FROM the table WHERE the condition
abbrev pub select_tokens : Table → Formula Condition → List Token
select_tokens table f =
    variants.Word (OfGrammar words.Select) ∷ variants.Sign Star ∷ variants.Word (OfGrammar words.From) ∷ variants.Word (OfTable table) ∷ variants.Word (OfGrammar words.Where)
    ∷ written_formula select_spelling f
