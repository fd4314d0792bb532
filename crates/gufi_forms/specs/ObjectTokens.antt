-- The tokens of a row's JSON object, member by member.
use Rattle.std.specs.Prelude.{ℕ, List, [], ◌∷◌, if◌then◌else◌}
use Rattle.std.specs.Fmt.{signed_decimal}
use Rattle.std.specs.Str.{is_utf8}
use Rattle.json.specs.Token.{Token, key, string, number}
use Rattle.gufi_select.specs.declared.column.Column.{Column}
use Rattle.gufi_select.specs.declared.condition.Value.{Value}
use Rattle.gufi_select.specs.declared.condition.Value.TheVariants.{Text, Number}
use Rattle.gufi_select.specs.Columns.{Seen, value_in}
use Rattle.gufi_forms.specs.Escapes.{escaped}
use Rattle.gufi_forms.specs.Names.{column_name}
use Rattle.gufi_forms.specs.Objects.{bytes_name}

abbrev pub bytes_tokens : List ℕ → List ℕ → List Token
bytes_tokens name bytes = key (bytes_name name) ∷ string (escaped bytes) ∷ []

abbrev pub value_tokens : List ℕ → Value → List Token
value_tokens name (Number n) = key name ∷ number (signed_decimal n) ∷ []
value_tokens name (Text bytes) = if is_utf8 bytes then key name ∷ string bytes ∷ [] else bytes_tokens name bytes

abbrev pub column_tokens : Seen → Column → List Token
column_tokens seen column = value_tokens (column_name column) (value_in column seen)
