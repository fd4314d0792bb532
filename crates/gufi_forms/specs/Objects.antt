-- A row as a JSON object.
use Rattle.std.specs.Prelude.{ℕ, List, [], ◌∷◌, ◌++◌, map, Option, Some, None, option_map, codes, if◌then◌else◌}
use Rattle.std.specs.Fmt.{signed_decimal}
use Rattle.std.specs.Str.{is_utf8}
use Rattle.std.specs.Str.Parse.{signed_digits_value}
use Rattle.json.specs.Find.{get_member}
use Rattle.json.specs.Json.{Json, number, string, object, Members, no_members, member}
use Rattle.json.specs.Print.{print}
use Rattle.json.specs.Tree.{json_tokens}
use Rattle.gufi_select.specs.declared.column.Column.{Column}
use Rattle.gufi_select.specs.declared.condition.Value.{Value}
use Rattle.gufi_select.specs.declared.condition.Value.TheVariants.{Text, Number}
use Rattle.gufi_select.specs.Columns.{Seen, value_in}
use Rattle.gufi_forms.specs.Escapes.{escaped, unescaped}
use Rattle.gufi_forms.specs.Names.{column_name}

-- the name of the member that has a text which isn't UTF-8
abbrev pub bytes_name : List ℕ → List ℕ
bytes_name name = name ++ codes "_bytes"

-- a member of that name, before others
abbrev pub with_value : List ℕ → Value → Members → Members
with_value name (Number n) rest = member name (number (signed_decimal n)) rest
with_value name (Text bytes) rest = if is_utf8 bytes then member name (string bytes) rest else member (bytes_name name) (string (escaped bytes)) rest

-- a member for each column, in their order
abbrev pub row_members : Seen → List Column → Members
row_members seen [] = no_members
row_members seen (column ∷ columns) = with_value (column_name column) (value_in column seen) (row_members seen columns)

abbrev pub row_object : Seen → List Column → Json
row_object seen columns = object (row_members seen columns)

-- without spaces
abbrev pub object_text : Seen → List Column → List ℕ
object_text seen columns = print (json_tokens (row_object seen columns))

-- ---- reading

-- what a member of a column's name tells, or else one of its bytes
abbrev pub told : Option Json → Option Json → Option Value
told (Some (number digits)) bytes = Some (Number (signed_digits_value 10 digits))
told (Some (string text)) bytes = Some (Text text)
told None (Some (string text)) = option_map Text (unescaped text)
told plain bytes = None

abbrev pub told_value : Members → Column → Option Value
told_value members column = told (get_member (column_name column) members) (get_member (bytes_name (column_name column)) members)

-- what a value tells of columns: nothing where it is no object
abbrev pub told_values : List Column → Option Json → List (Option Value)
told_values columns (Some (object members)) = map (told_value members) columns
told_values columns other = map (λ column. None) columns
