-- A row's values, one by one.
use Rattle.std.specs.Prelude.{ℕ, List, [], ◌∷◌, ◌++◌, pos}
use Rattle.std.specs.Fmt.{signed_decimal}
use Rattle.gufi_select.specs.declared.condition.Value.{Value}
use Rattle.gufi_select.specs.declared.condition.Value.TheVariants as values
use Rattle.gufi_forms.specs.declared.cell.Cell.{Cell}
use Rattle.gufi_forms.specs.declared.cell.Cell.TheVariants.{Path, Letter, Text, Unsigned, Signed}
use Rattle.gufi_forms.specs.Escapes.{escaped}

abbrev pub cell_value : Cell → Value
cell_value (Path stem base) = values.Text (stem.now ++ base.now)
cell_value (Letter letter) = values.Text (letter ∷ [])
cell_value (Text bytes) = values.Text bytes.now
cell_value (Unsigned n) = values.Number (pos n)
cell_value (Signed n) = values.Number n

-- texts escaped, numbers in decimal
abbrev pub escaped_value : Value → List ℕ
escaped_value (values.Text bytes) = escaped bytes
escaped_value (values.Number n) = signed_decimal n
