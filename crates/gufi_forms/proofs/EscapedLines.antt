-- What escaped lines hold reads back.
use Rattle.std.proofs.Common.{◌≡◌, ℕ, ◌<◌, true, false, List, [], ◌∷◌, map, Option, Some, refl, sym, ap, ◌∙◌, arith}
use Rattle.std.specs.List.{list_all, flat_map}
use Rattle.std.proofs.lemmas.Bool.{and_parts, and_from}
use Rattle.std.proofs.lemmas.List.Folds.{flat_map-map}
use Rattle.gufi_base.specs.declared.record.Row.{Row}
use Rattle.gufi_base.specs.Basics.{is_empty, split, line, text_lines}
use Rattle.gufi_base.specs.Rows.{depth_below}
use Rattle.gufi_base.proofs.Parts.{has_no}
use Rattle.gufi_select.specs.declared.column.Column.{Column}
use Rattle.gufi_select.specs.declared.condition.Value.{Value}
use Rattle.gufi_select.specs.declared.condition.Value.TheVariants.{Text, Number}
use Rattle.gufi_select.specs.Columns.{seen_row, value_at, value_text}
use Rattle.gufi_forms.specs.Cells.{escaped_value}
use Rattle.gufi_forms.specs.Escapes.{unescaped}
use Rattle.gufi_forms.specs.Forms.{is_held, escaped_columns}
use Rattle.gufi_forms.proofs.Escapes.{reads_back, plain_back, escaped_has_no}
use Rattle.gufi_forms.proofs.Numbers.{number_has_no}
use Rattle.gufi_forms.proofs.TextLines.{split_join, join_has_no, lines_cut}
use Rattle.gufi_forms.proofs.Values.{IsSound, value_sound, held_fits, held_depth}

value_back : (value : Value) → IsSound value → unescaped (escaped_value value) ≡ Some (value_text value)
value_back (Text bytes) sound = reads_back bytes sound
value_back (Number n) sound = plain_back (value_text (Number n)) (number_has_no 92 (λ c low high e. omega (arith, low, high, e)) n sound)

value_has_no : (s : ℕ) → s < 32 → (value : Value) → IsSound value → has_no s (escaped_value value) ≡ true
value_has_no s control (Text bytes) sound = escaped_has_no s control bytes
value_has_no s control (Number n) sound = number_has_no s (λ c low high e. omega (arith, control, low, high, e)) n sound

module _ (row : Row) (depth : ℕ) (sound : (column : Column) → IsSound (value_at column row depth)) where
  abbrev text : Column → List ℕ
  text column = escaped_value (value_at column row depth)

  texts_have_no : (s : ℕ) → s < 32 → (columns : List Column) → list_all (has_no s) (map text columns) ≡ true
  texts_have_no s control [] = refl
  texts_have_no s control (column ∷ columns) = and_from _ _ (value_has_no s control (value_at column row depth) (sound column)) (texts_have_no s control columns)

  texts_back : (columns : List Column) → map unescaped (map text columns) ≡ map (λ column. Some (value_text (value_at column row depth))) columns
  texts_back [] = refl
  texts_back (column ∷ columns) =
      ap (λ (o : Option (List ℕ)). o ∷ map unescaped (map text columns)) (value_back (value_at column row depth) (sound column))
      ∙ ap (λ (os : List (Option (List ℕ))). Some (value_text (value_at column row depth)) ∷ os) (texts_back columns)

  line_back : (columns : List Column) → is_empty columns ≡ false
      → map unescaped (split 9 (escaped_columns (seen_row row depth) columns)) ≡ map (λ column. Some (value_text (value_at column row depth))) columns
  line_back [] some = absurd cc
  line_back (first ∷ others) some = ap (map unescaped) (split_join 9 (text first) (map text others) (texts_have_no 9 (omega arith) (first ∷ others))) ∙ texts_back (first ∷ others)

  line_has_no : (columns : List Column) → has_no 10 (escaped_columns (seen_row row depth) columns) ≡ true
  line_has_no columns = join_has_no 10 9 refl (map text columns) (texts_have_no 10 (omega arith) columns)

module _ (columns : List Column) (above : ℕ) where
  abbrev row_text : Row → List ℕ
  row_text row = escaped_columns (seen_row row (depth_below above row)) columns

  row_sound : (row : Row) → is_held row ≡ true → (column : Column) → IsSound (value_at column row (depth_below above row))
  row_sound row held = value_sound row (depth_below above row) (held_fits row held) (held_depth above row held)

  rows_have_no : (rows : List Row) → list_all is_held rows ≡ true → list_all (has_no 10) (map row_text rows) ≡ true
  rows_have_no [] held = refl
  rows_have_no (row ∷ rows) held =
      let both = and_parts (is_held row) (list_all is_held rows) held in
      and_from _ _ (line_has_no row (depth_below above row) (row_sound row both.0) columns) (rows_have_no rows both.1)

  rows_back : is_empty columns ≡ false → (rows : List Row) → list_all is_held rows ≡ true
      → map (λ (l : List ℕ). map unescaped (split 9 l)) (map row_text rows) ≡ map (λ (row : Row). map (λ column. Some (value_text (value_at column row (depth_below above row)))) columns) rows
  rows_back some [] held = refl
  rows_back some (row ∷ rows) held =
      let both = and_parts (is_held row) (list_all is_held rows) held in
      ap (λ (os : List (Option (List ℕ))). os ∷ map (λ (l : List ℕ). map unescaped (split 9 l)) (map row_text rows)) (line_back row (depth_below above row) (row_sound row both.0) columns some)
      ∙ ap (λ (rest : List (List (Option (List ℕ)))). map (λ column. Some (value_text (value_at column row (depth_below above row)))) columns ∷ rest) (rows_back some rows both.1)

  pub lines_back : is_empty columns ≡ false → (rows : List Row) → list_all is_held rows ≡ true
      → map (λ (l : List ℕ). map unescaped (split 9 l)) (text_lines (flat_map (λ row. line (row_text row)) rows))
      ≡ map (λ (row : Row). map (λ column. Some (value_text (value_at column row (depth_below above row)))) columns) rows
  lines_back some rows held =
      ap (λ (text : List ℕ). map (λ (l : List ℕ). map unescaped (split 9 l)) (text_lines text)) (sym (flat_map-map line row_text rows))
      ∙ ap (map (λ (l : List ℕ). map unescaped (split 9 l))) (lines_cut (map row_text rows) (rows_have_no rows held))
      ∙ rows_back some rows held
