-- The text of a row's JSON object is one line.
use Rattle.std.proofs.Common.{◌≡◌, ◌≢◌, inl, inr, ℕ, ◌+◌, ◌≤◌, Bool, true, false, List, [], ◌∷◌, ◌++◌, map, refl, sym, ap, ◌∙◌, arith}
use Rattle.std.specs.Prelude.{◌==◌, ◌||◌, ◌&&◌, ◌/◌, ◌%◌, not, nat_lt}
use Rattle.std.specs.Char.{digit_char}
use Rattle.std.specs.List.{list_all, flat_map}
use Rattle.std.specs.Str.{is_utf8}
use Rattle.std.proofs.lemmas.Bool.{cases_Bool, and_parts, and_from, ne_eqb, ltb-false, false≢true}
use Rattle.std.proofs.lemmas.List.Folds.{list_all-append, flat_map-map}
use Rattle.json.specs.Token.{Token, begin_object, end_object, key}
use Rattle.json.specs.Print.{escape_letter, escape_byte, escape, quoted, token_text, begins, ends, separator, print_from}
use Rattle.gufi_base.specs.declared.record.Row.{Row}
use Rattle.gufi_base.specs.Basics.{line, text_lines}
use Rattle.gufi_base.specs.Rows.{depth_below}
use Rattle.gufi_base.proofs.Parts.{has_no}
use Rattle.gufi_select.specs.declared.column.Column.{Column}
use Rattle.gufi_select.specs.declared.condition.Value.{Value}
use Rattle.gufi_select.specs.declared.condition.Value.TheVariants.{Text, Number}
use Rattle.gufi_select.specs.Columns.{Seen, seen_row, value_in}
use Rattle.gufi_forms.specs.Forms.{is_held}
use Rattle.gufi_forms.specs.Names.{column_name}
use Rattle.gufi_forms.specs.Objects.{object_text}
use Rattle.gufi_forms.specs.ObjectTokens.{value_tokens, column_tokens}
use Rattle.gufi_forms.proofs.Numbers.{number_has_no}
use Rattle.gufi_forms.proofs.Objects.{members_first}
use Rattle.gufi_forms.proofs.TextLines.{lines_cut}
use Rattle.gufi_forms.proofs.Values.{IsSound, value_sound, held_fits, held_depth}

apart : (c : ℕ) → c ≢ 10 → not (c == 10) ≡ true
apart c other = rw (ne_eqb c 10 other) refl

no_newline : (c : ℕ) → 32 ≤ c → not (c == 10) ≡ true
no_newline c high = apart c (λ e. omega (arith, high, e))

digit_apart : (d : ℕ) → not (digit_char d == 10) ≡ true
digit_apart d =
    elim (cases_Bool (nat_lt d 10)) [
      | inl few ↦ rw few (no_newline (48 + d) (omega arith))
      | inr more ↦ rw more (no_newline (87 + d) (omega arith))
    ]

letter_apart : (x : ℕ) → not (escape_letter x == 10) ≡ true
letter_apart x =
    elim (cases_Bool ((x == 34) || (x == 92))) [
      | inl itself ↦ rw itself (apart x (λ e. false≢true (ap (λ (n : ℕ). (n == 34) || (n == 92)) (sym e) ∙ itself)))
      | inr other ↦ rw other (elim (cases_Bool (x == 8)) [
        | inl is ↦ rw (is) refl
        | inr no_8 ↦ rw no_8 (elim (cases_Bool (x == 12)) [
          | inl is ↦ rw (is) refl
          | inr no_12 ↦ rw no_12 (elim (cases_Bool (x == 10)) [
            | inl is ↦ rw (is) refl
            | inr no_10 ↦ rw no_10 (elim (cases_Bool (x == 13)) [
              | inl is ↦ rw (is) refl
              | inr no_13 ↦ rw no_13 (elim (cases_Bool (x == 9)) [
                | inl is ↦ rw (is) refl
                | inr no_9 ↦ rw no_9 refl
              ])
            ])
          ])
        ])
      ])
    ]

byte_has_no : (x : ℕ) → has_no 10 (escape_byte x) ≡ true
unfolding escape_byte
byte_has_no x =
    elim (cases_Bool (nat_lt 0 (escape_letter x))) [
      | inl short ↦ rw short (and_from _ _ (letter_apart x) refl)
      | inr long ↦ rw long (elim (cases_Bool (nat_lt x 32)) [
        | inl control ↦ rw control (and_from _ _ (digit_apart (x / 16)) (and_from _ _ (digit_apart (x % 16)) refl))
        | inr plain ↦ rw plain (and_from _ _ (no_newline x (ltb-false x 32 plain)) refl)
      ])
    ]

escape_has_no : (text : List ℕ) → has_no 10 (escape text) ≡ true
escape_has_no [] = refl
escape_has_no (x ∷ text) = list_all-append (λ b. not (b == 10)) (escape_byte x) (escape text) ∙ and_from _ _ (byte_has_no x) (escape_has_no text)

quoted_has_no : (text : List ℕ) → has_no 10 (quoted text) ≡ true
quoted_has_no text = list_all-append (λ b. not (b == 10)) (escape text) (34 ∷ []) ∙ and_from _ _ (escape_has_no text) refl

key_has_no : (name : List ℕ) → has_no 10 (token_text (key name)) ≡ true
key_has_no name = list_all-append (λ b. not (b == 10)) (quoted name) (58 ∷ []) ∙ and_from _ _ (quoted_has_no name) refl

abbrev token_has_no : Token → Bool
token_has_no t = has_no 10 (token_text t)

separator_has_no : (later : Bool) (t : Token) → has_no 10 (separator later t) ≡ true
separator_has_no later t =
    elim (cases_Bool (later && begins t)) [
      | inl comma ↦ rw comma refl
      | inr none ↦ rw none refl
    ]

print_has_no : (later : Bool) (ts : List Token) → list_all token_has_no ts ≡ true → has_no 10 (print_from later ts) ≡ true
unfolding print_from
print_has_no later [] each = refl
print_has_no later (t ∷ ts) each =
    let both = and_parts (token_has_no t) (list_all token_has_no ts) each in
    list_all-append (λ b. not (b == 10)) (separator later t) (token_text t ++ print_from (ends t) ts)
    ∙ and_from _ _ (separator_has_no later t) (list_all-append (λ b. not (b == 10)) (token_text t) (print_from (ends t) ts) ∙ and_from _ _ both.0 (print_has_no (ends t) ts both.1))

value_has_no : (name : List ℕ) (value : Value) → IsSound value → list_all token_has_no (value_tokens name value) ≡ true
value_has_no name (Number n) sound = and_from _ _ (key_has_no name) (and_from _ _ (number_has_no 10 (λ c low high e. omega (arith, low, e)) n sound) refl)
value_has_no name (Text text) sound =
    elim (cases_Bool (is_utf8 text)) [
      | inl is ↦ rw (is) (and_from _ _ (key_has_no name) (and_from _ _ (quoted_has_no text) refl))
      | inr other ↦ rw other (and_from _ _ (key_has_no _) (and_from _ _ (quoted_has_no _) refl))
    ]

columns_have_no : (seen : Seen) → ((column : Column) → IsSound (value_in column seen)) → (columns : List Column) → list_all token_has_no (flat_map (column_tokens seen) columns) ≡ true
columns_have_no seen sound [] = refl
columns_have_no seen sound (c ∷ columns) =
    list_all-append token_has_no (column_tokens seen c) (flat_map (column_tokens seen) columns)
    ∙ and_from _ _ (value_has_no (column_name c) (value_in c seen) (sound c)) (columns_have_no seen sound columns)

object_has_no : (seen : Seen) → ((column : Column) → IsSound (value_in column seen)) → (columns : List Column) → has_no 10 (object_text seen columns) ≡ true
object_has_no seen sound columns =
    print_has_no false (begin_object ∷ _)
    (and_from _ _ refl (ap (list_all token_has_no) (members_first seen columns) ∙ list_all-append token_has_no (flat_map (column_tokens seen) columns) (end_object ∷ []) ∙ and_from _ _ (columns_have_no seen sound columns) refl))

module _ (columns : List Column) (above : ℕ) where
  abbrev row_text : Row → List ℕ
  row_text row = object_text (seen_row row (depth_below above row)) columns

  rows_have_no : (rows : List Row) → list_all is_held rows ≡ true → list_all (has_no 10) (map row_text rows) ≡ true
  rows_have_no [] held = refl
  rows_have_no (row ∷ rows) held =
      let both = and_parts (is_held row) (list_all is_held rows) held in
      let sound = value_sound row (depth_below above row) (held_fits row both.0) (held_depth above row both.0) in
      and_from _ _ (object_has_no (seen_row row (depth_below above row)) sound columns) (rows_have_no rows both.1)

  pub objects_cut : (rows : List Row) → list_all is_held rows ≡ true → text_lines (flat_map (λ row. line (row_text row)) rows) ≡ map row_text rows
  objects_cut rows held = ap text_lines (sym (flat_map-map line row_text rows)) ∙ lines_cut (map row_text rows) (rows_have_no rows held)
