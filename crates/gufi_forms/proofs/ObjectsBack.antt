-- What JSON objects tell reads back.
use Rattle.std.proofs.Common.{◌≡◌, ◌≢◌, inl, inr, ℕ, Bool, true, false, List, [], ◌∷◌, map, Option, Some, None, option_map, refl, sym, ap, ◌∙◌, arith}
use Rattle.std.specs.Prelude.{◌==◌, not, bytes_eq, cond, codes}
use Rattle.std.specs.Str.{is_utf8}
use Rattle.std.proofs.lemmas.Bool.{cases_Bool, and_parts, or_parts, false≢true}
use Rattle.std.proofs.lemmas.List.{append_cancel_right}
use Rattle.std.proofs.lemmas.List.Folds.{list_all-append}
use Rattle.std.proofs.lemmas.Slice.Eq.{bytes_eq-Decides}
use Rattle.json.specs.Find.{later_or, get_member}
use Rattle.json.specs.Json.{Json, string, Members, member, document}
use Rattle.json.specs.Tree.{members_depth, MembersHaveNumbers}
use Rattle.json.proofs.Printed.Trees.{document-print}
use Rattle.gufi_base.specs.declared.record.Row.{Row}
use Rattle.gufi_base.specs.Rows.{depth_below}
use Rattle.gufi_base.proofs.Parts.{has_no}
use Rattle.gufi_select.specs.declared.column.Column.{Column}
use Rattle.gufi_select.specs.declared.column.Column.TheVariants.{Path, Name, Kind, Inode, Mode, Nlink, Uid, Gid, Size, Blksize, Blocks, Atime, Mtime, Ctime, Linkname, Xattrs, Level}
use Rattle.gufi_select.specs.declared.condition.Value.{Value}
use Rattle.gufi_select.specs.declared.condition.Value.TheVariants.{Text, Number}
use Rattle.gufi_select.specs.Columns.{Seen, seen_row, value_in, value_at}
use Rattle.std.specs.List.{list_all, flat_map}
use Rattle.gufi_base.specs.Basics.{line, text_lines}
use Rattle.gufi_forms.proofs.ObjectLines.{objects_cut}
use Rattle.gufi_forms.specs.Forms.{is_held}
use Rattle.gufi_forms.specs.Escapes.{escaped}
use Rattle.gufi_forms.specs.Names.{column_name, is_named, first_twice}
use Rattle.gufi_forms.specs.Objects.{bytes_name, with_value, row_members, row_object, object_text, told, told_value, told_values}
use Rattle.gufi_forms.proofs.Escapes.{reads_back}
use Rattle.gufi_forms.proofs.Numbers.{number_is_number, number_back}
use Rattle.gufi_forms.proofs.Objects.{is_false}
use Rattle.gufi_forms.proofs.Values.{IsSound, value_sound, held_fits, held_depth}

-- ---- names

name_has_no : (column : Column) → has_no 95 (column_name column) ≡ true
name_has_no column =
    elim column as (λ c. has_no 95 (column_name c) ≡ true) [
      | Path ↦ refl
      | Name ↦ refl
      | Kind ↦ refl
      | Inode ↦ refl
      | Mode ↦ refl
      | Nlink ↦ refl
      | Uid ↦ refl
      | Gid ↦ refl
      | Size ↦ refl
      | Blksize ↦ refl
      | Blocks ↦ refl
      | Atime ↦ refl
      | Mtime ↦ refl
      | Ctime ↦ refl
      | Linkname ↦ refl
      | Xattrs ↦ refl
      | Level ↦ refl
    ]

-- a column's name has no underscore, and that of a member of bytes has one
no_column : (column : Column) (name : List ℕ) → bytes_name name ≢ column_name column
no_column column name same =
    let none = ap (has_no 95) same ∙ name_has_no column in
    let parts = and_parts (has_no 95 name) (has_no 95 (codes "_bytes")) (sym (list_all-append (λ b. not (b == 95)) name (codes "_bytes")) ∙ none) in
    false≢true parts.1

unlike : (a b : List ℕ) → a ≢ b → bytes_eq a b ≡ false
unlike a b other = is_false (bytes_eq a b) (λ e. other ((bytes_eq-Decides a b).0 e))

differ : (a b : List ℕ) → bytes_eq a b ≡ false → a ≢ b
differ a b no_same same = false≢true (sym no_same ∙ (bytes_eq-Decides a b).1 same)

-- ---- members

later_none : (o : Option Json) → later_or o None ≡ o
later_none None = refl
later_none (Some j) = refl

past : (k l : List ℕ) (j : Json) (ms : Members) → l ≢ k → get_member k (member l j ms) ≡ get_member k ms
past k l j ms other = ap (λ (b : Bool). later_or (get_member k ms) (cond b (Some j) None)) (unlike l k other) ∙ later_none (get_member k ms)

found : (k : List ℕ) (j : Json) (ms : Members) → get_member k ms ≡ None → get_member k (member k j ms) ≡ Some j
found k j ms none =
    ap (λ (o : Option Json). later_or o (cond (bytes_eq k k) (Some j) None)) none ∙ ap (λ (b : Bool). cond b (Some j) None) ((bytes_eq-Decides k k).1 refl)

-- what members tell of a column of another name
record Past (c x : Column) (value : Value) (rest : Members) : Type 0 where
  plain : get_member (column_name x) (with_value (column_name c) value rest) ≡ get_member (column_name x) rest
  bytes : get_member (bytes_name (column_name x)) (with_value (column_name c) value rest) ≡ get_member (bytes_name (column_name x)) rest

value_past : (c x : Column) (value : Value) (rest : Members) → column_name c ≢ column_name x → Past c x value rest
value_past c x (Number n) rest other = record {
  plain = past (column_name x) (column_name c) _ rest other;
  bytes = past (bytes_name (column_name x)) (column_name c) _ rest (λ e. no_column c (column_name x) (sym e));
}
value_past c x (Text text) rest other =
    elim (cases_Bool (is_utf8 text)) [
      | inl is ↦ record {
        plain = rw (is) (past (column_name x) (column_name c) _ rest other);
        bytes = rw (is) (past (bytes_name (column_name x)) (column_name c) _ rest (λ e. no_column c (column_name x) (sym e)));
      }
      | inr is_other ↦ record {
        plain = rw is_other (past (column_name x) (bytes_name (column_name c)) _ rest (no_column x (column_name c)));
        bytes = rw is_other (past (bytes_name (column_name x)) (bytes_name (column_name c)) _ rest (λ e. other (append_cancel_right (column_name c) (column_name x) (codes "_bytes") e)));
      }
    ]

record Absent (x : Column) (ms : Members) : Type 0 where
  plain : get_member (column_name x) ms ≡ None
  bytes : get_member (bytes_name (column_name x)) ms ≡ None

absent : (seen : Seen) (x : Column) (columns : List Column) → is_named (column_name x) columns ≡ false → Absent x (row_members seen columns)
absent seen x [] h = record { plain = refl; bytes = refl }
absent seen x (c ∷ columns) h =
    let both = or_parts (bytes_eq (column_name c) (column_name x)) (is_named (column_name x) columns) h in
    let one = value_past c x (value_in c seen) (row_members seen columns) (differ _ _ both.0) in
    let rest = absent seen x columns both.1 in
    record { plain = one.plain ∙ rest.plain; bytes = one.bytes ∙ rest.bytes }

told_first : (c : Column) (value : Value) (rest : Members) → IsSound value → Absent c rest → told_value (with_value (column_name c) value rest) c ≡ Some value
told_first c (Number n) rest sound none =
    ap (λ (o : Option Json). told o (get_member (bytes_name (column_name c)) (with_value (column_name c) (Number n) rest))) (found (column_name c) _ rest none.plain)
    ∙ ap (λ z. Some (Number z)) (number_back n sound)
told_first c (Text text) rest sound none =
    elim (cases_Bool (is_utf8 text)) [
      | inl is ↦ rw (is) (ap (λ (o : Option Json). told o (get_member (bytes_name (column_name c)) (member (column_name c) (string text) rest))) (found (column_name c) (string text) rest none.plain))
      | inr is_other ↦ rw is_other (
          ap (λ (o : Option Json). told o (get_member (bytes_name (column_name c)) (member (bytes_name (column_name c)) (string (escaped text)) rest)))
          (past (column_name c) (bytes_name (column_name c)) (string (escaped text)) rest (no_column c (column_name c)) ∙ none.plain)
          ∙ ap (λ (o : Option Json). told None o) (found (bytes_name (column_name c)) (string (escaped text)) rest none.bytes)
          ∙ ap (option_map (λ (bytes : List ℕ). Text bytes)) (reads_back text sound))
    ]

named_past : (c : Column) (value : Value) (rest : Members) (columns : List Column) → is_named (column_name c) columns ≡ false
    → map (told_value (with_value (column_name c) value rest)) columns ≡ map (told_value rest) columns
named_past c value rest [] h = refl
named_past c value rest (x ∷ columns) h =
    let both = or_parts (bytes_eq (column_name x) (column_name c)) (is_named (column_name c) columns) h in
    let one = value_past c x value rest (λ e. differ _ _ both.0 (sym e)) in
    ap (λ (o : Option Json). told o (get_member (bytes_name (column_name x)) (with_value (column_name c) value rest)) ∷ map (told_value (with_value (column_name c) value rest)) columns) one.plain
    ∙ ap (λ (o : Option Json). told (get_member (column_name x) rest) o ∷ map (told_value (with_value (column_name c) value rest)) columns) one.bytes
    ∙ ap (λ (os : List (Option Value)). told_value rest x ∷ os) (named_past c value rest columns both.1)

told_all : (seen : Seen) → ((column : Column) → IsSound (value_in column seen)) → (columns : List Column) → first_twice columns ≡ None
    → map (told_value (row_members seen columns)) columns ≡ map (λ column. Some (value_in column seen)) columns
told_all seen sound [] once = refl
told_all seen sound (c ∷ columns) once =
    let value = value_in c seen in
    let rest = row_members seen columns in
    elim (cases_Bool (is_named (column_name c) columns)) [
      | inl again ↦ absurd (let some : Some c ≡ None = sym (ap (λ (b : Bool). cond b (Some c) (first_twice columns)) again) ∙ once in cc)
      | inr alone ↦
          let later : first_twice columns ≡ None = sym (ap (λ (b : Bool). cond b (Some c) (first_twice columns)) alone) ∙ once in
          ap (λ (o : Option Value). o ∷ map (told_value (with_value (column_name c) value rest)) columns) (told_first c value rest (sound c) (absent seen c columns alone))
          ∙ ap (λ (os : List (Option Value)). Some value ∷ os) (named_past c value rest columns alone ∙ told_all seen sound columns later)
    ]

-- ---- the text

value_flat : (name : List ℕ) (value : Value) (rest : Members) → members_depth rest ≡ 0 → members_depth (with_value name value rest) ≡ 0
value_flat name (Number n) rest flat = omega (arith, flat)
value_flat name (Text text) rest flat =
    elim (cases_Bool (is_utf8 text)) [
      | inl is ↦ rw (is) (omega (arith, flat))
      | inr other ↦ rw other (omega (arith, flat))
    ]

members_flat : (seen : Seen) (columns : List Column) → members_depth (row_members seen columns) ≡ 0
members_flat seen [] = refl
members_flat seen (c ∷ columns) = value_flat (column_name c) (value_in c seen) (row_members seen columns) (members_flat seen columns)

value_numbers : (name : List ℕ) (value : Value) (rest : Members) → IsSound value → MembersHaveNumbers rest → MembersHaveNumbers (with_value name value rest)
value_numbers name (Number n) rest sound numbers = (number_is_number n sound, numbers)
value_numbers name (Text text) rest sound numbers =
    elim (cases_Bool (is_utf8 text)) [
      | inl is ↦ rw (is) (tt, numbers)
      | inr other ↦ rw other (tt, numbers)
    ]

members_numbers : (seen : Seen) → ((column : Column) → IsSound (value_in column seen)) → (columns : List Column) → MembersHaveNumbers (row_members seen columns)
members_numbers seen sound [] = tt
members_numbers seen sound (c ∷ columns) = value_numbers (column_name c) (value_in c seen) (row_members seen columns) (sound c) (members_numbers seen sound columns)

module _ (columns : List Column) (once : first_twice columns ≡ None) (above : ℕ) where
  object_back : (row : Row) → is_held row ≡ true
      → told_values columns (document (object_text (seen_row row (depth_below above row)) columns)) ≡ map (λ column. Some (value_at column row (depth_below above row))) columns
  object_back row held =
      let seen = seen_row row (depth_below above row) in
      let sound = value_sound row (depth_below above row) (held_fits row held) (held_depth above row held) in
      let flat = members_flat seen columns in
      ap (told_values columns) (document-print (row_object seen columns) (members_numbers seen sound columns) (omega (arith, flat))) ∙ told_all seen sound columns once

  rows_back : (rows : List Row) → list_all is_held rows ≡ true
      → map (λ (l : List ℕ). told_values columns (document l)) (map (λ (row : Row). object_text (seen_row row (depth_below above row)) columns) rows)
      ≡ map (λ (row : Row). map (λ column. Some (value_at column row (depth_below above row))) columns) rows
  rows_back [] held = refl
  rows_back (row ∷ rows) held =
      let both = and_parts (is_held row) (list_all is_held rows) held in
      ap (λ (values : List (Option Value)). values ∷ map (λ (l : List ℕ). told_values columns (document l)) (map (λ (row : Row). object_text (seen_row row (depth_below above row)) columns) rows))
      (object_back row both.0)
      ∙ ap (λ (rest : List (List (Option Value))). map (λ column. Some (value_at column row (depth_below above row))) columns ∷ rest) (rows_back rows both.1)

  pub lines_back : (rows : List Row) → list_all is_held rows ≡ true
      → map (λ (l : List ℕ). told_values columns (document l)) (text_lines (flat_map (λ row. line (object_text (seen_row row (depth_below above row)) columns)) rows))
      ≡ map (λ (row : Row). map (λ column. Some (value_at column row (depth_below above row))) columns) rows
  lines_back rows held = ap (map (λ (l : List ℕ). told_values columns (document l))) (objects_cut columns above rows held) ∙ rows_back rows held
