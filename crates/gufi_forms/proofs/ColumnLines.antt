-- Lines of columns, piece by piece.
use Rattle.std.proofs.Common.{◌≡◌, ℕ, List, [], ◌∷◌, ◌++◌, map, sym, ap, ◌∙◌, append_assoc, append-nil}
use Rattle.std.specs.List.{flat_map, join_with_byte}
use Rattle.gufi_base.specs.declared.record.Row.{Row}
use Rattle.gufi_base.specs.declared.record.RowRef.{RowRef}
use Rattle.gufi_base.specs.Basics.{line}
use Rattle.gufi_base.specs.Rows.{Stands}
use Rattle.gufi_select.specs.declared.column.Column.{Column}
use Rattle.gufi_select.specs.Columns.{Seen, seen_row}
use Rattle.gufi_select.specs.Parts.{seen_parts}
use Rattle.gufi_select.proofs.RowLemmas.{same_seen}
use Rattle.gufi_forms.specs.Forms.{escaped_columns}
use Rattle.gufi_forms.specs.Objects.{object_text}

-- texts joined by tabs are the first, and each other behind a tab
joined : (text : Column → List ℕ) (first : Column) (others : List Column) → join_with_byte 9 (map text (first ∷ others)) ≡ text first ++ flat_map (λ column. 9 ∷ text column) others
joined text first [] = sym (append-nil (text first))
joined text first (next ∷ others) = ap (λ l. text first ++ 9 ∷ l) (joined text next others)

pub columns_put : (text : Column → List ℕ) (columns : List Column) (first : Column) (others : List Column) (old now next : List ℕ) → columns ≡ first ∷ others
    → now ≡ old ++ text first → next ≡ now ++ flat_map (λ column. 9 ∷ text column) others → next ≡ old ++ join_with_byte 9 (map text columns)
columns_put text columns first others old now next is one more =
    more ∙ ap (λ l. l ++ flat_map (λ column. 9 ∷ text column) others) one ∙ append_assoc old (text first) (flat_map (λ column. 9 ∷ text column) others)
    ∙ ap (λ l. old ++ l) (sym (joined text first others)) ∙ ap (λ cs. old ++ join_with_byte 9 (map text cs)) (sym is)

-- the lines of a row in borrowed parts are those of the row
pub escaped_of_parts : (columns : List Column) (ref : RowRef) (row : Row) (depth : ℕ) → Stands ref row → line (escaped_columns (seen_parts ref depth) columns) ≡ line (escaped_columns (seen_row row depth) columns)
escaped_of_parts columns ref row depth stands = ap (λ (s : Seen). line (escaped_columns s columns)) (same_seen ref row depth stands)

pub object_of_parts : (columns : List Column) (ref : RowRef) (row : Row) (depth : ℕ) → Stands ref row → line (object_text (seen_parts ref depth) columns) ≡ line (object_text (seen_row row depth) columns)
object_of_parts columns ref row depth stands = ap (λ (s : Seen). line (object_text s columns)) (same_seen ref row depth stands)
