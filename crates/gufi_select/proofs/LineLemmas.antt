-- Lines, piece by piece.
use Rattle.std.proofs.Common.{◌≡◌, ℕ, List, [], ◌∷◌, ◌++◌, sym, ap, ◌∙◌, append_assoc, append-nil}
use Rattle.std.specs.List.{flat_map}
use Rattle.gufi_base.specs.declared.record.Row.{Row}
use Rattle.gufi_base.specs.declared.record.RowRef.{RowRef}
use Rattle.gufi_base.specs.Basics.{line}
use Rattle.gufi_base.specs.Rows.{Stands}
use Rattle.gufi_select.specs.declared.column.Column.{Column}
use Rattle.gufi_select.specs.Columns.{Seen, Select, projected}
use Rattle.gufi_select.specs.Lines.{column_text, tabbed_text, columns_text}
use Rattle.gufi_select.specs.Parts.{seen_parts}
use Rattle.gufi_select.proofs.RowLemmas.{same_seen}

-- columns joined by tabs are the first, and each other behind a tab
joined_columns : (seen : Seen) (first : Column) (others : List Column) → columns_text seen (first ∷ others) ≡ column_text seen first ++ flat_map (tabbed_text seen) others
joined_columns seen first [] = sym (append-nil (column_text seen first))
joined_columns seen first (next ∷ others) = ap (λ l. column_text seen first ++ 9 ∷ l) (joined_columns seen next others)

pub columns_put : (seen : Seen) (columns : List Column) (first : Column) (others : List Column) (old now next : List ℕ) → columns ≡ first ∷ others
    → now ≡ old ++ column_text seen first → next ≡ now ++ flat_map (tabbed_text seen) others → next ≡ old ++ columns_text seen columns
columns_put seen columns first others old now next is one more =
    more ∙ ap (λ l. l ++ flat_map (tabbed_text seen) others) one ∙ append_assoc old (column_text seen first) (flat_map (tabbed_text seen) others)
    ∙ ap (λ l. old ++ l) (sym (joined_columns seen first others)) ∙ ap (λ cs. old ++ columns_text seen cs) (sym is)

-- the line of a row in borrowed parts is that of the row
pub line_of_parts : (select : Select) (ref : RowRef) (row : Row) (depth : ℕ) → Stands ref row → line (columns_text (seen_parts ref depth) select.columns) ≡ projected select row depth
line_of_parts select ref row depth stands = ap (λ (s : Seen). line (columns_text s select.columns)) (same_seen ref row depth stands)
