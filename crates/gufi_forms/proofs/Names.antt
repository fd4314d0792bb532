-- A column that is named twice.
use Rattle.std.proofs.Common.{◌≡◌, ℕ, ◌+◌, ◌<◌, add-one, Bool, true, false, List, ◌∷◌, length, get_or, drop, Some, refl, sym, ap, ◌∙◌, drop-cons}
use Rattle.std.specs.Prelude.{if◌then◌else◌}
use Rattle.gufi_select.specs.declared.column.Column.{Column}
use Rattle.gufi_forms.specs.Names.{column_name, is_named, first_twice}

-- what stands from a place on
from_place : (columns : List Column) (place : ℕ) (column : Column) → place < length columns → column ≡ get_or columns place column → drop place columns ≡ column ∷ drop (place + 1) columns
from_place columns place column within is = drop-cons columns place column within ∙ rw (← is, add-one) refl

pub stands_again : (columns : List Column) (place : ℕ) (column : Column) → place < length columns → column ≡ get_or columns place column → first_twice columns ≡ first_twice (drop place columns)
    → is_named (column_name column) (drop (place + 1) columns) ≡ true → Some column ≡ first_twice columns
stands_again columns place column within is so_far again =
    sym (so_far ∙ ap first_twice (from_place columns place column within is) ∙ ap (λ (b : Bool). if b then Some column else first_twice (drop (place + 1) columns)) again)

pub stands_once : (columns : List Column) (place : ℕ) (column : Column) → place < length columns → column ≡ get_or columns place column → first_twice columns ≡ first_twice (drop place columns)
    → is_named (column_name column) (drop (place + 1) columns) ≡ false → first_twice columns ≡ first_twice (drop (place + 1) columns)
stands_once columns place column within is so_far once =
    so_far ∙ ap first_twice (from_place columns place column within is) ∙ ap (λ (b : Bool). if b then Some column else first_twice (drop (place + 1) columns)) once
