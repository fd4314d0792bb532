-- find expressions (XCU find) and their truth at a row.
use Rattle.std.specs.Prelude.{◌≡◌, ◌≢◌, ℕ, ◌-◌, List, length, slice_index, Bool, true, false, ◌==◌, ◌&&◌, nat_le, Option, Some, None, is_none, IfSome}
use Rattle.gufi_base.specs.Paths.{base_name}
use Rattle.gufi_base.specs.declared.record.Row.{Row}
use Rattle.gufi_formula.specs.Formulas.{Formula, holds, only_test}
use Rattle.gufi_find.specs.declared.test.Test.{Test}
use Rattle.gufi_find.specs.Tests.{test_holds, is_always}

-- an expression with the bounds of depth
pub record Find : Type 0 where
  pub expr : Formula Test
  pub least_depth : ℕ
  pub most_depth : Option ℕ

abbrev pub is_at_most : Option ℕ → ℕ → Bool
is_at_most None depth = true
is_at_most (Some most) depth = nat_le depth most

-- the expression is true and the depth within its bounds
abbrev pub find_holds : Find → Row → ℕ → Bool
find_holds f row depth = holds (λ t. test_holds t row) f.expr && nat_le f.least_depth depth && is_at_most f.most_depth depth

-- the last byte of a name, and 0 where it has none
abbrev pub last_byte : List ℕ → ℕ
last_byte name = slice_index name (length name - 1)

-- no row meets an expression whose last name ends with another byte than this one, where there is one
abbrev pub EndsWith : Find → Option ℕ → Type 0
EndsWith f last = IfSome last (λ b. (row : Row) (depth : ℕ) → last_byte (base_name row.path) ≢ b → find_holds f row depth ≡ false)

-- an expression of no words
abbrev pub is_wordless : Option Test → Bool
is_wordless None = false
is_wordless (Some t) = is_always t

abbrev pub has_no_words : Find → Bool
has_no_words f = is_wordless (only_test f.expr) && (f.least_depth == 0 && is_none f.most_depth)
