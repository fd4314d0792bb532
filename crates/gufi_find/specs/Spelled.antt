-- How a formula is written as the words of an expression.
use Rattle.std.specs.Prelude.{◌≡◌, ℕ, ℤ, List, [], ◌∷◌, Option, Some, Ok, codes}
use Rattle.gufi_formula.specs.Written.{Spelling}
use Rattle.gufi_users.specs.Entries.{UserTables}
use Rattle.gufi_find.specs.declared.test.Test.{Test}
use Rattle.gufi_find.specs.declared.operand.Operand.{Operand}
use Rattle.gufi_find.specs.declared.operand.Item.TheVariants.{OfTest}
use Rattle.gufi_find.specs.declared.primary.Primary.TheVariants.{Alone, Taking}
use Rattle.gufi_find.specs.declared.primary.PrimaryName.{PrimaryName}
use Rattle.gufi_find.specs.Operands.{read_operand, primary_named, primary_of}

-- a test by itself, or behind the word of its primary the argument that makes it
pub data IsSpelled (tables : UserTables) (now : Option ℤ) : Test → List (List ℕ) → Type 0 where
  alone : {t : Test} {word : List ℕ} {name : PrimaryName} → primary_named word ≡ Some name → primary_of tables now name ≡ Alone t → IsSpelled tables now t (word ∷ [])
  taking : {t : Test} {word argument : List ℕ} {name : PrimaryName} {operand : Operand} → primary_named word ≡ Some name → primary_of tables now name ≡ Taking operand → read_operand tables operand argument ≡ Ok (OfTest t)
      → IsSpelled tables now t (word ∷ argument ∷ [])

-- the signs of an expression, where each test has these words
abbrev pub find_spelling : (Test → List (List ℕ)) → Spelling Test (List ℕ)
find_spelling spelled = record { test_words = spelled; open_word = codes "("; close_word = codes ")"; not_word = codes "!"; and_word = codes "-a"; or_word = codes "-o" }
