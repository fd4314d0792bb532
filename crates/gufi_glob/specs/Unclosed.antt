-- Bytes in which no bracket stands.
use Rattle.std.specs.Prelude.{◌≡◌, ℕ, false, List, drop, None}
use Rattle.gufi_glob.specs.Patterns.{closing, sign_length, has_class}

-- a `[` before them isn't closed, nor is one among them, and no class begins
pub record IsUnclosed (bytes : List ℕ) : Type 0 where
  pub open_end : closing (drop (sign_length bytes) bytes) ≡ None
  pub classless : has_class bytes ≡ false
