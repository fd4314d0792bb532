-- A path with its size.
use Rattle.std.specs.Prelude.{◌≡◌, ℕ, List, length}
use Rattle.gufi_base.specs.PathTexts.{kept_text}

pub record IsMeasured (path : List (List ℕ)) (depth bytes : ℕ) : Type 0 where
  pub names : depth ≡ length path
  pub text : bytes ≡ length (kept_text path)
