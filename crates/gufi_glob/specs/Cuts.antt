-- A match as a cut of the text: as many pieces as the pattern has parts, each part fitting its piece.
use Rattle.std.specs.Prelude.{◌≡◌, ℕ, Bool, true, false, List, [], ◌∷◌}
use Rattle.std.specs.List.{concat}
use Rattle.gufi_glob.specs.Parts.{Part, any_text, one_byte, byte_in}
use Rattle.gufi_glob.specs.Patterns.{is_among}

-- any text, one byte, or one byte among those of a bracket
abbrev pub fits : Part → List ℕ → Bool
fits any_text piece = true
fits one_byte (b ∷ []) = true
fits (byte_in complement ranges) (b ∷ []) = is_among complement ranges b
fits part piece = false

-- as many pieces as parts, and each part fits its piece
pub data Fitting : List Part → List (List ℕ) → Type 0 where
  none : Fitting [] []
  more : {part : Part} {piece : List ℕ} {parts : List Part} {pieces : List (List ℕ)} → fits part piece ≡ true → Fitting parts pieces → Fitting (part ∷ parts) (piece ∷ pieces)

-- the pieces make up the text, and the parts fit them
pub record IsCut (parts : List Part) (text : List ℕ) (pieces : List (List ℕ)) : Type 0 where
  pub whole : concat pieces ≡ text
  pub fitting : Fitting parts pieces
