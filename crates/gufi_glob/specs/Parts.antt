-- What a pattern is made of.
use Rattle.std.specs.Prelude.{ℕ, Bool, false, List, [], ◌∷◌}

-- a part matches any text, one byte, or one byte in some ranges or outside them
pub data Part : Type 0 where
  any_text : Part
  one_byte : Part
  byte_in : Bool → List (ℕ × ℕ) → Part

abbrev pub only : ℕ → Part
only b = byte_in false ((b, b) ∷ [])
