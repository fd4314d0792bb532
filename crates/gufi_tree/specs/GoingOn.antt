-- What is packed behind what a bundle holds already.
use Rattle.std.specs.Prelude.{◌≡◌, ℕ, ◌++◌, List, All}
use Rattle.gufi_tree.specs.declared.bundle.Packed.{Packed}
use Rattle.gufi_tree.specs.Bundles.{IsPacked}

-- a text and its entries go on by some bytes and by some entries
pub record GoesOn (text next : List ℕ) (rows after : List Packed) : Type 0 where
  pub bytes : (more : List ℕ) × (next ≡ text ++ more)
  pub entries : (more : List Packed) × (after ≡ rows ++ more)
  pub packed : All (IsPacked next) after
