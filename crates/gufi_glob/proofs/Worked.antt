use Rattle.std.proofs.Common.{◌≡◌, ℕ, List, [], ◌∷◌, refl, Bool, true, false}
use Rattle.std.specs.Prelude.{Ok, Err, codes, Result}
use Rattle.gufi_glob.specs.declared.fault.GlobFault.{GlobFault}
use Rattle.gufi_glob.specs.declared.fault.GlobFault.TheVariants.{BadPattern}
use Rattle.gufi_glob.specs.Parts.{Part, byte_in, only}
use Rattle.gufi_glob.specs.Patterns.{read_pattern, parts_from, matches}

abbrev fits : Result (List Part) GlobFault → List ℕ → Bool
fits (Ok parts) text = matches parts text
fits (Err e) text = false

star : fits (read_pattern (codes "*.h5")) (codes "run 1.h5") ≡ true
unfolding parts_from
star = refl

not_star : fits (read_pattern (codes "*.h5")) (codes "run.h5x") ≡ false
unfolding parts_from
not_star = refl

first_bracket : read_pattern (codes "[]-a]") ≡ Ok (byte_in false ((93, 97) ∷ []) ∷ [])
unfolding parts_from
first_bracket = refl

complement : read_pattern (codes "[!a-c-]x") ≡ Ok (byte_in true ((97, 99) ∷ (45, 45) ∷ []) ∷ only 120 ∷ [])
unfolding parts_from
complement = refl

open_bracket : read_pattern (codes "[a\\]") ≡ Ok (only 91 ∷ only 97 ∷ only 93 ∷ [])
unfolding parts_from
open_bracket = refl

last_backslash : read_pattern (codes "a\\") ≡ Err BadPattern
unfolding parts_from
last_backslash = refl

class : read_pattern (codes "[[:a") ≡ Err BadPattern
unfolding parts_from
class = refl

falling : read_pattern (codes "[b-a]") ≡ Err BadPattern
unfolding parts_from
falling = refl
