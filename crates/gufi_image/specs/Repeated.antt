-- Parts that stand one after the other.
use Rattle.std.specs.Prelude.{ℕ, zero, suc, List, Result, Ok}
use Rattle.gufi_base.specs.Basics.{◌>>=◌}
use Rattle.gufi_image.specs.declared.fault.Flaw.{Flaw}

-- so many steps, each of which reads a part behind those before it
abbrev pub repeated : {S : Type 0} → (S → List ℕ → Result (S × List ℕ) Flaw) → ℕ → S → List ℕ → Result (S × List ℕ) Flaw
repeated step zero front bytes = Ok (front, bytes)
repeated step (suc count) front bytes = step front bytes >>= λ more. repeated step count more.0 more.1
