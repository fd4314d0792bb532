-- Lemmas on calls that are to fail.
use Rattle.std.proofs.Common.{◌≡◌, ℕ, ◌+◌, List, refl, add-one}
use Rattle.gufi_io.specs.Calls.{bad_calls, is_bad_call, one_if}

-- one more call
pub bad_calls_next : (bad : List ℕ) (calls : ℕ) → bad_calls bad (calls + 1) ≡ bad_calls bad calls + one_if (is_bad_call bad (calls + 1))
unfolding bad_calls
bad_calls_next bad calls = rw add-one refl
