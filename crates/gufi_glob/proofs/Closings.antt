-- Where a bracket closes.
use Rattle.std.proofs.Common.{◌≡◌, ℕ, ◌+◌, ◌<◌, Bool, false, List, length, drop, get_or, refl, ap, ◌∙◌, arith}
use Rattle.std.specs.Prelude.{◌&&◌, ◌==◌, not, Option, Some, None, option_map}
use Rattle.std.proofs.lemmas.List.{drop_more}
use Rattle.gufi_glob.specs.Patterns.{close_at}

further : (found : Option ℕ) (at : ℕ) → option_map (λ n. n + at) (option_map (λ n. n + 1) found) ≡ option_map (λ n. n + (at + 1)) found
further None at = refl
further (Some n) at = ap Some (omega arith)

-- one byte more before the others, which doesn't close
pub close_more : (bytes : List ℕ) (at : ℕ) (escaped : Bool) → at < length bytes → (not escaped && (get_or bytes at 0 == 93)) ≡ false
    → option_map (λ n. n + at) (close_at escaped (drop at bytes)) ≡ option_map (λ n. n + (at + 1)) (close_at (not escaped && (get_or bytes at 0 == 92)) (drop (at + 1) bytes))
close_more bytes at escaped inside e =
    ap (λ rest. option_map (λ n. n + at) (close_at escaped rest)) (drop_more bytes at 0 inside)
    ∙ rw e (further (close_at (not escaped && (get_or bytes at 0 == 92)) (drop (at + 1) bytes)) at)
