-- Lemmas on fronts that were taken.
use Rattle.std.proofs.Common.{◌≡◌, ℕ, ◌+◌, ◌≤◌, List, ◌++◌, length, take, drop, refl, sym, ap, ◌∙◌, append_assoc, arith}
use Rattle.std.specs.Prelude.{Option, Some, None}
use Rattle.std.proofs.lemmas.List.{take-append-drop, length-append, length-take}
use Rattle.std.specs.Io.KnownBytes.{Appends, Consumes}
use Rattle.std.proofs.KnownBytes.{Appends-trans}
use Rattle.gufi_io.specs.Files.{Files, IsReadUpTo, TakesUpTo}
use Rattle.gufi_io.specs.Whole.{IsTakenUpTo}

-- n more bytes of the rest were taken
pub TakesUpTo-more : (a b c : Option (List ℕ)) (bytes rest : List ℕ) (n : ℕ) → TakesUpTo a b bytes rest → Appends b c (take n rest) → TakesUpTo a c bytes (drop n rest)
TakesUpTo-more a b c bytes rest n upto more = record {
  front = upto.front ++ take n rest;
  parts = upto.parts ∙ ap (λ l. upto.front ++ l) (sym (take-append-drop n rest)) ∙ sym (append_assoc upto.front (take n rest) (drop n rest));
  taken = Appends-trans a b c upto.front (take n rest) upto.taken more;
}

-- ---- more of the file in hand is read

pub upto_more : (told : Option Files) (name front bytes : List ℕ) (left left' : Option (List ℕ)) → IsReadUpTo told name front left → Consumes left left' bytes → IsReadUpTo told name (front ++ bytes) left'
upto_more None name front bytes left left' upto more = tt
upto_more (Some files) name front bytes None left' upto more = absurd cc
upto_more (Some files) name front bytes (Some xs) None upto more = absurd more
upto_more (Some files) name front bytes (Some xs) (Some ys) upto more =
    let same : xs ≡ upto.0 = cc in
    (ys, refl, upto.2 ∙ ap (λ (t : List ℕ). Some (front ++ t)) (sym same ∙ more) ∙ ap Some (sym (append_assoc front bytes ys)))

-- a piece more was read and taken
pub taken_more : {T : Type 0} (has_taken : T → List ℕ → Type 0) (told : Option Files) (name buf piece : List ℕ) (left left' : Option (List ℕ)) (now next : T) (size n : ℕ)
    → IsTakenUpTo has_taken told name left now size → Consumes left left' (take n buf) → n ≤ length buf → piece ≡ take n buf → ((bytes : List ℕ) → has_taken now bytes → has_taken next (bytes ++ piece))
    → IsTakenUpTo has_taken told name left' next (size + n)
taken_more has_taken told name buf piece left left' now next size n so_far more few is takes = record {
  bytes = so_far.bytes ++ piece;
  taken = takes so_far.bytes so_far.taken;
  count = omega (arith, length-append so_far.bytes piece, so_far.count, ap length is, length-take n buf);
  upto = upto_more told name so_far.bytes piece left left' so_far.upto (rw is more);
}
