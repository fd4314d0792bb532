-- Reading a pattern part by part.
use Rattle.std.proofs.Common.{◌≡◌, ℕ, zero, suc, List, [], ◌∷◌, ◌++◌, drop, refl, sym, ap, ◌∙◌, append_assoc, append-nil}
use Rattle.std.specs.Prelude.{Result, Ok, Err}
use Rattle.gufi_base.specs.Basics.{◌>>=◌}
use Rattle.gufi_glob.specs.declared.fault.GlobFault.{GlobFault}
use Rattle.gufi_glob.specs.Parts.{Part}
use Rattle.gufi_glob.specs.Patterns.{parts_from, front_part, read_pattern}

abbrev pub prefixed : List Part → Result (List Part) GlobFault → Result (List Part) GlobFault
prefixed front given = given >>= λ parts. Ok (front ++ parts)

-- the parts so far, and those that the rest makes
pub record Reads (bytes : List ℕ) (front : List Part) (rest : List ℕ) : Type 0 where
  pub whole : read_pattern bytes ≡ prefixed front (parts_from 0 rest)

pub parts_from-skip : (skip : ℕ) (bytes : List ℕ) → parts_from skip bytes ≡ parts_from 0 (drop skip bytes)
unfolding parts_from
parts_from-skip zero bytes = refl
parts_from-skip (suc skip) [] = refl
parts_from-skip (suc skip) (b ∷ rest) = parts_from-skip skip rest

pub parts_from-more : (b : ℕ) (rest : List ℕ) → parts_from 0 (b ∷ rest) ≡ (front_part b rest >>= λ part. parts_from part.1 rest >>= λ parts. Ok (part.0 ∷ parts))
unfolding parts_from
parts_from-more b rest = refl

prefixed_both : (front : List Part) (part : Part) (given : Result (List Part) GlobFault) → prefixed front (given >>= λ parts. Ok (part ∷ parts)) ≡ prefixed (front ++ part ∷ []) given
prefixed_both front part (Ok parts) = ap Ok (sym (append_assoc front (part ∷ []) parts))
prefixed_both front part (Err e) = refl

prefixed_none : (given : Result (List Part) GlobFault) → given ≡ prefixed [] given
prefixed_none (Ok parts) = refl
prefixed_none (Err e) = refl

pub reads_first : (bytes : List ℕ) → Reads bytes [] bytes
reads_first bytes = record { whole = prefixed_none (parts_from 0 bytes) }

pub reads_more : {bytes rest : List ℕ} {front : List Part} {b used : ℕ} {part : Part} → front_part b rest ≡ Ok (part, used) → Reads bytes front (b ∷ rest) → Reads bytes (front ++ part ∷ []) (drop used rest)
reads_more {rest} {front} {b} {used} {part} e r = record {
  whole =
      r.whole
      ∙ ap (prefixed front) (parts_from-more b rest ∙ ap (λ given. given >>= λ p. parts_from p.1 rest >>= λ parts. Ok (p.0 ∷ parts)) e)
      ∙ prefixed_both front part (parts_from used rest)
      ∙ ap (prefixed (front ++ part ∷ [])) (parts_from-skip used rest);
}

pub reads_fault : {bytes rest : List ℕ} {front : List Part} {b : ℕ} {fault : GlobFault} → front_part b rest ≡ Err fault → Reads bytes front (b ∷ rest) → read_pattern bytes ≡ Err fault
reads_fault {rest} {front} {b} e r =
    r.whole ∙ ap (prefixed front) (parts_from-more b rest ∙ ap (λ given. given >>= λ p. parts_from p.1 rest >>= λ parts. Ok (p.0 ∷ parts)) e)

pub reads_all : {bytes : List ℕ} {front : List Part} → Reads bytes front [] → read_pattern bytes ≡ Ok (front ++ [])
unfolding parts_from
reads_all r = r.whole

-- ---- the same with the bytes that are left cut

pub reads_on : {bytes left behind : List ℕ} {front : List Part} {b used : ℕ} {part : Part} → left ≡ b ∷ behind → front_part b behind ≡ Ok (part, used) → Reads bytes front left → Reads bytes (front ++ part ∷ []) (drop used behind)
reads_on cut e r = reads_more e (rw cut at r)

pub reads_stops : {bytes left behind : List ℕ} {front : List Part} {b : ℕ} {fault : GlobFault} → left ≡ b ∷ behind → front_part b behind ≡ Err fault → Reads bytes front left → read_pattern bytes ≡ Err fault
reads_stops cut e r = reads_fault e (rw cut at r)

pub reads_done : {bytes left : List ℕ} {front : List Part} → left ≡ [] → Reads bytes front left → read_pattern bytes ≡ Ok front
reads_done {front} cut r = reads_all (rw cut at r) ∙ ap Ok (append-nil front)
