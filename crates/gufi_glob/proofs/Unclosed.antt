-- Once nothing closes one `[`, nothing closes those behind it.
use Rattle.std.proofs.Common.{◌≡◌, ℕ, ◌+◌, Bool, true, false, List, [], ◌∷◌, drop, refl, sym, inl, inr, eqb, arith}
use Rattle.std.specs.Bool.{OnTrue}
use Rattle.std.proofs.lemmas.Bool.Decides.{nat_tests}
use Rattle.std.specs.Prelude.{◌||◌, ◌&&◌, ◌==◌, Option, Some, None, option_map, Ok}
use Rattle.std.proofs.lemmas.Bool.{cases_Bool, false≢true}
use Rattle.gufi_glob.specs.Parts.{only}
use Rattle.gufi_glob.specs.Patterns.{close_at, closing, sign_length, has_class, begins_class, front_part}
use Rattle.gufi_glob.specs.Unclosed.{IsUnclosed}

or_left : (a b : Bool) → (a || b) ≡ false → b ≡ false
or_left true b e = absurd (false≢true (sym e))
or_left false b e = e

class_behind : (b : ℕ) (rest : List ℕ) → has_class (b ∷ rest) ≡ false → has_class rest ≡ false
class_behind b rest e = or_left (b == 91 && begins_class rest) (has_class rest) e

some≢none : {n : ℕ} → Some n ≡ None → ⊥
some≢none e = cc

mapped_none : (found : Option ℕ) → option_map (λ n. n + 1) found ≡ None → found ≡ None
mapped_none None e = refl
mapped_none (Some n) e = absurd (some≢none e)

-- a byte more, which doesn't close
behind_byte : (b : ℕ) (rest : List ℕ) → close_at false (b ∷ rest) ≡ None → close_at (eqb b 92) rest ≡ None
behind_byte b rest e =
    elim (cases_Bool (eqb b 93)) [
      | inl own ↦ absurd (some≢none (rw own at e))
      | inr other ↦ mapped_none (close_at (eqb b 92) rest) (rw other at e)
    ]

open_from : (bytes : List ℕ) → close_at false bytes ≡ None → closing bytes ≡ None
open_from [] e = refl
open_from (b ∷ rest) e =
    elim (cases_Bool (eqb b 93)) [
      | inl own ↦ absurd (some≢none (rw own at e))
      | inr other ↦ rw other (rw other at e)
    ]

sign_is_no_backslash : (b : ℕ) → (eqb b 33 || eqb b 94) ≡ true → eqb b 92 ≡ false
sign_is_no_backslash b e = grind (arith, nat_tests)

closing_is_no_sign : (b : ℕ) → eqb b 93 ≡ true → (eqb b 33 || eqb b 94) ≡ false
closing_is_no_sign b e = grind (arith, nat_tests)

-- nothing closes a `[` before bytes in which nothing closes
open_behind : (bytes : List ℕ) → close_at false bytes ≡ None → closing (drop (sign_length bytes) bytes) ≡ None
open_behind [] e = refl
open_behind (b ∷ rest) e =
    elim (cases_Bool (eqb b 33 || eqb b 94)) [
      | inl sign ↦ rw sign (open_from rest (rw (sign_is_no_backslash b sign) at (behind_byte b rest e)))
      | inr other ↦ rw other (open_from (b ∷ rest) e)
    ]

-- a `]` that may stand first
open_first : (bytes : List ℕ) → closing bytes ≡ None → closing (drop (sign_length bytes) bytes) ≡ None
open_first [] e = refl
open_first (b ∷ rest) e =
    elim (cases_Bool (eqb b 93)) [
      | inl own ↦ rw (closing_is_no_sign b own) e
      | inr other ↦ open_behind (b ∷ rest) (rw other (rw other at e))
    ]

open_more : (b : ℕ) (rest : List ℕ) → eqb b 92 ≡ false → closing (b ∷ rest) ≡ None → close_at false rest ≡ None
open_more b rest plain e =
    elim (cases_Bool (eqb b 93)) [
      | inl own ↦ mapped_none (close_at false rest) (rw own at e)
      | inr other ↦ rw plain at (behind_byte b rest (rw other (rw other at e)))
    ]

behind : (b : ℕ) (rest : List ℕ) → eqb b 92 ≡ false → IsUnclosed (b ∷ rest) → IsUnclosed rest
behind b rest plain u = record {
  open_end =
      elim (cases_Bool (eqb b 33 || eqb b 94)) [
        | inl sign ↦ open_first rest (rw sign at u.open_end)
        | inr other ↦ open_behind rest (open_more b rest plain (rw other at u.open_end))
      ];
  classless = class_behind b rest u.classless;
}

escaped : (c : ℕ) (rest : List ℕ) → IsUnclosed (92 ∷ c ∷ rest) → IsUnclosed rest
escaped c rest u = record {
  open_end = open_behind rest (mapped_none (close_at false rest) (mapped_none (option_map (λ n. n + 1) (close_at false rest)) u.open_end));
  classless = class_behind c rest (class_behind 92 (c ∷ rest) u.classless);
}

pub unclosed_behind : (is_unclosed : Bool) (b : ℕ) (rest : List ℕ) → eqb b 92 ≡ false → OnTrue is_unclosed (IsUnclosed (b ∷ rest)) → OnTrue is_unclosed (IsUnclosed rest)
unclosed_behind true b rest plain u = behind b rest plain u
unclosed_behind false b rest plain u = u

pub unclosed_escaped : (is_unclosed : Bool) (c : ℕ) (rest : List ℕ) → OnTrue is_unclosed (IsUnclosed (92 ∷ c ∷ rest)) → OnTrue is_unclosed (IsUnclosed rest)
unclosed_escaped true c rest u = escaped c rest u
unclosed_escaped false c rest u = u

pub unclosed_bracket : (rest : List ℕ) → IsUnclosed (91 ∷ rest) → front_part 91 rest ≡ Ok (only 91, 0)
unclosed_bracket rest u = let inside = behind 91 rest refl u in rw (inside.open_end, inside.classless) refl
