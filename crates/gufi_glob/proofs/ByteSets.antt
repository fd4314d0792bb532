-- Bits of a set of bytes.
use Rattle.std.proofs.Common.{◌≡◌, ℕ, ◌+◌, ◌*◌, ◌/◌, ◌%◌, ◌^◌, ◌<◌, Bool, List, length, set, get_or, eqb, leb, ltb, refl, ap, ◌∙◌, inl, inr, arith, eq-eqb, ◌≤◌, ◌≢◌, get_or-set_same, get_or-set_other, w64}
use Rattle.std.specs.Prelude.{◌&&◌, ◌||◌, bit_or}
use Rattle.std.specs.Int.{bit_at}
use Rattle.std.proofs.lemmas.Bool.{cases_eq, ne_eqb}
use Rattle.std.proofs.lemmas.Bool.Decides.{nat_tests}
use Rattle.std.proofs.lemmas.Nat.Bits.{bit_at_set_same, bit_at_set_other}
use Rattle.gufi_glob.specs.ByteSets.{has_byte}

module _ (words : List ℕ) (byte : ℕ) (long : length words ≡ 4) (small : byte < 256) where
  with_bit : List ℕ
  with_bit = set words (byte / 64) (bit_or (get_or words (byte / 64) 0) (1 * 2 ^ (byte % 64) % 2 ^ 64))

  bit_here : bit_at (get_or with_bit (byte / 64) 0) (byte % 64) ≡ 1
  unfolding with_bit
  bit_here =
      ap (λ x. bit_at x (byte % 64)) (get_or-set_same words (byte / 64) (bit_or (get_or words (byte / 64) 0) (1 * 2 ^ (byte % 64) % 2 ^ 64)) 0 (omega arith))
      ∙ bit_at_set_same w64 (get_or words (byte / 64) 0) (byte % 64) (omega arith)

  bit_elsewhere : (b : ℕ) → b ≢ byte → bit_at (get_or with_bit (b / 64) 0) (b % 64) ≡ bit_at (get_or words (b / 64) 0) (b % 64)
  unfolding with_bit
  bit_elsewhere b other =
      elim (cases_eq (b / 64) (byte / 64)) [
        | inl same ↦
            let apart : b % 64 ≢ byte % 64 = λ e. other (omega arith) in
            rw same (
            ap (λ x. bit_at x (b % 64)) (get_or-set_same words (byte / 64) (bit_or (get_or words (byte / 64) 0) (1 * 2 ^ (byte % 64) % 2 ^ 64)) 0 (omega arith))
            ∙ bit_at_set_other w64 (get_or words (byte / 64) 0) (byte % 64) (omega arith) (b % 64) apart
            )
        | inr apart ↦
            ap (λ x. bit_at x (b % 64)) (get_or-set_other words (byte / 64) (b / 64) (bit_or (get_or words (byte / 64) 0) (1 * 2 ^ (byte % 64) % 2 ^ 64)) 0 apart)
      ]

  pub one_byte_more : (b : ℕ) → has_byte (set words (byte / 64) (bit_or (get_or words (byte / 64) 0) (1 * 2 ^ (byte % 64) % 2 ^ 64))) b ≡ (eqb b byte || has_byte words b)
  unfolding with_bit
  one_byte_more b =
      elim (cases_eq b byte) [
        | inl own ↦ rw (eq-eqb b byte own, own, bit_here) refl
        | inr other ↦ rw (ne_eqb b byte other, bit_elsewhere b other) refl
      ]

-- the bytes of a range, one more, and all
pub range_more : (from byte b : ℕ) (has : Bool) → from ≤ byte → (eqb b byte || ((leb from b && ltb b byte) || has)) ≡ ((leb from b && ltb b (byte + 1)) || has)
range_more from byte b has above = grind (arith, nat_tests)

pub range_whole : (from to byte b : ℕ) (has : Bool) → to + 1 ≤ byte → (from ≤ to + 1 → byte ≤ to + 1) → (to + 1 < from → byte ≡ from) → ((leb from b && ltb b byte) || has) ≡ ((leb from b && leb b to) || has)
range_whole from to byte b has end most none = grind (arith, nat_tests)
