-- Entries as they are kept, six bytes each.
use Rattle.std.proofs.Common.{◌≡◌, ℕ, ◌*◌, true, List, [], ◌∷◌, length, refl, ap, ◌∙◌, arith, zero, suc, ◌+◌, ◌%◌, ◌<◌, ◌++◌, get_or}
use Rattle.std.specs.List.{flat_map, list_all}
use Rattle.std.proofs.lemmas.Bool.{and_parts, ltb-true, and_from, lt-ltb}
use Rattle.std.proofs.lemmas.Nat.{from_le_bytes-to_le_bytes_4, le_bytes_4}
use Rattle.gufi_access.specs.declared.acl.Entry.{Entry}
use Rattle.gufi_access.specs.Acl.{entries}
use Rattle.gufi_acl.specs.AclTexts.{entry_bytes, entry_of_parts}
use Rattle.gufi_acl.proofs.Order.{is_small}
use Rattle.std.specs.Prelude.{nat_lt}
use Rattle.std.specs.Int.{from_le_bytes, w32}
use Rattle.gufi_base.specs.Rows.{are_bytes}

-- kept entries are found again
pub entries_found : (es : List Entry) → list_all is_small es ≡ true → entries (flat_map entry_bytes es) ≡ es
unfolding entries
entries_found [] h = refl
entries_found (e ∷ es) h =
    let both = and_parts (is_small e) (list_all is_small es) h in
    ap (λ (n : ℕ). entry_of_parts e.tag e.bits n ∷ entries (flat_map entry_bytes es)) (from_le_bytes-to_le_bytes_4 e.id (ltb-true _ _ both.0))
    ∙ ap (λ (rest : List Entry). e ∷ rest) (entries_found es both.1)

pub length-kept : (es : List Entry) → length (flat_map entry_bytes es) ≡ 6 * length es
length-kept [] = refl
length-kept (e ∷ es) = let rest = length-kept es in omega arith

quad : (a b c d : ℕ) → a < 256 → b < 256 → c < 256 → d < 256 → from_le_bytes w32 (a ∷ b ∷ c ∷ d ∷ []) < 4294967296
quad a b c d p q r s = omega arith

at_each : (a b c d : ℕ) → a < 256 → b < 256 → c < 256 → d < 256 → (i : ℕ) → get_or (a ∷ b ∷ c ∷ d ∷ []) i 0 < 256
at_each a b c d p q r s zero = p
at_each a b c d p q r s (suc zero) = q
at_each a b c d p q r s (suc (suc zero)) = r
at_each a b c d p q r s (suc (suc (suc zero))) = s
at_each a b c d p q r s (suc (suc (suc (suc i)))) = omega arith

six_more : (n : ℕ) → (n + 6) % 6 ≡ n % 6
six_more n = omega arith

-- bytes in sixes are kept entries, whose IDs have 32 bits
pub record AreKept (acl : List ℕ) : Type 0 where
  pub again : flat_map entry_bytes (entries acl) ≡ acl
  pub small : list_all is_small (entries acl) ≡ true

more_kept : (tag bits a b c d : ℕ) (rest : List ℕ) → are_bytes (a ∷ b ∷ c ∷ d ∷ []) ≡ true → AreKept rest → AreKept (tag ∷ bits ∷ a ∷ b ∷ c ∷ d ∷ rest)
unfolding entries
more_kept tag bits a b c d rest h kept =
    let one = and_parts (nat_lt a 256) _ h in
    let two = and_parts (nat_lt b 256) _ one.1 in
    let three = and_parts (nat_lt c 256) _ two.1 in
    let four = and_parts (nat_lt d 256) true three.1 in
    let p = ltb-true a 256 one.0 in
    let q = ltb-true b 256 two.0 in
    let r = ltb-true c 256 three.0 in
    let s = ltb-true d 256 four.0 in
    record {
      again =
          ap (λ (id : List ℕ). tag ∷ bits ∷ (id ++ flat_map entry_bytes (entries rest))) (le_bytes_4 (a ∷ b ∷ c ∷ d ∷ []) _ refl (at_each a b c d p q r s) refl)
          ∙ ap (λ (t : List ℕ). tag ∷ bits ∷ a ∷ b ∷ c ∷ d ∷ t) kept.again;
      small = and_from _ _ (lt-ltb _ _ (quad a b c d p q r s)) kept.small;
    }

four_bytes : (tag bits a b c d : ℕ) (rest : List ℕ) → are_bytes (tag ∷ bits ∷ a ∷ b ∷ c ∷ d ∷ rest) ≡ true
    → (are_bytes (a ∷ b ∷ c ∷ d ∷ []) ≡ true) × (are_bytes rest ≡ true)
four_bytes tag bits a b c d rest h =
    let t = and_parts (nat_lt tag 256) _ h in
    let u = and_parts (nat_lt bits 256) _ t.1 in
    let one = and_parts (nat_lt a 256) _ u.1 in
    let two = and_parts (nat_lt b 256) _ one.1 in
    let three = and_parts (nat_lt c 256) _ two.1 in
    let four = and_parts (nat_lt d 256) _ three.1 in
    (and_from _ _ one.0 (and_from _ _ two.0 (and_from _ _ three.0 (and_from _ _ four.0 refl))), four.1)

pub are_kept : (acl : List ℕ) → length acl % 6 ≡ 0 → are_bytes acl ≡ true → AreKept acl
unfolding entries
are_kept [] whole h = record { again = refl; small = refl }
are_kept (tag ∷ []) whole h = absurd (omega arith)
are_kept (tag ∷ bits ∷ []) whole h = absurd (omega arith)
are_kept (tag ∷ bits ∷ a ∷ []) whole h = absurd (omega arith)
are_kept (tag ∷ bits ∷ a ∷ b ∷ []) whole h = absurd (omega arith)
are_kept (tag ∷ bits ∷ a ∷ b ∷ c ∷ []) whole h = absurd (omega arith)
are_kept (tag ∷ bits ∷ a ∷ b ∷ c ∷ d ∷ rest) whole h =
    let both = four_bytes tag bits a b c d rest h in
    more_kept tag bits a b c d rest both.0 (are_kept rest (omega (arith, six_more (length rest))) both.1)
