-- The bytes that entries are written with.
use Rattle.std.proofs.Common.{◌≡◌, ℕ, zero, suc, ◌+◌, ◌/◌, ◌%◌, ◌<◌, Bool, true, false, cond, ◌==◌, List, [], ◌∷◌, ◌++◌, map, refl, ap, ◌∙◌, arith, append_assoc}
use Rattle.std.specs.Prelude.{not, ◌||◌, nat_lt, codes, decimal}
use Rattle.std.specs.Fmt.{digits, digits_onto, digit_glyph}
use Rattle.std.specs.List.{list_all}
use Rattle.std.proofs.lemmas.Bool.{and_from, lt-ltb}
use Rattle.std.proofs.lemmas.Bool.Decides.{nat_tests}
use Rattle.std.proofs.lemmas.List.Folds.{list_all-append}
use Rattle.gufi_base.specs.Names.{is_path_byte}
use Rattle.gufi_access.specs.declared.acl.Entry.{Entry}
use Rattle.gufi_acl.specs.AclTexts.{is_named, tag_word, id_text, bits_text, entry_text}

-- a test that the words, the digits and the bits of entries pass
pub record Passes (q : ℕ → Bool) : Type 0 where
  pub user : list_all q (codes "user") ≡ true
  pub group : list_all q (codes "group") ≡ true
  pub mask : list_all q (codes "mask") ≡ true
  pub other : list_all q (codes "other") ≡ true
  pub digit : (d : ℕ) → d < 10 → q (48 + d) ≡ true
  pub read : q 114 ≡ true
  pub write : q 119 ≡ true
  pub search : q 120 ≡ true
  pub none : q 45 ≡ true

pub entry_parts : (e : Entry) → entry_text e ≡ tag_word e.tag ++ (58 ∷ (id_text e ++ (58 ∷ bits_text e.bits)))
entry_parts e = append_assoc (tag_word e.tag) (58 ∷ id_text e) (58 ∷ bits_text e.bits)

module _ (q : ℕ → Bool) (p : Passes q) where
  either_passes : (b : Bool) (x y : List ℕ) → list_all q x ≡ true → list_all q y ≡ true → list_all q (cond b x y) ≡ true
  either_passes true x y h k = h
  either_passes false x y h k = k

  pub word_passes : (tag : ℕ) → list_all q (tag_word tag) ≡ true
  word_passes tag =
      either_passes ((tag == 0) || (tag == 1)) _ _ p.user (either_passes ((tag == 2) || (tag == 3)) _ _ p.group (either_passes (tag == 4) _ _ p.mask p.other))

  glyph_passes : (b : Bool) (d : ℕ) → nat_lt d 10 ≡ true → q (48 + d) ≡ true → q (digit_glyph false d) ≡ true
  glyph_passes b d low h = ap (λ (t : Bool). q (cond t (48 + d) (87 + d))) low ∙ h

  onto_passes : (k n : ℕ) (acc : List ℕ) → list_all q acc ≡ true → list_all q (digits_onto k 10 false n acc) ≡ true
  onto_passes zero n acc h = h
  onto_passes (suc k) n acc h =
      let low : n % 10 < 10 = omega arith in
      let more : list_all q (digit_glyph false (n % 10) ∷ acc) ≡ true = and_from _ _ (glyph_passes true (n % 10) (lt-ltb (n % 10) 10 low) (p.digit (n % 10) low)) h in
      either_passes (n / 10 == 0) (digit_glyph false (n % 10) ∷ acc) (digits_onto k 10 false (n / 10) (digit_glyph false (n % 10) ∷ acc)) more
      (onto_passes k (n / 10) (digit_glyph false (n % 10) ∷ acc) more)

  decimal_passes : (n : ℕ) → list_all q (decimal n) ≡ true
  unfolding digits
  decimal_passes n = onto_passes 64 n [] refl

  pub id_passes : (e : Entry) → list_all q (id_text e) ≡ true
  id_passes e = either_passes (is_named e.tag) (decimal e.id) [] (decimal_passes e.id) refl

  bit_passes : (b : Bool) (letter : ℕ) → q letter ≡ true → q (cond b letter 45) ≡ true
  bit_passes true letter h = h
  bit_passes false letter h = p.none

  pub bits_pass : (bits : ℕ) → list_all q (bits_text bits) ≡ true
  bits_pass bits =
      and_from _ _ (bit_passes (bits / 4 % 2 == 1) 114 p.read) (and_from _ _ (bit_passes (bits / 2 % 2 == 1) 119 p.write)
      (and_from _ _ (bit_passes (bits % 2 == 1) 120 p.search) refl))

  entry_passes : q 58 ≡ true → (e : Entry) → list_all q (entry_text e) ≡ true
  entry_passes colon e =
      ap (list_all q) (entry_parts e) ∙ list_all-append q (tag_word e.tag) (58 ∷ (id_text e ++ (58 ∷ bits_text e.bits)))
      ∙ and_from _ _ (word_passes e.tag) (and_from _ _ colon
      (list_all-append q (id_text e) (58 ∷ bits_text e.bits) ∙ and_from _ _ (id_passes e) (and_from _ _ colon (bits_pass e.bits))))

  pub entries_pass : q 58 ≡ true → (es : List Entry) → list_all (list_all q) (map entry_text es) ≡ true
  entries_pass colon [] = refl
  entries_pass colon (e ∷ es) = and_from _ _ (entry_passes colon e) (entries_pass colon es)

comma_digit : (d : ℕ) → d < 10 → not (48 + d == 44) ≡ true
comma_digit d h = grind (arith, nat_tests)

pub no_comma : Passes (λ b. not (b == 44))
no_comma = record { user = refl; group = refl; mask = refl; other = refl; digit = comma_digit; read = refl; write = refl; search = refl; none = refl }

colon_digit : (d : ℕ) → d < 10 → not (48 + d == 58) ≡ true
colon_digit d h = grind (arith, nat_tests)

pub no_colon : Passes (λ b. not (b == 58))
no_colon = record { user = refl; group = refl; mask = refl; other = refl; digit = colon_digit; read = refl; write = refl; search = refl; none = refl }

plain_digit : (d : ℕ) → d < 10 → is_path_byte (48 + d) ≡ true
plain_digit d h = grind (arith, nat_tests)

pub path_bytes : Passes is_path_byte
path_bytes = record { user = refl; group = refl; mask = refl; other = refl; digit = plain_digit; read = refl; write = refl; search = refl; none = refl }
