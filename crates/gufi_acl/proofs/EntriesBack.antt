-- An entry that is written is read back.
use Rattle.std.proofs.Common.{◌≡◌, ℕ, zero, suc, ◌<◌, ◌≤◌, Bool, true, false, ◌==◌, List, [], ◌∷◌, ◌++◌, Some, length, map, refl, sym, ap, ◌∙◌, arith}
use Rattle.std.specs.Prelude.{not, ◌||◌, nat_le, decimal}
use Rattle.std.specs.Char.{is_digit, digit_value}
use Rattle.std.specs.List.{list_all}
use Rattle.std.specs.Str.Parse.{AllDigits, digits_value}
use Rattle.std.proofs.lemmas.Bool.{and_parts, and_from, lt-ltb, ltb-true, leb-true, eqb-true}
use Rattle.std.proofs.lemmas.Fmt.{decimal_is_IsNumeral}
use Rattle.gufi_base.specs.Basics.{is_empty, split}
use Rattle.gufi_base.proofs.Parts.{split_first, split_one}
use Rattle.gufi_access.specs.declared.acl.Entry.{Entry}
use Rattle.gufi_access.specs.Acl.{is_entry}
use Rattle.gufi_acl.specs.AclTexts.{tag_word, id_text, bits_text, entry_text, read_tag, read_id, read_bits, entry_of_parts, entry_in, read_entry, all_entries}
use Rattle.gufi_acl.proofs.Letters.{no_colon, word_passes, id_passes, bits_pass, entry_parts}
use Rattle.gufi_acl.proofs.Order.{is_small}
use Rattle.gufi_acl.proofs.Read.{is_good}

-- ---- an ID

digits_pass : (ds : List ℕ) → AllDigits 10 ds → list_all (λ c. is_digit c 10) ds ≡ true
digits_pass [] h = refl
digits_pass (c ∷ cs) h = and_from _ _ (lt-ltb (digit_value c) 10 h.0) (digits_pass cs h.1)

some_digits : (ds : List ℕ) → 0 < length ds → is_empty ds ≡ false
some_digits [] h = absurd (omega arith)
some_digits (c ∷ cs) h = refl

decimal_some : (n : ℕ) → n < 4294967296 → is_empty (decimal n) ≡ false
decimal_some n small = some_digits (decimal n) (decimal_is_IsNumeral n (omega arith)).0.0

number_back : (n : ℕ) → n < 4294967296 → read_id (decimal n) ≡ Some n
number_back n small =
    let d = decimal_is_IsNumeral n (omega arith) in
    let worth : digits_value 10 (decimal n) < 4294967296 = omega (arith, d.1) in
    rw (decimal_some n small, digits_pass (decimal n) d.0.1, lt-ltb (digits_value 10 (decimal n)) 4294967296 worth) (ap (λ (k : ℕ). Some k) d.1)

-- ---- an entry's three parts

pub record PartsBack (tag id : ℕ) (text : List ℕ) : Type 0 where
  pub tag_back : read_tag (tag_word tag) (not (is_empty text)) ≡ Some tag
  pub id_back : read_id text ≡ Some id

named_back : (tag id : ℕ) → read_tag (tag_word tag) true ≡ Some tag → id < 4294967296 → PartsBack tag id (decimal id)
named_back tag id h small = record { tag_back = ap (λ (b : Bool). read_tag (tag_word tag) (not b)) (decimal_some id small) ∙ h; id_back = number_back id small }

alone_back : (tag id : ℕ) → read_tag (tag_word tag) false ≡ Some tag → id ≡ 0 → PartsBack tag id []
alone_back tag id h none = record { tag_back = h; id_back = ap (λ (k : ℕ). Some k) (sym none) }

parts_back : (tag bits id : ℕ) → tag ≤ 5 → id < 4294967296 → ((tag == 1) || ((tag == 3) || (id == 0))) ≡ true → PartsBack tag id (id_text (entry_of_parts tag bits id))
parts_back zero bits id low small h = alone_back 0 id refl (eqb-true id 0 h)
parts_back (suc zero) bits id low small h = named_back 1 id refl small
parts_back (suc (suc zero)) bits id low small h = alone_back 2 id refl (eqb-true id 0 h)
parts_back (suc (suc (suc zero))) bits id low small h = named_back 3 id refl small
parts_back (suc (suc (suc (suc zero)))) bits id low small h = alone_back 4 id refl (eqb-true id 0 h)
parts_back (suc (suc (suc (suc (suc zero))))) bits id low small h = alone_back 5 id refl (eqb-true id 0 h)
parts_back (suc (suc (suc (suc (suc (suc t)))))) bits id low small h = absurd (omega arith)

bits_back : (bits : ℕ) → bits ≤ 7 → read_bits (bits_text bits) ≡ Some bits
unfolding read_bits
bits_back zero h = refl
bits_back (suc zero) h = refl
bits_back (suc (suc zero)) h = refl
bits_back (suc (suc (suc zero))) h = refl
bits_back (suc (suc (suc (suc zero)))) h = refl
bits_back (suc (suc (suc (suc (suc zero))))) h = refl
bits_back (suc (suc (suc (suc (suc (suc zero)))))) h = refl
bits_back (suc (suc (suc (suc (suc (suc (suc zero))))))) h = refl
bits_back (suc (suc (suc (suc (suc (suc (suc (suc n)))))))) h = absurd (omega arith)

split_entry : (e : Entry) → split 58 (entry_text e) ≡ tag_word e.tag ∷ id_text e ∷ bits_text e.bits ∷ []
split_entry e =
    let q = λ (b : ℕ). not (b == 58) in
    ap (split 58) (entry_parts e) ∙ split_first 58 (tag_word e.tag) (id_text e ++ (58 ∷ bits_text e.bits)) (word_passes q no_colon e.tag)
    ∙ ap (λ (ps : List (List ℕ)). tag_word e.tag ∷ ps)
    (split_first 58 (id_text e) (bits_text e.bits) (id_passes q no_colon e)
    ∙ ap (λ (ps : List (List ℕ)). id_text e ∷ ps) (split_one 58 (bits_text e.bits) (bits_pass q no_colon e.bits)))

pub entry_back : (e : Entry) → is_good e ≡ true → read_entry (entry_text e) ≡ Some e
unfolding entry_in
entry_back e good =
    let outer = and_parts (is_entry e) (is_small e) good in
    let form = and_parts (nat_le e.bits 7) _ outer.0 in
    let tags = and_parts (nat_le e.tag 5) _ form.1 in
    let parts = parts_back e.tag e.bits e.id (leb-true _ _ tags.0) (ltb-true _ _ outer.1) tags.1 in
    ap entry_in (split_entry e) ∙ rw (parts.tag_back, bits_back e.bits (leb-true _ _ form.0), parts.id_back) refl

pub entries_back : (es : List Entry) → list_all is_good es ≡ true → all_entries (map entry_text es) ≡ Some es
unfolding all_entries
entries_back [] h = refl
entries_back (e ∷ es) h =
    let both = and_parts (is_good e) (list_all is_good es) h in
    rw (entry_back e both.0, entries_back es both.1) refl
