-- Where the text of an access control list holds a delimiter: of its bytes only colons and commas may delimit.
use Rattle.std.proofs.Common.{◌≡◌, ℕ, zero, suc, ◌+◌, ◌/◌, ◌%◌, ◌<◌, Bool, true, false, ◌&&◌, ◌||◌, cond, eqb, leb, List, [], ◌∷◌, ◌++◌, length, map, refl, sym, ap, ◌∙◌, arith}
use Rattle.std.specs.Prelude.{decimal, codes, ◌==◌}
use Rattle.std.specs.Fmt.{digit_glyph, digits_onto, digits}
use Rattle.std.specs.List.{list_all, list_any, join_with_byte}
use Rattle.std.proofs.lemmas.Bool.{and_parts, and_from, or_from, or_left, not-true, lt-ltb, le-leb, cond-true}
use Rattle.std.proofs.lemmas.List.Folds.{list_any-append}
use Rattle.gufi_base.specs.Delimiters.{may_delimit}
use Rattle.gufi_access.specs.declared.acl.Entry.{Entry}
use Rattle.gufi_access.specs.Acl.{entries}
use Rattle.gufi_acl.specs.AclTexts.{mark, is_named, tag_word, id_text, bit_text, bits_text, entry_text, acl_text}
use Rattle.gufi_line.specs.TraceRows.{holds_byte}
use Rattle.gufi_line.proofs.FieldsBack.{is_plain, plain_apart}

-- ---- plain bytes

decimal_digit_plain : (c : ℕ) → c < 10 → is_plain (48 + c) ≡ true
decimal_digit_plain c h = or_left _ _ (or_left _ _ (or_left _ _ (and_from _ _ (le-leb 48 (48 + c) (omega arith)) (le-leb (48 + c) 57 (omega arith)))))

glyph_plain : (n : ℕ) → is_plain (digit_glyph false (n % 10)) ≡ true
glyph_plain n = ap is_plain (cond-true _ (48 + n % 10) (87 + n % 10) (lt-ltb (n % 10) 10 (omega arith))) ∙ decimal_digit_plain (n % 10) (omega arith)

one_of : (b : Bool) (xs ys : List ℕ) → list_all is_plain xs ≡ true → list_all is_plain ys ≡ true → list_all is_plain (cond b xs ys) ≡ true
one_of true xs ys h k = h
one_of false xs ys h k = k

onto_plain : (k n : ℕ) (later : List ℕ) → list_all is_plain later ≡ true → list_all is_plain (digits_onto k 10 false n later) ≡ true
onto_plain zero n later h = h
onto_plain (suc k) n later h =
    let more : list_all is_plain (digit_glyph false (n % 10) ∷ later) ≡ true = and_from _ _ (glyph_plain n) h in
    one_of (n / 10 == 0) _ _ more (onto_plain k (n / 10) (digit_glyph false (n % 10) ∷ later) more)

any_decimal_plain : (n : ℕ) → list_all is_plain (decimal n) ≡ true
unfolding digits
any_decimal_plain n = onto_plain 64 n [] refl

tag_plain : (tag : ℕ) → list_all is_plain (tag_word tag) ≡ true
tag_plain tag =
    one_of ((tag == 0) || (tag == 1)) (codes "user") _ refl
    (one_of ((tag == 2) || (tag == 3)) (codes "group") _ refl (one_of (tag == 4) (codes "mask") (codes "other") refl refl))

id_plain : (e : Entry) → list_all is_plain (id_text e) ≡ true
id_plain e = one_of (is_named e.tag) (decimal e.id) [] (any_decimal_plain e.id) refl

bit_plain : (bit letter : ℕ) → is_plain letter ≡ true → is_plain (bit_text bit letter) ≡ true
bit_plain bit letter h = by (bit == 1)
  where
    by : (b : Bool) → is_plain (cond b letter 45) ≡ true
    by true = h
    by false = refl

bits_plain : (bits : ℕ) → list_all is_plain (bits_text bits) ≡ true
bits_plain bits = and_from _ _ (bit_plain (bits / 4 % 2) 114 refl) (and_from _ _ (bit_plain (bits / 2 % 2) 119 refl) (and_from _ _ (bit_plain (bits % 2) 120 refl) refl))

-- ---- truth values

twice : (a : Bool) → ((a || false) || (a || false)) ≡ a
twice true = refl
twice false = refl

either_again : (a b : Bool) → (a || (b || a)) ≡ (a || b)
either_again true b = refl
either_again false true = refl
either_again false false = refl

both_again : (a b : Bool) → (a || (b || (a || b))) ≡ (a || b)
both_again true b = refl
both_again false true = refl
both_again false false = refl

or_none : (a : Bool) → (a || false) ≡ a
or_none true = refl
or_none false = refl

first_only : (a b : Bool) → ((a && true) || (b && false)) ≡ a
first_only true b = refl
first_only false true = refl
first_only false false = refl

second_only : (a b : Bool) → ((a && false) || (b && true)) ≡ b
second_only true b = either_true b
  where
    either_true : (b : Bool) → (b && true) ≡ b
    either_true true = refl
    either_true false = refl
second_only false true = refl
second_only false false = refl

neither_one : (a b : Bool) → ((a && false) || (b && false)) ≡ false
neither_one true true = refl
neither_one true false = refl
neither_one false true = refl
neither_one false false = refl

-- three texts between two colons
between_colons : (p : ℕ → Bool) (a b c : List ℕ) → list_any p a ≡ false → list_any p b ≡ false → list_any p c ≡ false → list_any p (a ++ 58 ∷ b ++ 58 ∷ c) ≡ p 58
between_colons p a b c h k l =
    list_any-append p (a ++ 58 ∷ b) (58 ∷ c)
    ∙ ap (λ (x : Bool). x || (p 58 || list_any p c)) (list_any-append p a (58 ∷ b) ∙ ap (λ (x : Bool). x || (p 58 || list_any p b)) h ∙ ap (λ (x : Bool). p 58 || x) k)
    ∙ ap (λ (x : Bool). (p 58 || false) || (p 58 || x)) l
    ∙ twice (p 58)

-- whether the text of such entries holds the delimiter: a colon stands in each, and a comma between two
abbrev pub listed : ℕ → List Entry → Bool
listed delim [] = false
listed delim (e ∷ []) = eqb 58 delim
listed delim (e ∷ next ∷ es) = eqb 58 delim || eqb 44 delim

module _ (delim : ℕ) (may : may_delimit delim ≡ true) where
  plain_holds : (bytes : List ℕ) → list_all is_plain bytes ≡ true → holds_byte delim bytes ≡ false
  plain_holds [] h = refl
  plain_holds (b ∷ bytes) h =
      let both = and_parts (is_plain b) (list_all is_plain bytes) h in
      or_from _ _ (not-true _ (plain_apart delim b may both.0)) (plain_holds bytes both.1)

  entry_holds : (e : Entry) → holds_byte delim (entry_text e) ≡ eqb 58 delim
  entry_holds e =
      between_colons (λ b. eqb b delim) (tag_word e.tag) (id_text e) (bits_text e.bits)
      (plain_holds (tag_word e.tag) (tag_plain e.tag)) (plain_holds (id_text e) (id_plain e))
      (plain_holds (bits_text e.bits) (bits_plain e.bits))

  more_listed : (next : Entry) (es : List Entry) → (eqb 58 delim || (eqb 44 delim || listed delim (next ∷ es))) ≡ (eqb 58 delim || eqb 44 delim)
  more_listed next [] = either_again (eqb 58 delim) (eqb 44 delim)
  more_listed next (e ∷ es) = both_again (eqb 58 delim) (eqb 44 delim)

  entries_hold : (es : List Entry) → holds_byte delim (join_with_byte 44 (map entry_text es)) ≡ listed delim es
  entries_hold [] = refl
  entries_hold (e ∷ []) = entry_holds e
  entries_hold (e ∷ next ∷ es) =
      let p : ℕ → Bool = λ b. eqb b delim in
      let rest : List ℕ = join_with_byte 44 (map entry_text (next ∷ es)) in
      list_any-append p (entry_text e) (44 ∷ rest)
      ∙ ap (λ (x : Bool). x || (eqb 44 delim || list_any p rest)) (entry_holds e)
      ∙ ap (λ (x : Bool). eqb 58 delim || (eqb 44 delim || x)) (entries_hold (next ∷ es))
      ∙ more_listed next es

  text_listed : (acl : List ℕ) → holds_byte delim (acl_text acl) ≡ listed delim (entries acl)
  unfolding acl_text entries
  text_listed [] = refl
  text_listed (b ∷ acl) =
      let text : List ℕ = join_with_byte 44 (map entry_text (entries (b ∷ acl))) in
      list_any-append (λ x. eqb x delim) mark text
      ∙ ap (λ (x : Bool). x || holds_byte delim text) (plain_holds mark refl)
      ∙ entries_hold (entries (b ∷ acl))

  colon_alone : eqb 58 delim ≡ (eqb 58 delim || false)
  colon_alone = sym (or_none (eqb 58 delim))

  by_length : (acl : List ℕ) → listed delim (entries acl) ≡ ((leb 6 (length acl) && eqb 58 delim) || (leb 12 (length acl) && eqb 44 delim))
  unfolding entries
  by_length [] = refl
  by_length (a ∷ []) = refl
  by_length (a ∷ b ∷ []) = refl
  by_length (a ∷ b ∷ c ∷ []) = refl
  by_length (a ∷ b ∷ c ∷ d ∷ []) = refl
  by_length (a ∷ b ∷ c ∷ d ∷ e ∷ []) = refl
  by_length (a ∷ b ∷ c ∷ d ∷ e ∷ f ∷ []) = colon_alone
  by_length (a ∷ b ∷ c ∷ d ∷ e ∷ f ∷ g ∷ []) = colon_alone
  by_length (a ∷ b ∷ c ∷ d ∷ e ∷ f ∷ g ∷ h ∷ []) = colon_alone
  by_length (a ∷ b ∷ c ∷ d ∷ e ∷ f ∷ g ∷ h ∷ i ∷ []) = colon_alone
  by_length (a ∷ b ∷ c ∷ d ∷ e ∷ f ∷ g ∷ h ∷ i ∷ j ∷ []) = colon_alone
  by_length (a ∷ b ∷ c ∷ d ∷ e ∷ f ∷ g ∷ h ∷ i ∷ j ∷ k ∷ []) = colon_alone
  by_length (a ∷ b ∷ c ∷ d ∷ e ∷ f ∷ g ∷ h ∷ i ∷ j ∷ k ∷ l ∷ acl) =
      let n = length (a ∷ b ∷ c ∷ d ∷ e ∷ f ∷ g ∷ h ∷ i ∷ j ∷ k ∷ l ∷ acl) in
      sym (ap (λ (x : Bool). (x && eqb 58 delim) || (leb 12 n && eqb 44 delim)) (le-leb 6 n (omega arith))
      ∙ ap (λ (x : Bool). eqb 58 delim || (x && eqb 44 delim)) (le-leb 12 n (omega arith)))

  text_by_length : (acl : List ℕ) → holds_byte delim (acl_text acl) ≡ ((leb 6 (length acl) && eqb 58 delim) || (leb 12 (length acl) && eqb 44 delim))
  text_by_length acl = text_listed acl ∙ by_length acl

  pub other_holds : (acl : List ℕ) → eqb 58 delim ≡ false → eqb 44 delim ≡ false → holds_byte delim (acl_text acl) ≡ false
  other_holds acl no_colon no_comma =
      text_by_length acl
      ∙ ap (λ (x : Bool). (leb 6 (length acl) && x) || (leb 12 (length acl) && eqb 44 delim)) no_colon
      ∙ ap (λ (x : Bool). (leb 6 (length acl) && false) || (leb 12 (length acl) && x)) no_comma
      ∙ neither_one (leb 6 (length acl)) (leb 12 (length acl))

pub no_list_holds : (delim : ℕ) → holds_byte delim (acl_text []) ≡ false
unfolding acl_text
no_list_holds delim = refl

pub colon_holds : (acl : List ℕ) → holds_byte 58 (acl_text acl) ≡ leb 6 (length acl)
colon_holds acl = text_by_length 58 refl acl ∙ first_only (leb 6 (length acl)) (leb 12 (length acl))

pub comma_holds : (acl : List ℕ) → holds_byte 44 (acl_text acl) ≡ leb 12 (length acl)
comma_holds acl = text_by_length 44 refl acl ∙ second_only (leb 6 (length acl)) (leb 12 (length acl))
