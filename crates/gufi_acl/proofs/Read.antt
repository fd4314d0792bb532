-- The entries that texts spell are of their form, with IDs of 32 bits.
use Rattle.std.proofs.Common.{◌≡◌, ℕ, ◌+◌, ◌≤◌, Bool, true, false, cond, ◌==◌, List, [], ◌∷◌, Option, Some, None, refl, subst, arith}
use Rattle.std.specs.Prelude.{not, ◌&&◌, ◌||◌, nat_lt, nat_le, bytes_eq, codes, option_map}
use Rattle.std.specs.List.{list_all}
use Rattle.std.specs.Option.{option_zip}
use Rattle.std.specs.Str.Parse.{digits_value}
use Rattle.std.proofs.lemmas.Bool.{and_parts, and_from, le-leb, false≢true}
use Rattle.gufi_base.specs.Basics.{is_empty, split}
use Rattle.gufi_base.specs.Numbers.{is_numeral}
use Rattle.gufi_access.specs.declared.acl.Entry.{Entry}
use Rattle.gufi_access.specs.Acl.{is_entry}
use Rattle.gufi_acl.specs.AclTexts.{read_tag, read_id, read_bit, read_bits, entry_in, entry_of_parts, read_entry, all_entries}
use Rattle.gufi_acl.proofs.Order.{is_small}

-- of its form, with an ID of 32 bits
abbrev pub is_good : Entry → Bool
is_good e = is_entry e && is_small e

-- a tag that goes with an ID, or with none
abbrev fits_tag : Bool → ℕ → Bool
fits_tag with_id tag = nat_le tag 5 && (((tag == 1) || (tag == 3)) || not with_id)

abbrev tag_by : Bool → Bool → Bool → Bool → Bool → Option ℕ
tag_by user group mask other with_id =
    cond user (Some (cond with_id 1 0)) (cond group (Some (cond with_id 3 2)) (cond with_id None (cond mask (Some 4) (cond other (Some 5) None))))

tag_is : (w : Bool) (n tag : ℕ) → fits_tag w n ≡ true → Some n ≡ Some tag → fits_tag w tag ≡ true
tag_is w n tag h e = let same : n ≡ tag = cc in subst (λ k. fits_tag w k ≡ true) same h

tag_fits : (user group mask other w : Bool) (tag : ℕ) → tag_by user group mask other w ≡ Some tag → fits_tag w tag ≡ true
tag_fits true group mask other true tag e = tag_is true 1 tag refl e
tag_fits true group mask other false tag e = tag_is false 0 tag refl e
tag_fits false true mask other true tag e = tag_is true 3 tag refl e
tag_fits false true mask other false tag e = tag_is false 2 tag refl e
tag_fits false false mask other true tag e = cc
tag_fits false false true other false tag e = tag_is false 4 tag refl e
tag_fits false false false true false tag e = tag_is false 5 tag refl e
tag_fits false false false false false tag e = cc

read_tag-fits : (word : List ℕ) (w : Bool) (tag : ℕ) → read_tag word w ≡ Some tag → fits_tag w tag ≡ true
read_tag-fits word w tag e =
    tag_fits (bytes_eq word (codes "user") || bytes_eq word (codes "u")) (bytes_eq word (codes "group") || bytes_eq word (codes "g"))
    (bytes_eq word (codes "mask") || bytes_eq word (codes "m")) (bytes_eq word (codes "other") || bytes_eq word (codes "o")) w tag e

bit_by : (a b : Bool) (value n : ℕ) → cond a (Some value) (cond b (Some 0) None) ≡ Some n → n ≤ value
bit_by true b value n e = let same : value ≡ n = cc in omega arith
bit_by false true value n e = let same : 0 ≡ n = cc in omega arith
bit_by false false value n e = cc

sum_of_bits : (a b c : Option ℕ) (n : ℕ) → ((k : ℕ) → a ≡ Some k → k ≤ 4) → ((k : ℕ) → b ≡ Some k → k ≤ 2) → ((k : ℕ) → c ≡ Some k → k ≤ 1)
    → option_map (λ n. n.0 + (n.1.0 + n.1.1)) (option_zip a (option_zip b c)) ≡ Some n → nat_le n 7 ≡ true
sum_of_bits (Some r) (Some w) (Some x) n p q s e =
    let same : r + (w + x) ≡ n = cc in
    let a = p r refl in
    let b = q w refl in
    let c = s x refl in
    le-leb n 7 (omega arith)
sum_of_bits None b c n p q s e = cc
sum_of_bits (Some r) None c n p q s e = cc
sum_of_bits (Some r) (Some w) None n p q s e = cc

bits_small : (text : List ℕ) (n : ℕ) → read_bits text ≡ Some n → nat_le n 7 ≡ true
unfolding read_bits
bits_small [] n e = cc
bits_small (r ∷ []) n e = cc
bits_small (r ∷ w ∷ []) n e = cc
bits_small (r ∷ w ∷ x ∷ []) n e =
    sum_of_bits (read_bit 114 4 r) (read_bit 119 2 w) (read_bit 120 1 x) n
    (λ k. bit_by (r == 114) (r == 45) 4 k) (λ k. bit_by (w == 119) (w == 45) 2 k) (λ k. bit_by (x == 120) (x == 45) 1 k) e
bits_small (r ∷ w ∷ x ∷ y ∷ rest) n e = cc

-- an ID of 32 bits, which is 0 where no text stands for it
abbrev fits_id : Bool → ℕ → Bool
fits_id with_id id = nat_lt id 4294967296 && (with_id || (id == 0))

id_is : (w : Bool) (n id : ℕ) → fits_id w n ≡ true → Some n ≡ Some id → fits_id w id ≡ true
id_is w n id h e = let same : n ≡ id = cc in subst (λ k. fits_id w k ≡ true) same h

number_fits : (numeral small : Bool) (value id : ℕ) → nat_lt value 4294967296 ≡ small → cond (numeral && small) (Some value) None ≡ Some id → fits_id true id ≡ true
number_fits true true value id h e = id_is true value id (and_from _ _ h refl) e
number_fits true false value id h e = cc
number_fits false small value id h e = cc

read_id-fits : (text : List ℕ) (id : ℕ) → read_id text ≡ Some id → fits_id (not (is_empty text)) id ≡ true
read_id-fits [] id e = id_is false 0 id refl e
read_id-fits (b ∷ text) id e = number_fits (is_numeral 10 (b ∷ text)) (nat_lt (digits_value 10 (b ∷ text)) 4294967296) (digits_value 10 (b ∷ text)) id refl e

either : (w a b z : Bool) → (((a || b) || not w) ≡ true) → (w || z) ≡ true → (a || (b || z)) ≡ true
either true true b z p q = refl
either true false true z p q = refl
either true false false z p q = absurd (false≢true p)
either false true b z p q = refl
either false false true z p q = refl
either false false false z p q = q

good_parts : (w : Bool) (tag bits id : ℕ) → fits_tag w tag ≡ true → nat_le bits 7 ≡ true → fits_id w id ≡ true → is_good (entry_of_parts tag bits id) ≡ true
good_parts w tag bits id t b i =
    let tags = and_parts (nat_le tag 5) (((tag == 1) || (tag == 3)) || not w) t in
    let ids = and_parts (nat_lt id 4294967296) (w || (id == 0)) i in
    and_from _ _ (and_from _ _ b (and_from _ _ tags.0 (either w (tag == 1) (tag == 3) (id == 0) tags.1 ids.1))) ids.0

entry_good : (w : Bool) (t b i : Option ℕ) (e : Entry)
    → ((k : ℕ) → t ≡ Some k → fits_tag w k ≡ true) → ((k : ℕ) → b ≡ Some k → nat_le k 7 ≡ true) → ((k : ℕ) → i ≡ Some k → fits_id w k ≡ true)
    → option_map (λ n. entry_of_parts n.0 n.1.0 n.1.1) (option_zip t (option_zip b i)) ≡ Some e → is_good e ≡ true
entry_good w (Some tag) (Some bits) (Some id) e p q s h =
    let same : entry_of_parts tag bits id ≡ e = cc in
    subst (λ (x : Entry). is_good x ≡ true) same (good_parts w tag bits id (p tag refl) (q bits refl) (s id refl))
entry_good w None b i e p q s h = cc
entry_good w (Some tag) None i e p q s h = cc
entry_good w (Some tag) (Some bits) None e p q s h = cc

parts_good : (parts : List (List ℕ)) (e : Entry) → entry_in parts ≡ Some e → is_good e ≡ true
unfolding entry_in
parts_good [] e h = cc
parts_good (word ∷ []) e h = cc
parts_good (word ∷ id ∷ []) e h = cc
parts_good (word ∷ id ∷ bits ∷ []) e h =
    entry_good (not (is_empty id)) (read_tag word (not (is_empty id))) (read_bits bits) (read_id id) e
    (read_tag-fits word (not (is_empty id))) (bits_small bits) (read_id-fits id) h
parts_good (word ∷ id ∷ bits ∷ more ∷ rest) e h = cc

more_good : (o : Option Entry) (r : Option (List Entry)) (es : List Entry)
    → ((e : Entry) → o ≡ Some e → is_good e ≡ true) → ((rest : List Entry) → r ≡ Some rest → list_all is_good rest ≡ true)
    → option_map (λ n. n.0 ∷ n.1) (option_zip o r) ≡ Some es → list_all is_good es ≡ true
more_good (Some e) (Some rest) es p q h =
    let same : e ∷ rest ≡ es = cc in
    subst (λ (xs : List Entry). list_all is_good xs ≡ true) same (and_from _ _ (p e refl) (q rest refl))
more_good None r es p q h = cc
more_good (Some e) None es p q h = cc

pub entries_good : (texts : List (List ℕ)) (es : List Entry) → all_entries texts ≡ Some es → list_all is_good es ≡ true
unfolding all_entries
entries_good [] es h = let same : [] ≡ es = cc in subst (λ (xs : List Entry). list_all is_good xs ≡ true) same refl
entries_good (text ∷ texts) es h = more_good (read_entry text) (all_entries texts) es (parts_good (split 58 text)) (entries_good texts) h

pub all_small : (es : List Entry) → list_all is_good es ≡ true → list_all is_small es ≡ true
all_small [] h = refl
all_small (e ∷ es) h =
    let both = and_parts (is_good e) (list_all is_good es) h in
    and_from _ _ (and_parts (is_entry e) (is_small e) both.0).1 (all_small es both.1)

pub all_formed : (es : List Entry) → list_all is_good es ≡ true → list_all is_entry es ≡ true
all_formed [] h = refl
all_formed (e ∷ es) h =
    let both = and_parts (is_good e) (list_all is_good es) h in
    and_from _ _ (and_parts (is_entry e) (is_small e) both.0).0 (all_formed es both.1)
