-- Access control lists in text: a mark, and entries of tag, ID and bits between commas.
use Rattle.std.specs.Prelude.{◌≡◌, ℕ, ◌+◌, ◌*◌, ◌^◌, ◌/◌, ◌%◌, ◌≤◌, Bool, true, false, not, ◌==◌, ◌&&◌, ◌||◌, nat_lt, List, [], ◌∷◌, ◌++◌, length, take, drop, map, bytes_eq, codes, decimal, Option, Some, None, option_map, ok_or, Result, Ok, if◌then◌else◌}
use Rattle.std.specs.declared.cmp.Ordering.{Ordering}
use Rattle.std.specs.Int.{to_le_bytes, w32}
use Rattle.std.specs.List.{flat_map, join_with_byte, list_all}
use Rattle.std.specs.Option.{option_zip}
use Rattle.std.specs.Ordering.{nat_cmp}
use Rattle.gufi_base.specs.Basics.{is_empty, sort_by, split, ◌>>=◌, ◌>>◌, refuse}
use Rattle.gufi_base.specs.Names.{is_path_byte}
use Rattle.gufi_base.specs.Numbers.{read_u32}
use Rattle.gufi_base.specs.Rows.{are_bytes}
use Rattle.gufi_access.specs.declared.acl.Entry.{Entry}
use Rattle.gufi_access.specs.Acl.{entries, ascends_after, has_tags, named_count, max_named, is_acl_or_none}
use Rattle.gufi_acl.specs.declared.AclFault.{AclFault}
use Rattle.gufi_acl.specs.declared.AclFault.TheVariants.{BadAcl, TooManyEntries}

-- what a text begins with where it isn't empty
abbrev pub mark : List ℕ
mark = codes "acl/"

abbrev pub has_mark : List ℕ → Bool
has_mark text = bytes_eq (take (length mark) text) mark

-- an entry in text: whole words, no ID where its tag has none, `-` for each bit that isn't there
abbrev pub is_named : ℕ → Bool
is_named tag = (tag == 1) || (tag == 3)

abbrev pub tag_word : ℕ → List ℕ
tag_word tag =
    if (tag == 0) || (tag == 1) then codes "user"
    else (if (tag == 2) || (tag == 3) then codes "group" else (if tag == 4 then codes "mask" else codes "other"))

abbrev pub id_text : Entry → List ℕ
id_text e = if is_named e.tag then decimal e.id else []

abbrev pub bit_text : ℕ → ℕ → ℕ
bit_text bit letter = if bit == 1 then letter else 45

abbrev pub bits_text : ℕ → List ℕ
bits_text bits = bit_text (bits / 4 % 2) 114 ∷ bit_text (bits / 2 % 2) 119 ∷ bit_text (bits % 2) 120 ∷ []

abbrev pub entry_text : Entry → List ℕ
entry_text e = tag_word e.tag ++ 58 ∷ id_text e ++ 58 ∷ bits_text e.bits

-- the text of a list: empty for none
unfoldable pub acl_text : List ℕ → List ℕ
acl_text acl = if is_empty acl then [] else mark ++ join_with_byte 44 (map entry_text (entries acl))

-- The words of tags, or their first letters, and whether an ID stands with them.
abbrev pub read_tag : List ℕ → Bool → Option ℕ
read_tag word with_id =
    if bytes_eq word (codes "user") || bytes_eq word (codes "u") then Some (if with_id then 1 else 0)
    else (if bytes_eq word (codes "group") || bytes_eq word (codes "g") then Some (if with_id then 3 else 2)
    else (if with_id then None
    else (if bytes_eq word (codes "mask") || bytes_eq word (codes "m") then Some 4
    else (if bytes_eq word (codes "other") || bytes_eq word (codes "o") then Some 5 else None))))

-- an ID of 32 bits, or 0 for none
abbrev pub read_id : List ℕ → Option ℕ
read_id text = if is_empty text then Some 0 else read_u32 text

-- a bit by its letter, or `-`
abbrev pub read_bit : ℕ → ℕ → ℕ → Option ℕ
read_bit letter value byte = if byte == letter then Some value else (if byte == 45 then Some 0 else None)

unfoldable pub read_bits : List ℕ → Option ℕ
read_bits (r ∷ w ∷ x ∷ []) = option_map (λ n. n.0 + (n.1.0 + n.1.1)) (option_zip (read_bit 114 4 r) (option_zip (read_bit 119 2 w) (read_bit 120 1 x)))
read_bits _ = None

abbrev pub entry_of_parts : ℕ → ℕ → ℕ → Entry
entry_of_parts tag bits id = record { tag = tag; bits = bits; id = id }

-- an entry of three parts between colons
unfoldable pub entry_in : List (List ℕ) → Option Entry
entry_in (word ∷ id ∷ bits ∷ []) =
    option_map (λ n. entry_of_parts n.0 n.1.0 n.1.1) (option_zip (read_tag word (not (is_empty id))) (option_zip (read_bits bits) (read_id id)))
entry_in _ = None

abbrev pub read_entry : List ℕ → Option Entry
read_entry text = entry_in (split 58 text)

-- the entries of the texts, where each is one
unfoldable pub all_entries : List (List ℕ) → Option (List Entry)
all_entries [] = Some []
all_entries (text ∷ rest) = option_map (λ n. n.0 ∷ n.1) (option_zip (read_entry text) (all_entries rest))

-- in order by their tags, then by their IDs: one number says both
abbrev pub key : Entry → ℕ
key e = e.tag * 2 ^ 32 + e.id

abbrev pub entry_cmp : Entry → Entry → Ordering
entry_cmp a b = nat_cmp (key a) (key b)

abbrev pub sort_entries : List Entry → List Entry
sort_entries es = sort_by entry_cmp es

-- an entry as it is kept: six bytes
abbrev pub entry_bytes : Entry → List ℕ
entry_bytes e = e.tag ∷ e.bits ∷ to_le_bytes w32 e.id

-- entries in order, once each, with the tags that must be there, and not too many of them
abbrev pub acl_of_entries : List Entry → Result (List ℕ) AclFault
acl_of_entries es = do
  refuse (not (ascends_after None es && has_tags es)) BadAcl
  refuse (nat_lt max_named (named_count es)) TooManyEntries
  Ok (flat_map entry_bytes es)

-- the list that a text spells which is empty or begins with the mark
unfoldable pub acl_of_text : List ℕ → Result (List ℕ) AclFault
acl_of_text text =
    if is_empty text then Ok []
    else (ok_or (all_entries (split 44 (drop (length mark) text))) BadAcl >>= (λ es. acl_of_entries (sort_entries es)))

-- What is written is read back. A public function's contract has to name this.
abbrev pub AclReadsBack : Type 0
AclReadsBack = (acl : List ℕ) → is_acl_or_none acl ≡ true → are_bytes acl ≡ true → acl_of_text (acl_text acl) ≡ Ok acl

-- What is read is sound: a list or none, of bytes, and short, since 36 entries are the most.
pub record IsReadAcl (acl : List ℕ) : Type 0 where
  pub sound : is_acl_or_none acl ≡ true
  pub bytes : are_bytes acl ≡ true
  pub short : length acl ≤ 216

abbrev pub ReadAclsAreSound : Type 0
ReadAclsAreSound = (text acl : List ℕ) → acl_of_text text ≡ Ok acl → IsReadAcl acl

-- What is written has neither newline nor 0x00, is empty exactly where the list is, and else begins with the mark.
pub record IsPlainText (acl : List ℕ) : Type 0 where
  pub plain : list_all is_path_byte (acl_text acl) ≡ true
  pub empty : is_empty (acl_text acl) ≡ is_empty acl
  pub marked : is_empty acl ≡ false → has_mark (acl_text acl) ≡ true

abbrev pub AclTextsArePlain : Type 0
AclTextsArePlain = (acl : List ℕ) → IsPlainText acl
