-- Access control lists as they are kept: entries of six bytes.
use Rattle.std.specs.Prelude.{ℕ, ◌+◌, ◌%◌, Bool, true, ◌==◌, ◌&&◌, ◌||◌, nat_lt, nat_le, List, [], ◌∷◌, Option, Some, None, length, count_by}
use Rattle.std.specs.Int.{from_le_bytes, w32}
use Rattle.std.specs.List.{list_all}
use Rattle.gufi_access.specs.declared.acl.Entry.{Entry}
use Rattle.gufi_access.specs.declared.acl.Entries.{Entries}

-- Each entry has a tag, its bits, and a user or group ID from its lowest byte. The tags are 0 the owner, 1 a named user, 2 the owning group, 3 a named
-- group, 4 the mask, 5 the others.
unfoldable pub entries : List ℕ → List Entry
entries (tag ∷ bits ∷ a ∷ b ∷ c ∷ d ∷ rest) = record { tag = tag; bits = bits; id = from_le_bytes w32 (a ∷ b ∷ c ∷ d ∷ []) } ∷ entries rest
entries _ = []

-- the entries that an iterator has left
abbrev pub entries_left : Entries → List Entry
entries_left s = entries s.rest.now

-- by the tag, then by the ID
abbrev pub is_before : Entry → Entry → Bool
is_before a b = nat_lt a.tag b.tag || ((a.tag == b.tag) && nat_lt a.id b.id)

abbrev pub is_after_last : Option Entry → Entry → Bool
is_after_last None e = true
is_after_last (Some last) e = is_before last e

-- each entry is before the next, and the first after this one
unfoldable pub ascends_after : Option Entry → List Entry → Bool
ascends_after last [] = true
ascends_after last (e ∷ es) = is_after_last last e && ascends_after (Some e) es

-- three bits, a tag, and an ID of 0 but for a named user or group
abbrev pub is_entry : Entry → Bool
is_entry e = nat_le e.bits 7 && (nat_le e.tag 5 && ((e.tag == 1) || ((e.tag == 3) || (e.id == 0))))

unfoldable pub count_of : ℕ → List Entry → ℕ
count_of tag es = count_by (λ e. e.tag == tag) es

abbrev pub named_count : List Entry → ℕ
named_count es = count_of 1 es + count_of 3 es

-- so many named entries may stand in a list
abbrev pub max_named : ℕ
max_named = 32

-- one owner, one owning group, one for the others; a mask where there are named entries
abbrev pub has_tags : List Entry → Bool
has_tags es =
    (count_of 0 es == 1) && ((count_of 2 es == 1) && ((count_of 5 es == 1) && (nat_le (count_of 4 es) 1 && ((named_count es == 0) || (count_of 4 es == 1)))))

-- an access control list: whole entries in order, each of its form, with the tags that must be there and few named ones
unfoldable pub is_acl : List ℕ → Bool
is_acl acl =
    (length acl % 6 == 0)
    && (ascends_after None (entries acl) && (list_all is_entry (entries acl) && (has_tags (entries acl) && nat_le (named_count (entries acl)) max_named)))

-- none, or one
abbrev pub is_acl_or_none : List ℕ → Bool
is_acl_or_none acl = (length acl == 0) || is_acl acl
