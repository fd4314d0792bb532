-- Names of extended attributes and an access control list, kept in a text with other bytes: each behind its length, what isn't there in no byte.
use Rattle.std.specs.Prelude.{ℕ, ◌+◌, ◌*◌, ◌≤◌, Bool, true, false, List, [], length, take, drop, slice_index_or}
use Rattle.gufi_base.specs.declared.extras.Extras.{Extras}
use Rattle.gufi_base.specs.declared.extras.Extras.TheVariants.{Neither, Xattrs, Acl, Both}

abbrev pub keeps_xattrs : Extras → Bool
keeps_xattrs Neither = false
keeps_xattrs Xattrs = true
keeps_xattrs Acl = false
keeps_xattrs Both = true

abbrev pub keeps_acl : Extras → Bool
keeps_acl Neither = false
keeps_acl Xattrs = false
keeps_acl Acl = true
keeps_acl Both = true

-- the number that two bytes of a text spell, the lower one first
abbrev pub size_at : List ℕ → ℕ → ℕ
size_at text at = slice_index_or text at 0 + 256 * slice_index_or text (at + 1) 0

-- how many bytes are taken by bytes behind their length, where there are some
abbrev pub sized_length : List ℕ → ℕ → Bool → ℕ
sized_length text at false = 0
sized_length text at true = 2 + size_at text at

-- the bytes that stand behind their length
abbrev pub sized_bytes : List ℕ → ℕ → Bool → List ℕ
sized_bytes text at false = []
sized_bytes text at true = take (size_at text at) (drop (at + 2) text)

abbrev pub kept_xattrs : List ℕ → ℕ → Extras → List ℕ
kept_xattrs text at extras = sized_bytes text at (keeps_xattrs extras)

-- where the access control list stands: behind the names
abbrev pub acl_place : List ℕ → ℕ → Extras → ℕ
acl_place text at extras = at + sized_length text at (keeps_xattrs extras)

abbrev pub kept_acl : List ℕ → ℕ → Extras → List ℕ
kept_acl text at extras = sized_bytes text (acl_place text at extras) (keeps_acl extras)

-- how many bytes both take
abbrev pub kept_size : List ℕ → ℕ → Extras → ℕ
kept_size text at extras = sized_length text at (keeps_xattrs extras) + sized_length text (acl_place text at extras) (keeps_acl extras)

-- they are wholly there
abbrev pub AreKept : List ℕ → ℕ → Extras → Type 0
AreKept text at extras = at + kept_size text at extras ≤ length text
