-- Owners and groups, by name where there are tables to tell it.
use Rattle.std.specs.Prelude.{ℕ, List, Option, Some, None, decimal}
use Rattle.gufi_users.specs.Entries.{UserTables}
use Rattle.gufi_list.specs.Listings.{owner_text, group_text}

abbrev pub uid_text : Option UserTables → ℕ → List ℕ
uid_text None uid = decimal uid
uid_text (Some tables) uid = owner_text tables uid

abbrev pub gid_text : Option UserTables → ℕ → List ℕ
gid_text None gid = decimal gid
gid_text (Some tables) gid = group_text tables gid
