-- Rows by name, as the rows of a file.
use Rattle.std.specs.Prelude.{ℕ, Bool, List, map, Vec, bytes_eq}
use Rattle.std.specs.declared.alloc.Global.{Global}
use Rattle.gufi_users.specs.declared.passwd.Account.{Account}
use Rattle.gufi_users.specs.declared.group.Membership.{Membership}
use Rattle.gufi_users.specs.Entries.{PasswdEntry, GroupEntry}
use Rattle.gufi_users.specs.Users.{members_of}

-- the key has the name's bytes
abbrev pub is_named : List ℕ → Vec ℕ Global → Bool
is_named name key = bytes_eq name key.items

abbrev pub passwd_entry : Vec ℕ Global × Account → PasswdEntry
passwd_entry row = record { name = row.0.items; uid = row.1.uid; gid = row.1.gid }

abbrev pub passwd_rows : List (Vec ℕ Global × Account) → List PasswdEntry
passwd_rows rows = map passwd_entry rows

abbrev pub group_entry : Vec ℕ Global × Membership → GroupEntry
group_entry row = record { name = row.0.items; gid = row.1.gid; members = members_of row.1.members }

abbrev pub group_rows : List (Vec ℕ Global × Membership) → List GroupEntry
group_rows rows = map group_entry rows
