-- The gids of the groups that have some names as members', noted in one look through the group file.
use Rattle.std.specs.Prelude.{◌≡◌, ℕ, List, ◌++◌, map, filter, flat_map, Option, option_map, IfSome, Vec, bytes_eq}
use Rattle.std.specs.Map.{lookup}
use Rattle.std.specs.declared.alloc.Global.{Global}
use Rattle.gufi_users.specs.declared.group.Membership.{Membership}
use Rattle.gufi_users.specs.Entries.{GroupEntry}
use Rattle.gufi_users.specs.Users.{members_of}
use Rattle.gufi_users.specs.Rows.{is_named}

-- gids by names
abbrev pub GidLists : Type 0
GidLists = List (Vec ℕ Global × Vec ℕ Global)

-- what a table has of a name
abbrev pub gids_at : List ℕ → GidLists → Option (List ℕ)
gids_at name lists = option_map (λ (gids : Vec ℕ Global). gids.items) (lookup (is_named name) lists)

-- a group's gid, as often as a name stands among its members
abbrev pub noted_in : List ℕ → ℕ → List (List ℕ) → List ℕ
noted_in name gid members = map (λ member. gid) (filter (bytes_eq name) members)

-- the same of each of several groups, in their order
abbrev pub noted : List ℕ → List GroupEntry → List ℕ
noted name groups = flat_map (λ (entry : GroupEntry). noted_in name entry.gid entry.members) groups

abbrev pub noted_rows : List ℕ → List Membership → List ℕ
noted_rows name rows = flat_map (λ (row : Membership). noted_in name row.gid (members_of row.members)) rows

-- each name of the table has these gids behind those that it had
abbrev pub HaveMore : (List ℕ → List ℕ) → GidLists → GidLists → Type 0
HaveMore more before after = (name : List ℕ) → gids_at name after ≡ option_map (λ (gids : List ℕ). gids ++ more name) (gids_at name before)

-- each name of the table has these gids
abbrev pub Have : (List ℕ → List ℕ) → GidLists → Type 0
Have all lists = (name : List ℕ) → IfSome (gids_at name lists) (λ (gids : List ℕ). gids ≡ all name)
