-- Where numbers stand first in a list.
use Rattle.std.specs.Prelude.{◌≡◌, ℕ, ◌==◌, List, map, nat_eq, Option}
use Rattle.std.specs.List.{position_from}
use Rattle.std.specs.HashMap.{HashMap, get}
use Rattle.std.specs.declared.hash.FoldHasher.{FoldHasher}
use Rattle.std.specs.declared.hash.BuildHasherDefault.{BuildHasherDefault}
use Rattle.gufi_users.specs.Entries.{PasswdEntry, GroupEntry}

-- the place at which a number first stands, in a list that starts at a place
abbrev pub first_place : ℕ → ℕ → List ℕ → Option ℕ
first_place number start numbers = position_from (λ n. n == number) start numbers

-- the table gives each number its first place, in a list that starts at a place
abbrev pub AreFirstFrom : ℕ → List ℕ → HashMap ℕ ℕ (BuildHasherDefault FoldHasher) → Type 0
AreFirstFrom start numbers places = (number : ℕ) → get nat_eq places number ≡ first_place number start numbers

abbrev pub AreFirst : List ℕ → HashMap ℕ ℕ (BuildHasherDefault FoldHasher) → Type 0
AreFirst numbers places = AreFirstFrom 0 numbers places

-- the tables give each uid and each gid its first place
pub record AreIndexed (users : List PasswdEntry) (groups : List GroupEntry) (by_uid by_gid : HashMap ℕ ℕ (BuildHasherDefault FoldHasher)) : Type 0 where
  pub uids : AreFirst (map (λ user. user.uid) users) by_uid
  pub gids : AreFirst (map (λ entry. entry.gid) groups) by_gid
