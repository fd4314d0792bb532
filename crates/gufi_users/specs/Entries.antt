-- The rows of a passwd file and of a group file, and both tables.
use Rattle.std.specs.Prelude.{ℕ, List}

pub record PasswdEntry : Type 0 where
  pub name : List ℕ
  pub uid : ℕ
  pub gid : ℕ

pub record GroupEntry : Type 0 where
  pub name : List ℕ
  pub gid : ℕ
  pub members : List (List ℕ)

pub record UserTables : Type 0 where
  pub users : List PasswdEntry
  pub groups : List GroupEntry
