-- Principals that are kept by their words.
use Rattle.std.specs.Prelude.{◌≡◌, ℕ, Some, IfSome, Vec, bytes_eq}
use Rattle.std.specs.HashMap.{HashMap, get}
use Rattle.std.specs.declared.alloc.Global.{Global}
use Rattle.std.specs.declared.hash.FoldHasher.{FoldHasher}
use Rattle.std.specs.declared.hash.BuildHasherDefault.{BuildHasherDefault}
use Rattle.gufi_access.specs.declared.class.Principal.{Principal}
use Rattle.gufi_users.specs.Entries.{UserTables}
use Rattle.gufi_users.specs.Users.{principal_of}

-- each word has the principal that it names
abbrev pub AreKnown : UserTables → HashMap (Vec ℕ Global) Principal (BuildHasherDefault FoldHasher) → Type 0
AreKnown tables known = (word : Vec ℕ Global) → IfSome (get (λ a b. bytes_eq a.items b.items) known word) (λ who. principal_of tables word.items ≡ Some who)
