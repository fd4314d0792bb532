-- What an answer is kept under.
use Rattle.std.specs.Prelude.{ℕ, Bool, ◌==◌, ◌&&◌, ◌++◌, List, bytes_eq}
use Rattle.std.specs.Hash as fed
use Rattle.gufi_base.specs.Paths.{Components, path_eq}
use Rattle.gufi_base.specs.PathTexts.{kept_text}
use Rattle.gufi_access.specs.declared.class.Principal.{Principal}
use Rattle.gufi_cache.specs.declared.key.CacheKey.{CacheKey}

-- the key of these four
abbrev pub key_of : ℕ → Principal → Components → List ℕ → CacheKey
key_of number who start ask = record { number = number; who = who; start = start; ask = ask }

-- the same user ID, and the same groups in the same order
abbrev pub same_principal : Principal → Principal → Bool
same_principal a b = (a.uid == b.uid) && bytes_eq a.groups b.groups

-- all four are the same
abbrev pub same_key : CacheKey → CacheKey → Bool
same_key a b = (a.number == b.number) && (same_principal a.who b.who && (path_eq a.start b.start && bytes_eq a.ask b.ask))

-- what of a key is hashed
abbrev pub key_input : CacheKey → fed.HashWrites
key_input key = fed.u64 key.number ++ (fed.u32 key.who.uid ++ (fed.slice fed.u8 (kept_text key.start) ++ fed.slice fed.u8 key.ask))
