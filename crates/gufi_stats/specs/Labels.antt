-- What stands in a line before its counts: a word, and a number or its name.
use Rattle.std.specs.Prelude.{ℕ, List, ◌++◌, Option, codes, decimal}
use Rattle.std.specs.Option.{option_copied}
use Rattle.gufi_users.specs.Entries.{UserTables}
use Rattle.gufi_stats.specs.Named.{uid_text, gid_text}
use Rattle.gufi_stats.specs.declared.label.Label.{Label}
use Rattle.gufi_stats.specs.declared.label.Label.TheVariants.{Level, Uid, Gid}

abbrev pub level_label : ℕ → List ℕ
level_label level = codes "level " ++ decimal level

abbrev pub uid_label : Option UserTables → ℕ → List ℕ
uid_label names uid = codes "uid " ++ uid_text names uid

abbrev pub gid_label : Option UserTables → ℕ → List ℕ
gid_label names gid = codes "gid " ++ gid_text names gid

abbrev pub label_text : Label → ℕ → List ℕ
label_text Level = level_label
label_text (Uid names) = uid_label (option_copied names)
label_text (Gid names) = gid_label (option_copied names)
