-- What the value of an option, and a positional, must be: the value that a word spells, or none.
use Rattle.std.specs.Prelude.{ℕ, ◌&&◌, nat_le, List, [], ◌∷◌, Option, Some, None, if◌then◌else◌, bytes_eq, codes}
use Rattle.std.specs.Result.{result_ok}
use Rattle.gufi_base.specs.Limits.{max_workers}
use Rattle.gufi_base.specs.Delimiters.{is_delimiter}
use Rattle.gufi_base.specs.Basics.{is_empty, split}
use Rattle.gufi_base.specs.Numbers.{all_numbers, read_u32}
use Rattle.gufi_base.specs.Paths.{Components, read_path}
use Rattle.gufi_words.specs.declared.command.ReportWord.{ReportWord}
use Rattle.gufi_words.specs.declared.command.ReportWord.TheVariants.{Levels, Uids, Gids, Leaves}

-- the bytes of a word
abbrev pub Word : Type 0
Word = List ℕ

-- one byte that may separate fields
abbrev pub read_delimiter : Word → Option ℕ
read_delimiter [] = None
read_delimiter (b ∷ []) = if is_delimiter b then Some b else None
read_delimiter (b ∷ c ∷ rest) = None

-- the number, where it is from the least to the most
abbrev pub only_within : ℕ → ℕ → Option ℕ → Option ℕ
only_within least most None = None
only_within least most (Some n) = if nat_le least n && nat_le n most then Some n else None

abbrev pub read_workers : Word → Option ℕ
read_workers word = only_within 1 max_workers (read_u32 word)

-- how many replies a lane keeps
abbrev pub read_cache : Word → Option ℕ
read_cache word = only_within 1 256 (read_u32 word)

-- how many directories the generator writes
abbrev pub read_count : Word → Option ℕ
read_count word = only_within 1 200000 (read_u32 word)

-- a file's name isn't empty
abbrev pub read_file : Word → Option Word
read_file word = if is_empty word then None else Some word

abbrev pub read_start : Word → Option Components
read_start word = result_ok (read_path word)

-- "-" for none, or numbers between single commas
abbrev pub read_gids : Word → Option (List ℕ)
read_gids word = if bytes_eq word (codes "-") then Some [] else all_numbers (split 44 word)

abbrev pub read_report : Word → Option ReportWord
read_report word =
    if bytes_eq word (codes "levels") then Some Levels
    else if bytes_eq word (codes "uids") then Some Uids
    else if bytes_eq word (codes "gids") then Some Gids
    else if bytes_eq word (codes "leaves") then Some Leaves
    else None

-- what isn't judged by itself
abbrev pub read_any : Word → Option Word
read_any word = Some word
