-- What stands behind the note of a run that ended with a status other than 0, and the option that asks for it.
use Rattle.std.specs.Prelude.{ℕ, Bool, ◌==◌, List, [], ◌∷◌, Option, Some, None, if◌then◌else◌, bytes_eq, codes}
use Rattle.std.specs.declared.io.ErrorKind.{ErrorKind}
use Rattle.gufi_explain.specs.declared.rules.Rules.{Rules}
use Rattle.gufi_explain.specs.declared.shown.Wrapped.{Wrapped}
use Rattle.gufi_explain.specs.declared.explain.Detail.{Detail}
use Rattle.gufi_explain.specs.declared.explain.Detail.TheVariants.{Alone, Files}
use Rattle.gufi_explain.specs.Shown.{told}
use Rattle.gufi_explain.specs.Starts.{start_told}
use Rattle.gufi_explain.specs.Faults.{word_told}
use Rattle.gufi_explain.specs.Files.{error_told, damage_told, limit_told}

-- ---- the option, in front of a command

unfoldable pub detail_in : List ℕ → Option Detail
detail_in word =
    if bytes_eq word (codes "--explain") then Some Alone
    else if bytes_eq word (codes "--explain=files") then Some Files
    else None

-- what the first word asks for
abbrev pub detail_of : List (List ℕ) → Option Detail
detail_of [] = None
detail_of (word ∷ words) = detail_in word

-- ---- the explanation

-- By the words, of which some may be a wrapper's; whether names and contents of files may be shown; the status and the note; the name of the
-- file that was opened last, why a call failed last, and the bytes of the file.
unfoldable pub explained : Rules → Wrapped → Bool → List (List ℕ) → ℕ → List ℕ → Option (List ℕ) → Option ErrorKind → Option (List ℕ) → List ℕ
explained rules wrapped files words status note file error bytes =
    if status == 1 then start_told rules wrapped words note
    else if status == 2 then word_told rules wrapped words note
    else if status == 3 then error_told files file error
    else if status == 4 then told (codes "standard output couldn't be written")
    else if status == 5 then damage_told rules files words bytes file note
    else if status == 6 then limit_told rules file note
    else if status == 8 then error_told files file error
    else []
