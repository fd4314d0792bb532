-- The act that the words of a line are, or the first of its faults.
use Rattle.std.specs.Prelude.{ℕ, Bool, not, ◌==◌, ◌&&◌, ◌||◌, nat_le, List, length, drop, Option, Some, None, Result, Ok, Err, ok_or, if◌then◌else◌, bytes_eq, codes}
use Rattle.std.specs.Str.{is_utf8}
use Rattle.gufi_base.specs.Limits.{max_lanes}
use Rattle.gufi_base.specs.Basics.{is_empty, part_at, result_map_err, ◌>>=◌, ◌>>◌, refuse}
use Rattle.gufi_base.specs.Numbers.{read_u32, read_u64}
use Rattle.gufi_base.specs.Paths.{Components, read_path}
use Rattle.gufi_script.specs.declared.fault.ScriptKind.{ScriptKind}
use Rattle.gufi_script.specs.declared.fault.ScriptKind.TheVariants as kinds
use Rattle.gufi_script.specs.declared.act.Form.{Form}
use Rattle.gufi_script.specs.declared.act.Form.TheVariants as forms
use Rattle.gufi_script.specs.declared.act.Act.{Act}
use Rattle.gufi_script.specs.declared.act.Act.TheVariants.{Publish, Rollup, Refresh, Ask, Barrier}

abbrev pub read_limit : List ℕ → Result ℕ ScriptKind
read_limit text = ok_or (read_u64 text) kinds.Number

abbrev pub lane_within : Option ℕ → Result ℕ ScriptKind
lane_within None = Err kinds.Lane
lane_within (Some n) = if nat_le 1 n && nat_le n max_lanes then Ok n else Err kinds.Lane

abbrev pub read_lane : List ℕ → Result ℕ ScriptKind
read_lane text = lane_within (read_u32 text)

abbrev pub read_path_word : List ℕ → Result Components ScriptKind
read_path_word text = result_map_err (λ fault. kinds.Path) (read_path text)

abbrev pub read_file_word : List ℕ → Result (List ℕ) ScriptKind
read_file_word text = if is_empty text || not (is_utf8 text) then Err kinds.File else Ok text

abbrev pub read_form_word : List ℕ → Result Form ScriptKind
read_form_word text =
    if bytes_eq text (codes "find") then Ok forms.Find
    else if bytes_eq text (codes "total") then Ok forms.Total
    else if bytes_eq text (codes "query") then Ok forms.Query
    else Err kinds.Form

-- the number of words is the verb's
abbrev pub counts : Bool → Result (Unit {0}) ScriptKind
counts fits = refuse (not fits) kinds.Count

unfoldable pub read_publish : List (List ℕ) → Result Act ScriptKind
read_publish words =
    counts (length words == 3) >>
    (read_limit (part_at words 2) >>= λ limit.
    read_file_word (part_at words 3) >>= λ file.
    Ok (Publish limit file))

unfoldable pub read_rollup : List (List ℕ) → Result Act ScriptKind
read_rollup words =
    counts (length words == 2) >>
    (read_limit (part_at words 2) >>= λ limit.
    Ok (Rollup limit))

unfoldable pub read_refresh : List (List ℕ) → Result Act ScriptKind
read_refresh words =
    counts (length words == 3) >>
    (read_path_word (part_at words 2) >>= λ path.
    read_file_word (part_at words 3) >>= λ file.
    Ok (Refresh path file))

-- an ask has five words, and one more at least where it is a query
abbrev pub has_ask_words : List (List ℕ) → Bool
has_ask_words words = nat_le 5 (length words) && (nat_le 6 (length words) || not (bytes_eq (part_at words 5) (codes "query")))

unfoldable pub read_ask : List (List ℕ) → Result Act ScriptKind
read_ask words =
    counts (has_ask_words words) >>
    (read_lane (part_at words 2) >>= λ lane.
    read_path_word (part_at words 4) >>= λ path.
    read_form_word (part_at words 5) >>= λ form.
    Ok (Ask lane (part_at words 3) path form (drop 5 words)))

abbrev pub read_barrier : List (List ℕ) → Result Act ScriptKind
read_barrier words = counts (length words == 1) >> Ok Barrier

unfoldable pub read_act : List ℕ → List (List ℕ) → Result Act ScriptKind
read_act verb words =
    if bytes_eq verb (codes "publish") then read_publish words
    else if bytes_eq verb (codes "rollup") then read_rollup words
    else if bytes_eq verb (codes "refresh") then read_refresh words
    else if bytes_eq verb (codes "ask") then read_ask words
    else if bytes_eq verb (codes "barrier") then read_barrier words
    else Err kinds.Verb
