-- The acts of a script, line by line, or the least faulty line.
use Rattle.std.specs.Prelude.{ℕ, ◌+◌, Bool, true, false, not, ◌==◌, ◌&&◌, nat_lt, nat_le, List, [], ◌∷◌, ◌++◌, length, count_by, Result, Ok, if◌then◌else◌, codes, decimal}
use Rattle.std.specs.List.{list_all}
use Rattle.gufi_base.specs.Limits.{max_script_lines, max_publishing, max_lanes}
use Rattle.gufi_base.specs.Basics.{is_empty, part_at, text_lines, result_map_err, ◌>>=◌, ◌>>◌, refuse}
use Rattle.gufi_script.specs.declared.fault.ScriptKind.{ScriptKind}
use Rattle.gufi_script.specs.declared.fault.ScriptKind.TheVariants as kinds
use Rattle.gufi_script.specs.declared.fault.ScriptError.{ScriptError}
use Rattle.gufi_script.specs.declared.fault.ScriptError.TheVariants.{Fault}
use Rattle.gufi_script.specs.declared.act.Form.{Form}
use Rattle.gufi_script.specs.declared.act.Form.TheVariants as forms
use Rattle.gufi_script.specs.declared.act.Act.{Act}
use Rattle.gufi_script.specs.declared.act.Act.TheVariants.{Publish, Rollup, Refresh, Ask, Barrier}
use Rattle.gufi_script.specs.ScriptWords.{raw_words, has_bad_escape, words_of}
use Rattle.gufi_script.specs.Acts.{read_act}

-- an act with its line
abbrev pub PlacedAct : Type 0
PlacedAct = ℕ × Act

abbrev pub is_publishing : Act → Bool
is_publishing (Publish limit file) = true
is_publishing (Rollup limit) = true
is_publishing (Refresh path file) = true
is_publishing (Ask lane user path form words) = false
is_publishing Barrier = false

abbrev pub publishing_count : List PlacedAct → ℕ
publishing_count acts = count_by (λ act. is_publishing act.1) acts

-- one publishing command more than there may be
abbrev pub too_many_publishing : List PlacedAct → Act → Result (Unit {0}) ScriptKind
too_many_publishing earlier act = refuse (is_publishing act && nat_le max_publishing (publishing_count earlier)) (kinds.TooMany max_publishing)

abbrev pub is_comment : List ℕ → Bool
is_comment [] = false
is_comment (b ∷ rest) = b == 35

abbrev pub is_skipped_line : List ℕ → Bool
is_skipped_line text = if is_comment text then true else is_empty (raw_words text)

-- the act of a line that isn't skipped
unfoldable pub read_line : List ℕ → Result Act ScriptKind
read_line text = refuse (has_bad_escape text) kinds.Escape >> read_act (part_at (words_of text) 1) (words_of text)

-- the acts with one more, at line n
unfoldable pub with_act : ℕ → List PlacedAct → Act → Result (List PlacedAct) ScriptKind
with_act n earlier act = too_many_publishing earlier act >> Ok (earlier ++ (n, act) ∷ [])

-- the acts with that of line n, behind earlier ones
unfoldable pub with_script_line : ℕ → List PlacedAct → List ℕ → Result (List PlacedAct) ScriptKind
with_script_line n earlier text =
    refuse (nat_lt max_script_lines n) (kinds.TooMany max_script_lines)
    >> (if is_skipped_line text then Ok earlier else read_line text >>= λ act. with_act n earlier act)

unfoldable pub read_script_lines : ℕ → List PlacedAct → List (List ℕ) → Result (List PlacedAct) ScriptError
read_script_lines n earlier [] = Ok earlier
read_script_lines n earlier (text ∷ rest) = result_map_err (Fault n) (with_script_line n earlier text) >>= λ now. read_script_lines (n + 1) now rest

unfoldable pub read_script : List ℕ → Result (List PlacedAct) ScriptError
read_script bytes = read_script_lines 1 [] (text_lines bytes)

-- What a plan asks of its acts, and a script that was read has: ascending lines, counts within their limits, lanes, and at
-- least one word in each query.
abbrev pub has_query : Form → List (List ℕ) → Bool
has_query forms.Find words = true
has_query forms.Total words = true
has_query forms.Query words = not (is_empty words)

abbrev pub has_parts : Act → Bool
has_parts (Publish limit file) = true
has_parts (Rollup limit) = true
has_parts (Refresh path file) = true
has_parts (Ask lane user path form words) = nat_le 1 lane && nat_le lane max_lanes && has_query form words
has_parts Barrier = true

abbrev pub lines_ascend : ℕ → List PlacedAct → Bool
lines_ascend above [] = true
lines_ascend above (act ∷ acts) = nat_lt above act.0 && lines_ascend act.0 acts

abbrev pub is_script : List PlacedAct → Bool
is_script acts =
    lines_ascend 0 acts && nat_le (length acts) max_script_lines && nat_le (publishing_count acts) max_publishing && list_all (λ act. has_parts act.1) acts

abbrev pub script_kind_text : ScriptKind → List ℕ
script_kind_text kinds.Escape = codes "Escape"
script_kind_text kinds.Verb = codes "Verb"
script_kind_text kinds.Count = codes "Count"
script_kind_text kinds.Number = codes "Number"
script_kind_text kinds.Lane = codes "Lane"
script_kind_text kinds.Path = codes "Path"
script_kind_text kinds.File = codes "File"
script_kind_text kinds.Form = codes "Form"
script_kind_text kinds.User = codes "User"
script_kind_text kinds.Query = codes "Query"
script_kind_text (kinds.TooMany limit) = codes "TooMany " ++ decimal limit
