-- What an agg says behind FROM.
use Rattle.std.specs.Prelude.{ℕ, ◌==◌, ◌-◌, Bool, true, false, not, List, [], ◌∷◌, length, take, drop, Option, Some, None, Result, Ok, Err, if◌then◌else◌, slice_get}
use Rattle.gufi_base.specs.Basics.{capped_number, ◌>>◌, refuse}
use Rattle.gufi_agg.specs.declared.agg.AggKey.{AggKey}
use Rattle.gufi_agg.specs.declared.agg.AggKey.TheVariants.{Uid, Gid, Letter, Level}
use Rattle.gufi_agg.specs.declared.fault.AggError.{AggError}
use Rattle.gufi_agg.specs.declared.fault.AggError.TheVariants.{Fault}
use Rattle.gufi_agg.specs.declared.fault.AggKind.TheVariants.{Tail}
use Rattle.gufi_agg.specs.declared.token.AggToken.{AggToken}
use Rattle.gufi_agg.specs.declared.token.AggToken.TheVariants as agg_tokens
use Rattle.gufi_agg.specs.declared.token.Placed.{Placed}
use Rattle.gufi_agg.specs.declared.tail.Ends.{Ends}
use Rattle.gufi_agg.specs.AggTokens.{count_before, is_group, is_by, is_semicolon}

abbrev pub tail_fault : ℕ → AggError
tail_fault offset = Fault (capped_number offset) Tail

abbrev pub same_key : AggKey → AggKey → Bool
same_key Uid Uid = true
same_key Gid Gid = true
same_key Letter Letter = true
same_key Level Level = true
same_key key other = false

abbrev pub is_key : AggKey → AggToken → Bool
is_key key (agg_tokens.Key other) = same_key key other
is_key key token = false

-- ---- the tokens behind GROUP: the first that isn't allowed has the fault, or else the stop of reading, unless that is the text's end

abbrev pub at_end : Ends → Result (Unit {0}) AggError
at_end ends = refuse (not (ends.stop == ends.whole)) (tail_fault ends.stop)

abbrev pub behind_semicolon : Ends → List Placed → Result (Unit {0}) AggError
behind_semicolon ends [] = at_end ends
behind_semicolon ends (p ∷ rest) = Err (tail_fault p.offset)

abbrev pub behind_key : Ends → List Placed → Result (Unit {0}) AggError
behind_key ends [] = at_end ends
behind_key ends (p ∷ rest) = if is_semicolon p.token then behind_semicolon ends rest else Err (tail_fault p.offset)

abbrev pub behind_by : AggKey → Ends → List Placed → Result (Unit {0}) AggError
behind_by key ends [] = Err (tail_fault ends.stop)
behind_by key ends (p ∷ rest) = if is_key key p.token then behind_key ends rest else Err (tail_fault p.offset)

abbrev pub behind_group : AggKey → Ends → List Placed → Result (Unit {0}) AggError
behind_group key ends [] = Err (tail_fault ends.stop)
behind_group key ends (p ∷ rest) = if is_by p.token then behind_by key ends rest else Err (tail_fault p.offset)

-- ---- the first GROUP

-- a `;` right before GROUP has the fault
abbrev pub before_group : Option Placed → Result (Unit {0}) AggError
before_group None = Ok tt
before_group (Some p) = refuse (is_semicolon p.token) (tail_fault p.offset)

abbrev pub at_group : AggKey → Ends → Option Placed → List Placed → Result ℕ AggError
at_group key ends before [] = Err (tail_fault ends.whole)
at_group key ends before (group ∷ rest) = before_group before >> (behind_group key ends rest >> Ok group.offset)

abbrev pub last_of : List Placed → Option Placed
last_of placed = slice_get placed (length placed - 1)

-- the offset of the first GROUP of the tokens behind FROM
abbrev pub read_tail : AggKey → Ends → List Placed → Result ℕ AggError
read_tail key ends placed =
    let count = count_before is_group placed in at_group key ends (last_of (take count placed)) (drop count placed)
