-- How an agg is read.
use Rattle.std.specs.Prelude.{ℕ, ◌-◌, List, [], ◌∷◌, ◌++◌, length, take, drop, Result, Ok, Err, replicate}
use Rattle.gufi_base.specs.Basics.{◌>>=◌}
use Rattle.gufi_select.specs.Columns.{Select}
use Rattle.gufi_select.specs.Reading.{read_select}
use Rattle.gufi_select.specs.Tokens.{tokens}
use Rattle.gufi_select.specs.declared.fault.SelectError.{SelectError}
use Rattle.gufi_select.specs.declared.fault.SelectError.TheVariants as selects
use Rattle.gufi_agg.specs.declared.agg.AggKey.{AggKey}
use Rattle.gufi_agg.specs.declared.agg.AggKey.TheVariants.{Uid, Gid, Letter, Level}
use Rattle.gufi_agg.specs.declared.fault.AggKind.TheVariants.{Inner}
use Rattle.gufi_agg.specs.declared.fault.AggError.{AggError}
use Rattle.gufi_agg.specs.declared.fault.AggError.TheVariants.{Fault, Memory}
use Rattle.gufi_agg.specs.declared.token.Placed.{Placed}
use Rattle.gufi_agg.specs.declared.tail.Ends.{Ends}
use Rattle.gufi_agg.specs.Aggs.{Agg}
use Rattle.gufi_agg.specs.Heads.{Head, head_fault, read_head}
use Rattle.gufi_agg.specs.AggTokens.{placed_in, stop_in, count_before, is_from}
use Rattle.gufi_agg.specs.Tails.{read_tail}

-- how many letters a key has
abbrev pub key_length : AggKey → ℕ
key_length Uid = 3
key_length Gid = 3
key_length Letter = 4
key_length Level = 5

-- the text up to the key and with it, spaces up to FROM, and the text from there to GROUP
abbrev pub inner_text : List ℕ → Head → ℕ → ℕ → List ℕ
inner_text bytes head from group =
    take head.key_at bytes ++ take (key_length head.key) (drop head.key_at bytes) ++ replicate (from - head.key_at - key_length head.key) 32
    ++ take (group - from) (drop from bytes)

-- the SELECT between, or its fault at the same offset
abbrev pub agg_of : Head → Result Select SelectError → Result Agg AggError
agg_of head (Ok select) = Ok (record { key = head.key; items = head.items; select = select })
agg_of head (Err (selects.Fault at kind)) = Err (Fault at (Inner kind))
agg_of head (Err selects.Memory) = Err Memory

-- the offset of the first of these tokens, or else where reading stopped
abbrev pub first_offset : ℕ → List Placed → ℕ
first_offset stop [] = stop
first_offset stop (p ∷ rest) = p.offset

-- with the tokens from FROM on
abbrev pub read_behind : List ℕ → Ends → Head → List Placed → Result Agg AggError
read_behind bytes ends head [] = Err (head_fault ends.stop)
read_behind bytes ends head (from ∷ rest) =
    read_tail head.key ends rest >>= λ group. agg_of head (read_select (inner_text bytes head from.offset group))

abbrev pub read_placed : List ℕ → Ends → List Placed → Result Agg AggError
read_placed bytes ends placed =
    let count = count_before is_from placed in
    read_head (first_offset ends.stop (drop count placed)) (take count placed) >>= λ head. read_behind bytes ends head (drop count placed)

unfoldable pub read_agg : List ℕ → Result Agg AggError
read_agg bytes = read_placed bytes (record { stop = stop_in bytes (tokens bytes); whole = length bytes }) (placed_in bytes (tokens bytes))
