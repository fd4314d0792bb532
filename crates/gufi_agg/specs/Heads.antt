-- What an agg says up to FROM.
use Rattle.std.specs.Prelude.{ℕ, Bool, true, false, List, [], ◌∷◌, ◌++◌, Option, Some, None, Result, Ok, Err, if◌then◌else◌, option_map}
use Rattle.gufi_base.specs.Basics.{capped_number, ◌>>=◌}
use Rattle.gufi_agg.specs.declared.agg.AggKey.{AggKey}
use Rattle.gufi_agg.specs.declared.agg.AggKey.TheVariants.{Uid}
use Rattle.gufi_agg.specs.declared.agg.Item.{Item}
use Rattle.gufi_agg.specs.declared.agg.Item.TheVariants as «items»
use Rattle.gufi_agg.specs.declared.fault.AggError.{AggError}
use Rattle.gufi_agg.specs.declared.fault.AggError.TheVariants.{Fault}
use Rattle.gufi_agg.specs.declared.fault.AggKind.TheVariants as kinds
use Rattle.gufi_agg.specs.declared.head.HeadPlace.{HeadPlace}
use Rattle.gufi_agg.specs.declared.head.HeadPlace.TheVariants as places
use Rattle.gufi_agg.specs.declared.token.Function.{Function}
use Rattle.gufi_agg.specs.declared.token.Function.TheVariants as functions
use Rattle.gufi_agg.specs.declared.token.AggToken.{AggToken}
use Rattle.gufi_agg.specs.declared.token.AggToken.TheVariants as agg_tokens
use Rattle.gufi_agg.specs.declared.token.Placed.{Placed}

-- what is wanted next, the key and its offset, and the items that were read
pub record Head : Type 0 where
  pub place : HeadPlace
  pub key : AggKey
  pub key_at : ℕ
  pub items : List Item

abbrev pub head_fault : ℕ → AggError
head_fault offset = Fault (capped_number offset) kinds.Head

-- what a function of `*` or of a column is
abbrev pub item_of : Function → AggToken → Option Item
item_of functions.Count agg_tokens.Star = Some «items».Count
item_of functions.Sum agg_tokens.Size = Some «items».SumSize
item_of functions.Min agg_tokens.Size = Some «items».MinSize
item_of functions.Max agg_tokens.Size = Some «items».MaxSize
item_of functions.Min agg_tokens.Mtime = Some «items».MinMtime
item_of functions.Max agg_tokens.Mtime = Some «items».MaxMtime
item_of function token = None

-- what is wanted behind a token, where it is allowed
abbrev pub next_place : HeadPlace → AggToken → Option HeadPlace
next_place places.SelectWord agg_tokens.Select = Some places.Key
next_place places.Key (agg_tokens.Key key) = Some places.CommaOrFrom
next_place places.CommaOrFrom agg_tokens.Comma = Some places.Function
next_place places.Function (agg_tokens.Function function) = Some (places.Open function)
next_place (places.Open function) agg_tokens.Open = Some (places.Argument function)
next_place (places.Argument function) token = option_map places.Close (item_of function token)
next_place (places.Close item) agg_tokens.Close = Some places.CommaOrFrom
next_place place token = None

-- the key is read with its offset
abbrev pub with_key : Placed → AggToken → Head → Head
with_key p (agg_tokens.Key key) head = record head { key = key; key_at = p.offset }
with_key p token head = head

-- an item is read with its `)`
abbrev pub with_item : HeadPlace → Head → Head
with_item (places.Close item) head = record head { items = head.items ++ item ∷ [] }
with_item place head = head

abbrev pub head_behind : Head → Placed → Option HeadPlace → Result Head AggError
head_behind head p (Some place) = Ok (record (with_key p p.token (with_item head.place head)) { place = place })
head_behind head p None = Err (head_fault p.offset)

abbrev pub read_token : Head → Placed → Result Head AggError
read_token head p = head_behind head p (next_place head.place p.token)

-- FROM is allowed behind the key and behind an item
abbrev pub may_end : HeadPlace → Bool
may_end places.CommaOrFrom = true
may_end place = false

-- the tokens before FROM, where that or the stop of reading has an offset
abbrev pub read_tokens : ℕ → Head → List Placed → Result Head AggError
read_tokens end head [] = if may_end head.place then Ok head else Err (head_fault end)
read_tokens end head (p ∷ rest) = read_token head p >>= λ next. read_tokens end next rest

abbrev pub head_start : Head
head_start = record { place = places.SelectWord; key = Uid; key_at = 0; items = [] }

abbrev pub read_head : ℕ → List Placed → Result Head AggError
read_head end placed = read_tokens end head_start placed
