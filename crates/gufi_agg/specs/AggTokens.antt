-- What the tokens of an agg are, each with its offset.
use Rattle.std.specs.Prelude.{ℕ, Bool, true, false, List, [], ◌∷◌, length, drop, position, unwrap_or, codes, if◌then◌else◌}
use Rattle.std.specs.List.{take_while}
use Rattle.gufi_base.specs.Basics.{lookup}
use Rattle.gufi_select.specs.Names.{lower}
use Rattle.gufi_select.specs.Tokens.{PlacedToken, is_word_byte}
use Rattle.gufi_select.specs.declared.token.Sign.TheVariants as signs
use Rattle.gufi_select.specs.declared.token.Token.{Token}
use Rattle.gufi_select.specs.declared.token.Token.TheVariants as variants
use Rattle.gufi_agg.specs.declared.agg.AggKey.TheVariants.{Uid, Gid, Letter, Level}
use Rattle.gufi_agg.specs.declared.token.Function.TheVariants as functions
use Rattle.gufi_agg.specs.declared.token.AggToken.{AggToken}
use Rattle.gufi_agg.specs.declared.token.AggToken.TheVariants as agg_tokens
use Rattle.gufi_agg.specs.declared.token.Placed.{Placed}

-- the words that mean something to an agg, in lower case
abbrev pub words : List (List ℕ × AggToken)
words =
    (codes "select", agg_tokens.Select) ∷ (codes "from", agg_tokens.From) ∷ (codes "group", agg_tokens.Group) ∷ (codes "by", agg_tokens.By)
    ∷ (codes "uid", agg_tokens.Key Uid) ∷ (codes "gid", agg_tokens.Key Gid) ∷ (codes "type", agg_tokens.Key Letter) ∷ (codes "level", agg_tokens.Key Level)
    ∷ (codes "count", agg_tokens.Function functions.Count) ∷ (codes "sum", agg_tokens.Function functions.Sum)
    ∷ (codes "min", agg_tokens.Function functions.Min) ∷ (codes "max", agg_tokens.Function functions.Max)
    ∷ (codes "size", agg_tokens.Size) ∷ (codes "mtime", agg_tokens.Mtime) ∷ []

abbrev pub word_token : List ℕ → AggToken
word_token letters = unwrap_or (lookup (lower letters) words) agg_tokens.Other

-- what a token is, with which the bytes begin
abbrev pub agg_token_of : Token → List ℕ → AggToken
agg_token_of (variants.Word word) bytes = word_token (take_while is_word_byte bytes)
agg_token_of (variants.Sign signs.Comma) bytes = agg_tokens.Comma
agg_token_of (variants.Sign signs.Open) bytes = agg_tokens.Open
agg_token_of (variants.Sign signs.Close) bytes = agg_tokens.Close
agg_token_of (variants.Sign signs.Star) bytes = agg_tokens.Star
agg_token_of (variants.Sign signs.Semicolon) bytes = agg_tokens.Semicolon
agg_token_of token bytes = agg_tokens.Other

-- Reading stops where no token begins, and where a text isn't closed.
abbrev pub stops : Token → Bool
stops variants.Stray = true
stops variants.OpenText = true
stops token = false

abbrev pub placed_at : List ℕ → PlacedToken → Placed
placed_at bytes token = record { offset = token.offset; token = agg_token_of token.token (drop token.offset bytes) }

-- the tokens up to where reading stops
abbrev pub placed_in : List ℕ → List PlacedToken → List Placed
placed_in bytes [] = []
placed_in bytes (token ∷ rest) = if stops token.token then [] else placed_at bytes token ∷ placed_in bytes rest

-- where reading stops, or the text's length
abbrev pub stop_in : List ℕ → List PlacedToken → ℕ
stop_in bytes [] = length bytes
stop_in bytes (token ∷ rest) = if stops token.token then token.offset else stop_in bytes rest

-- how many tokens stand before the first of a kind
abbrev pub count_before : (AggToken → Bool) → List Placed → ℕ
count_before is_kind placed = unwrap_or (position (λ p. is_kind p.token) placed) (length placed)

abbrev pub is_from : AggToken → Bool
is_from agg_tokens.From = true
is_from token = false

abbrev pub is_group : AggToken → Bool
is_group agg_tokens.Group = true
is_group token = false

abbrev pub is_by : AggToken → Bool
is_by agg_tokens.By = true
is_by token = false

abbrev pub is_semicolon : AggToken → Bool
is_semicolon agg_tokens.Semicolon = true
is_semicolon token = false
