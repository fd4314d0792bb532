-- Tokens, byte by byte.
use Rattle.std.proofs.Common.{◌≡◌, ℕ, zero, suc, ◌+◌, ◌-◌, Bool, true, false, List, [], ◌∷◌, ◌++◌, length, take, drop, refl, ap, arith}
use Rattle.std.specs.List.{take_while}
use Rattle.gufi_select.specs.declared.token.Quoted.{Quoted}
use Rattle.gufi_select.specs.Tokens.{PlacedToken, is_blank, front_token, tokens_from}

-- bytes from the front that pass, and those behind them that do
pub record IsFront (p : ℕ → Bool) (bytes : List ℕ) (size : ℕ) : Type 0 where
  pub whole : take_while p bytes ≡ take size bytes ++ take_while p (drop size bytes)

-- a text behind bytes of it that were read
abbrev pub joined : List ℕ → ℕ → Quoted → Quoted
joined front n q = record { bytes = front ++ q.bytes; count = q.count + n; closed = q.closed }

-- ---- the tokens behind one

pub tokens_behind : (skip offset whole : ℕ) (rest : List ℕ) → offset + length rest ≡ whole → tokens_from skip offset rest ≡ tokens_from 0 (whole - length (drop skip rest)) (drop skip rest)
tokens_behind zero offset whole rest is = let same : offset ≡ whole - length rest = omega arith in ap (λ n. tokens_from 0 n rest) same
tokens_behind (suc skip) offset whole [] is = refl
tokens_behind (suc skip) offset whole (b ∷ rest) is = let less : offset + 1 + length rest ≡ whole = omega arith in tokens_behind skip (offset + 1) whole rest less

pub blank_read : (offset b : ℕ) (rest : List ℕ) → is_blank b ≡ true → tokens_from 0 offset (b ∷ rest) ≡ tokens_from 0 (offset + 1) rest
blank_read offset b rest is = rw (tokens_from, is) refl

pub token_read : (offset b : ℕ) (rest : List ℕ) → is_blank b ≡ false
    → tokens_from 0 offset (b ∷ rest)
    ≡ (let t : PlacedToken = record { offset = offset; token = (front_token b rest (b ∷ rest)).token } in t) ∷ tokens_from ((front_token b rest (b ∷ rest)).size - 1) (offset + 1) rest
token_read offset b rest is = rw (tokens_from, is) refl
