-- What a pattern's builder answers, as the definitions say it.
use Rattle.std.proofs.Common.{◌≡◌, ◌≢◌, ◌⊎◌, ℕ, ◌<◌, ◌≤◌, true, false, ◌||◌, List, length, get_or, Option, None, Some, IsSomeAnd, IfSome, is_some, is_none, refl, inl, inr, IsUtf8}
use Rattle.std.proofs.lemmas.Bool.{lt-ltb, le-ltb}
use Rattle.std.proofs.lemmas.Str.{IsUtf8-from_is_utf8, is_utf8-from_IsUtf8}
use Rattle.std.specs.Str.{is_utf8}
use Rattle.regex_hir.specs.Meaning.{meaning}
use Rattle.regex_hir.specs.declared.hir.Hir.{Hir}
use Rattle.regex_syntax.specs.declared.error.ErrorKind.{ErrorKind}
use Rattle.regex_syntax.specs.declared.error.ErrorKind.TheVariants.{OutOfMemory, NestLimitExceeded}
use Rattle.regex_syntax.specs.Grammar.{Names, group_count}
use Rattle.regex_syntax.specs.Brackets.{Nested}
use Rattle.regex.specs.Patterns.{Re, find, SameCaptures, Reads, Refuses}
use Rattle.regex.proofs.ForCallers.{is_match_alike}
use Rattle.gufi_pattern.specs.Patterns.{bytes_config, reading, is_deep, is_bad_pattern, found_by, is_pattern_found}

abbrev Reading : Type 0
Reading = Option (Nested Re × Names)

-- ---- refused

not_utf8 : (pattern : List ℕ) → ¬ (IsUtf8 pattern) → is_utf8 pattern ≡ false
not_utf8 pattern broken =
    elim (is_utf8 pattern) as (λ b. is_utf8 pattern ≡ b → b ≡ false) [ true ↦ λ e. absurd (broken (IsUtf8-from_is_utf8 _ e)) | false ↦ λ e. refl ] refl

pub bad_of_no_utf8 : (pattern : List ℕ) → ¬ (IsUtf8 pattern) → is_bad_pattern pattern ≡ true
bad_of_no_utf8 pattern broken = rw (not_utf8 pattern broken) refl

refused_reading : (found : Reading) (kind : ErrorKind) → kind ≢ OutOfMemory →
    ((kind ≡ OutOfMemory) ⊎ ((found ≡ None) ⊎ ((kind ≡ NestLimitExceeded) × IfSome found (λ (re, _). bytes_config.nest_limit < re.depth)))) →
    (is_none found || is_deep found) ≡ true
refused_reading None kind other h = refl
refused_reading (Some x) kind other (inl memory) = absurd (other memory)
refused_reading (Some x) kind other (inr (inl none)) = absurd cc
refused_reading (Some x) kind other (inr (inr deep)) = lt-ltb _ _ deep.1

-- an error of syntax, where the text is UTF-8
pub bad_of_refuses : (pattern : List ℕ) (kind : ErrorKind) → IsUtf8 pattern → kind ≢ OutOfMemory → Refuses bytes_config pattern kind →
    is_bad_pattern pattern ≡ true
unfolding Refuses
bad_of_refuses pattern kind text other h = rw (is_utf8-from_IsUtf8 pattern text) (refused_reading (reading pattern) kind other h)

-- ---- built

module _ (hir : Hir) (names : Names) where
  abbrev IsReadOf : Reading → Type 0
  IsReadOf found = IsSomeAnd found (λ (re, given). (re.depth ≤ bytes_config.nest_limit) × SameCaptures (meaning hir) re.value × (names ≡ given)
      × (group_count (meaning hir) ≤ length names))

  good_reading : (found : Reading) → IsReadOf found → (is_none found || is_deep found) ≡ false
  good_reading None h = absurd h
  good_reading (Some x) h = le-ltb _ _ h.0

  pub good_of_reads : (pattern : List ℕ) → IsUtf8 pattern → Reads bytes_config pattern hir names → is_bad_pattern pattern ≡ false
  unfolding Reads
  good_of_reads pattern text h = rw (is_utf8-from_IsUtf8 pattern text) (good_reading (reading pattern) h)

  found_alike : (found : Reading) → IsReadOf found → (text : List ℕ) → ((k : ℕ) → get_or text k 0 < 256) →
      is_some (find (meaning hir) text 0) ≡ found_by found text
  found_alike None h text bytes = absurd h
  found_alike (Some x) h text bytes = is_match_alike h.1 text bytes false 0

  pub found_of_reads : (pattern : List ℕ) → Reads bytes_config pattern hir names → (text : List ℕ) → ((k : ℕ) → get_or text k 0 < 256) →
      is_some (find (meaning hir) text 0) ≡ is_pattern_found pattern text
  unfolding Reads
  found_of_reads pattern h text bytes = found_alike (reading pattern) h text bytes
