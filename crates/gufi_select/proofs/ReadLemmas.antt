-- Reading the tokens of a SELECT one by one.
use Rattle.std.proofs.Common.{◌≡◌, ◌≢◌, ℕ, ◌+◌, ◌-◌, ◌≤◌, Bool, true, false, List, [], ◌∷◌, length, drop, refl, sym, ap, ◌∙◌, arith, subst}
use Rattle.std.proofs.lemmas.List.{length-drop}
use Rattle.std.specs.Prelude.{Result, Ok, Err, not}
use Rattle.gufi_base.specs.Basics.{◌>>=◌, ◌>>◌, refuse, GivesUnless}
use Rattle.gufi_select.specs.declared.fault.SelectError.{SelectError}
use Rattle.gufi_select.specs.declared.fault.SelectError.TheVariants as errors
use Rattle.gufi_select.specs.declared.fault.SelectKind.TheVariants.{Unexpected}
use Rattle.gufi_select.specs.declared.token.Front.{Front}
use Rattle.gufi_select.specs.Reading.{SelectState, read_placed, read_tokens, read_state, read_select, finished, select_start, may_end, at_offset}
use Rattle.gufi_select.specs.Columns.{Select}
use Rattle.gufi_select.specs.States.{state_kept}
use Rattle.gufi_select.specs.TokenFaults.{Tells}
use Rattle.gufi_select.specs.Tokens.{PlacedToken, is_blank, front_token, tokens_from}
use Rattle.gufi_select.proofs.TokenLemmas.{tokens_behind, blank_read, token_read}

-- the bytes before the rest have led to a state
pub record Led (text : List ℕ) (s : SelectState) (rest : List ℕ) : Type 0 where
  pub whole : read_state text ≡ read_tokens (length text) s (tokens_from 0 (length text - length rest) rest)
  pub within : length rest ≤ length text

pub led_first : (text : List ℕ) (s : SelectState) → s ≡ select_start → Led text s text
led_first text s e = record {
  whole = let none : 0 ≡ length text - length text = omega arith in
      ap (λ start. read_tokens (length text) start (tokens_from 0 0 text)) (sym e) ∙ ap (λ n. read_tokens (length text) s (tokens_from 0 n text)) none;
  within = omega arith;
}

pub led_blank : {text rest : List ℕ} {s : SelectState} {b : ℕ} → Led text s (b ∷ rest) → is_blank b ≡ true → Led text s rest
led_blank {text} {rest} {s} {b} led is =
    let inside = led.within in
    let more : length text - length (b ∷ rest) + 1 ≡ length text - length rest = omega arith in
    record {
      whole = led.whole ∙ ap (read_tokens (length text) s) (blank_read (length text - length (b ∷ rest)) b rest is ∙ ap (λ n. tokens_from 0 n rest) more);
      within = omega arith;
    }

abbrev pub placed : List ℕ → ℕ → List ℕ → Front → PlacedToken
placed text b rest front = record { offset = length text - length (b ∷ rest); token = front.token }

pub one_read : (n : ℕ) (s : SelectState) (t : PlacedToken) (rest : List PlacedToken) → read_tokens n s (t ∷ rest) ≡ (read_placed s t >>= λ next. read_tokens n next rest)
unfolding read_tokens
one_read n s t rest = refl

pub none_read : (n : ℕ) (s : SelectState) → read_tokens n s [] ≡ (at_offset n (refuse (not (may_end s.place s)) Unexpected) >> Ok s)
unfolding read_tokens
none_read n s = refl

token_at : {text rest : List ℕ} {s : SelectState} {b : ℕ} {given : Result SelectState SelectError} (front : Front) → Led text s (b ∷ rest) → is_blank b ≡ false → front ≡ front_token b rest (b ∷ rest)
    → read_placed s (placed text b rest front) ≡ given
    → read_state text ≡ (given >>= λ next. read_tokens (length text) next (tokens_from 0 (length text - length (drop (front.size - 1) rest)) (drop (front.size - 1) rest)))
token_at {text} {rest} {s} {b} {given} front led is made read =
    let inside = led.within in
    let offset = length text - length (b ∷ rest) in
    let more : offset + 1 + length rest ≡ length text = omega arith in
    led.whole
    ∙ ap (read_tokens (length text) s) (token_read offset b rest is)
    ∙ ap (λ (f : Front). read_tokens (length text) s (placed text b rest f ∷ tokens_from (f.size - 1) (offset + 1) rest)) (sym made)
    ∙ one_read (length text) s (placed text b rest front) (tokens_from (front.size - 1) (offset + 1) rest)
    ∙ ap (λ l. read_placed s (placed text b rest front) >>= λ next. read_tokens (length text) next l) (tokens_behind (front.size - 1) (offset + 1) (length text) rest more)
    ∙ ap (λ r. r >>= λ next. read_tokens (length text) next (tokens_from 0 (length text - length (drop (front.size - 1) rest)) (drop (front.size - 1) rest))) read

pub led_on : {text rest : List ℕ} {s next : SelectState} {b : ℕ} (front : Front) → Led text s (b ∷ rest) → is_blank b ≡ false → front ≡ front_token b rest (b ∷ rest)
    → read_placed s (placed text b rest front) ≡ Ok next → Led text next (drop (front.size - 1) rest)
led_on {text} {rest} front led is made read =
    let inside = led.within in
    let long = length-drop (front.size - 1) rest in
    record { whole = token_at front led is made read; within = omega arith }

pub token_fault : {text rest : List ℕ} {s : SelectState} {b : ℕ} {e : SelectError} (front : Front) → Led text s (b ∷ rest) → is_blank b ≡ false → front ≡ front_token b rest (b ∷ rest)
    → read_placed s (placed text b rest front) ≡ Err e → read_state text ≡ Err e
token_fault front led is made read = token_at front led is made read

pub led_end : {text : List ℕ} {s : SelectState} (b : Bool) → Led text s [] → may_end s.place s ≡ b → read_state text ≡ (at_offset (length text) (refuse (not b) Unexpected) >> Ok s)
led_end {text} {s} b led is = led.whole ∙ none_read (length text) s ∙ ap (λ b. at_offset (length text) (refuse (not b) Unexpected) >> Ok s) is

-- ---- the same where the first byte is told apart

abbrev pub at_bytes : List ℕ → List ℕ → Front → PlacedToken
at_bytes text bytes front = record { offset = length text - length bytes; token = front.token }

abbrev GoesOn : List ℕ → List ℕ → SelectState → SelectState → ℕ → Front → List ℕ → Type 0
GoesOn text rest s next b front bytes =
    Led text s bytes → front ≡ front_token b rest bytes → read_placed s (at_bytes text bytes front) ≡ Ok next → Led text next (drop (front.size - 1) rest)

pub led_next : {text rest bytes : List ℕ} {s next : SelectState} {b : ℕ} (front : Front) → bytes ≡ b ∷ rest → is_blank b ≡ false → GoesOn text rest s next b front bytes
led_next {text} {rest} {bytes} {s} {next} {b} front is word =
    subst (GoesOn text rest s next b front) (sym is) (λ led made read. led_on front led word made read)

pub led_over : {text rest bytes : List ℕ} {s : SelectState} {b : ℕ} → bytes ≡ b ∷ rest → is_blank b ≡ true → Led text s bytes → Led text s rest
led_over {text} {rest} {bytes} {s} {b} is blank = subst (λ bytes. Led text s bytes → Led text s rest) (sym is) (λ led. led_blank led blank)

-- ---- faults, and the end

abbrev Breaks : List ℕ → List ℕ → SelectState → ℕ → Front → SelectError → List ℕ → Type 0
Breaks text rest s b front e bytes =
    Led text s bytes → front ≡ front_token b rest bytes → Tells state_kept (Err e) (read_placed s (at_bytes text bytes front)) → Tells state_kept (Err e) (read_state text)

told_at : {text rest : List ℕ} {s : SelectState} {b : ℕ} (e : SelectError) (front : Front) → is_blank b ≡ false → Breaks text rest s b front e (b ∷ rest)
told_at errors.Memory front is led made told = tt
told_at (errors.Fault at kind) front is led made told = token_at front led is made told

pub fault_told : {text rest bytes : List ℕ} {s : SelectState} {b : ℕ} (e : SelectError) (front : Front) → bytes ≡ b ∷ rest → is_blank b ≡ false → Breaks text rest s b front e bytes
fault_told {text} {rest} {bytes} {s} {b} e front is word = subst (Breaks text rest s b front e) (sym is) (told_at e front word)

pub ended : {text bytes : List ℕ} {s : SelectState} (b : Bool) → bytes ≡ [] → Led text s bytes → b ≡ may_end s.place s → read_state text ≡ (at_offset (length text) (refuse (not b) Unexpected) >> Ok s)
ended {text} {bytes} {s} b none led is = led_end b (subst (Led text s) none led) (sym is)

pub read_faulty : (text : List ℕ) (e : SelectError) → Tells state_kept (Err e) (read_state text) → e ≢ errors.Memory → read_select text ≡ Err e
unfolding read_select
read_faulty text errors.Memory told other = absurd (other refl)
read_faulty text (errors.Fault at kind) told other = ap (λ r. r >>= λ s. finished s) told

pub read_finished : (text : List ℕ) (s : SelectState) (result : Result Select SelectError) → read_state text ≡ Ok s → Tells (λ (x : Select). x) result (finished s)
    → GivesUnless errors.Memory result (read_select text)
unfolding read_select
read_finished text s (Ok x) led told = ap (λ r. r >>= λ s. finished s) led ∙ told
read_finished text s (Err errors.Memory) led told = λ other. absurd (other refl)
read_finished text s (Err (errors.Fault at kind)) led told = λ other. ap (λ r. r >>= λ s. finished s) led ∙ told
