-- The tokens of an agg one by one.
use Rattle.std.proofs.Common.{◌≡◌, ℕ, ◌+◌, ◌-◌, ◌≤◌, true, false, List, [], ◌∷◌, ◌++◌, length, drop, refl, sym, ap, ◌∙◌, arith, subst, append_assoc}
use Rattle.std.proofs.lemmas.List.{length-drop, drop-drop, drop_min}
use Rattle.std.specs.Prelude.{min}
use Rattle.gufi_select.specs.declared.token.Front.{Front}
use Rattle.gufi_select.specs.Tokens.{PlacedToken, is_blank, front_token, tokens_from, tokens}
use Rattle.gufi_select.proofs.TokenLemmas.{tokens_behind, blank_read, token_read}
use Rattle.gufi_agg.specs.declared.token.Placed.{Placed}
use Rattle.gufi_agg.specs.AggTokens.{agg_token_of, stops, placed_at, placed_in, stop_in}

-- the tokens before the rest are these, and reading goes on there
pub record Led (text : List ℕ) (placed : List Placed) (rest : List ℕ) : Type 0 where
  pub whole : placed_in text (tokens text) ≡ placed ++ placed_in text (tokens_from 0 (length text - length rest) rest)
  pub end : stop_in text (tokens text) ≡ stop_in text (tokens_from 0 (length text - length rest) rest)
  pub within : length rest ≤ length text
  pub suffix : drop (length text - length rest) text ≡ rest

abbrev pub here : List ℕ → List ℕ → List PlacedToken
here text rest = tokens_from 0 (length text - length rest) rest

-- ---- a rest of the text

suffix_behind : (k : ℕ) (text rest : List ℕ) → drop (length text - length rest) text ≡ rest → length rest ≤ length text → drop (length text - length (drop k rest)) text ≡ drop k rest
suffix_behind k text rest is within =
    let long = length-drop k rest in
    let same : length text - length (drop k rest) ≡ min (length text - length rest + k) (length text) = omega (arith, long) in
    ap (λ j. drop j text) same ∙ drop_min (length text - length rest + k) text ∙ sym (drop-drop k (length text - length rest) text) ∙ ap (drop k) is

within_behind : (k : ℕ) (text rest : List ℕ) → length rest ≤ length text → length (drop k rest) ≤ length text
within_behind k text rest within = let long = length-drop k rest in omega (arith, long)

-- ---- the steps

pub led_first : (text : List ℕ) (placed : List Placed) → placed ≡ [] → Led text placed text
led_first text placed none =
    let zero_left : 0 ≡ length text - length text = omega arith in
    record {
      whole = ap (λ n. placed_in text (tokens_from 0 n text)) zero_left ∙ ap (λ l. l ++ placed_in text (here text text)) (sym none);
      end = ap (λ n. stop_in text (tokens_from 0 n text)) zero_left;
      within = omega arith;
      suffix = ap (λ n. drop n text) (sym zero_left);
    }

blank_here : (b : ℕ) (text rest : List ℕ) → length (b ∷ rest) ≤ length text → is_blank b ≡ true → here text (b ∷ rest) ≡ here text rest
blank_here b text rest within is =
    let more : length text - length (b ∷ rest) + 1 ≡ length text - length rest = omega (arith, within) in
    blank_read (length text - length (b ∷ rest)) b rest is ∙ ap (λ n. tokens_from 0 n rest) more

-- the token at these bytes
abbrev pub token_here : List ℕ → List ℕ → Front → PlacedToken
token_here text bytes front = record { offset = length text - length bytes; token = front.token }

one_here : (b : ℕ) (text rest : List ℕ) (front : Front) → length (b ∷ rest) ≤ length text → is_blank b ≡ false → front ≡ front_token b rest (b ∷ rest)
    → here text (b ∷ rest) ≡ token_here text (b ∷ rest) front ∷ here text (drop (front.size - 1) rest)
one_here b text rest front within is made =
    let offset = length text - length (b ∷ rest) in
    let more : offset + 1 + length rest ≡ length text = omega (arith, within) in
    token_read offset b rest is
    ∙ ap (λ (f : Front). token_here text (b ∷ rest) f ∷ tokens_from (f.size - 1) (offset + 1) rest) (sym made)
    ∙ ap (λ l. token_here text (b ∷ rest) front ∷ l) (tokens_behind (front.size - 1) (offset + 1) (length text) rest more)

led_over_cons : {text : List ℕ} {placed : List Placed} {rest : List ℕ} {b : ℕ} → is_blank b ≡ true → Led text placed (b ∷ rest) → Led text placed rest
led_over_cons {text} {placed} {rest} {b} is led =
    let same = blank_here b text rest led.within is in
    record {
      whole = led.whole ∙ ap (λ l. placed ++ placed_in text l) same;
      end = led.end ∙ ap (stop_in text) same;
      within = within_behind 1 text (b ∷ rest) led.within;
      suffix = suffix_behind 1 text (b ∷ rest) led.suffix led.within;
    }

pub led_over : {text : List ℕ} {placed : List Placed} {rest bytes : List ℕ} {b : ℕ} → bytes ≡ b ∷ rest → is_blank b ≡ true → Led text placed bytes → Led text placed rest
led_over {text} {placed} {rest} {bytes} {b} is blank = subst (λ bytes. Led text placed bytes → Led text placed rest) (sym is) (led_over_cons blank)

placed_cons : (text : List ℕ) (token : PlacedToken) (rest : List PlacedToken) → stops token.token ≡ false → placed_in text (token ∷ rest) ≡ placed_at text token ∷ placed_in text rest
placed_cons text token rest is = rw (placed_in, is) refl

stop_cons : (text : List ℕ) (token : PlacedToken) (rest : List PlacedToken) → stops token.token ≡ false → stop_in text (token ∷ rest) ≡ stop_in text rest
stop_cons text token rest is = rw (stop_in, is) refl

-- the token at these bytes as it is kept
abbrev pub kept_here : List ℕ → List ℕ → Front → Placed
kept_here text bytes front = record { offset = length text - length bytes; token = agg_token_of front.token bytes }

abbrev GoesOn : List ℕ → List Placed → List ℕ → ℕ → Front → List ℕ → Type 0
GoesOn text placed rest b front bytes =
    front ≡ front_token b rest bytes → stops front.token ≡ false → Led text placed bytes → Led text (placed ++ kept_here text bytes front ∷ []) (drop (front.size - 1) rest)

led_on : (text : List ℕ) (placed : List Placed) (rest : List ℕ) (b : ℕ) (front : Front) → is_blank b ≡ false → GoesOn text placed rest b front (b ∷ rest)
led_on text placed rest b front word made on led =
    let bytes = b ∷ rest in
    let behind = here text (drop (front.size - 1) rest) in
    let same = one_here b text rest front led.within word made in
    let kept : placed_at text (token_here text bytes front) ≡ kept_here text bytes front = ap (λ l. record { offset = length text - length bytes; token = agg_token_of front.token l }) led.suffix in
    let less = within_behind 1 text bytes led.within in
    let suffix = suffix_behind 1 text bytes led.suffix led.within in
    record {
      whole = led.whole ∙ ap (λ l. placed ++ placed_in text l) same ∙ ap (λ l. placed ++ l) (placed_cons text (token_here text bytes front) behind on)
          ∙ ap (λ p. placed ++ p ∷ placed_in text behind) kept ∙ sym (append_assoc placed (kept_here text bytes front ∷ []) (placed_in text behind));
      end = led.end ∙ ap (stop_in text) same ∙ stop_cons text (token_here text bytes front) behind on;
      within = within_behind (front.size - 1) text rest less;
      suffix = suffix_behind (front.size - 1) text rest suffix less;
    }

pub led_next : {text : List ℕ} {placed : List Placed} {rest bytes : List ℕ} {b : ℕ} (front : Front) → bytes ≡ b ∷ rest → is_blank b ≡ false → GoesOn text placed rest b front bytes
led_next {text} {placed} {rest} {bytes} {b} front is word = subst (GoesOn text placed rest b front) (sym is) (led_on text placed rest b front word)
