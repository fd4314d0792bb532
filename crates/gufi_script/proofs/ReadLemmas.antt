-- Reading line by line.
use Rattle.std.proofs.Common.{◌≡◌, ℕ, ◌+◌, true, false, cond, List, [], ◌∷◌, ◌++◌, refl, sym, ap, ◌∙◌, arith, Bor}
use Rattle.std.specs.Prelude.{map}
use Rattle.percent_encoding.specs.Percent.{percent_decode}
use Rattle.gufi_script.specs.ScriptWords.{raw_words, words_of}
use mathlib.Core.List.{map-map}
use Rattle.std.proofs.lemmas.List.Sums.{sum_by-append}
use Rattle.std.specs.Prelude.{Ok, Err}
use Rattle.std.specs.Str.{IsUtf8, is_utf8}
use Rattle.std.proofs.lemmas.Str.{IsUtf8-from_is_utf8, is_utf8-from_IsUtf8}
use Rattle.gufi_script.specs.declared.fault.ScriptKind.{ScriptKind}
use Rattle.gufi_script.specs.declared.fault.ScriptError.TheVariants.{Fault}
use Rattle.gufi_script.specs.declared.act.Act.{Act}
use Rattle.gufi_script.specs.ScriptText.{PlacedAct, is_publishing, publishing_count, with_script_line, read_script_lines}

pub lines_done : (n : ℕ) (acts : List PlacedAct) → read_script_lines n acts [] ≡ Ok acts
unfolding read_script_lines
lines_done n acts = refl

pub lines_more : (n : ℕ) (earlier acts : List PlacedAct) (text : List ℕ) (rest : List (List ℕ))
    → with_script_line n earlier text ≡ Ok acts → read_script_lines n earlier (text ∷ rest) ≡ read_script_lines (n + 1) acts rest
unfolding read_script_lines
lines_more n earlier acts text rest one = rw one refl

pub lines_stop : (n : ℕ) (earlier : List PlacedAct) (text : List ℕ) (rest : List (List ℕ)) (kind : ScriptKind)
    → with_script_line n earlier text ≡ Err kind → read_script_lines n earlier (text ∷ rest) ≡ Err (Fault n kind)
unfolding read_script_lines
lines_stop n earlier text rest kind one = rw one refl

-- one act more, which publishes or doesn't
pub count_one_more : (acts : List PlacedAct) (n : ℕ) (act : Act) → is_publishing act ≡ true → publishing_count (acts ++ (n, act) ∷ []) ≡ publishing_count acts + 1
count_one_more acts n act publishes =
    let split = sum_by-append (λ (placed : PlacedAct). cond (is_publishing placed.1) 1 0) acts ((n, act) ∷ []) in
    let one = ap {B = ℕ} (λ b. cond b 1 0) publishes in
    omega (arith, split, one)

pub count_no_more : (acts : List PlacedAct) (n : ℕ) (act : Act) → is_publishing act ≡ false → publishing_count (acts ++ (n, act) ∷ []) ≡ publishing_count acts
count_no_more acts n act other =
    let split = sum_by-append (λ (placed : PlacedAct). cond (is_publishing placed.1) 1 0) acts ((n, act) ∷ []) in
    let none = ap {B = ℕ} (λ b. cond b 1 0) other in
    omega (arith, split, none)

pub no_utf8 : (text : List ℕ) → ¬ (IsUtf8 text) → is_utf8 text ≡ false
no_utf8 text broken =
    elim (is_utf8 text) as (λ b. is_utf8 text ≡ b → b ≡ false) [ true ↦ λ e. absurd (broken (IsUtf8-from_is_utf8 _ e)) | false ↦ λ e. refl ] refl

pub is_text : (text : List ℕ) → IsUtf8 text → is_utf8 text ≡ true
is_text text h = is_utf8-from_IsUtf8 text h

pub decoded_raw : (raw : List (Bor (List ℕ))) (text : List ℕ) → map (λ word. word.now) raw ≡ raw_words text → map (λ word. percent_decode word.now) raw ≡ words_of text
decoded_raw raw text e = sym (map-map _ _ raw) ∙ ap (map percent_decode) e
