-- Reading the words of an expression one by one.
use Rattle.std.proofs.Common.{◌≡◌, ◌≢◌, ℕ, ◌+◌, ◌<◌, ◌≤◌, List, [], ◌∷◌, length, drop, get_or, refl, sym, ap, ◌∙◌}
use Rattle.std.specs.Prelude.{Option, Result, Ok, Err, ℤ}
use Rattle.std.proofs.lemmas.List.{drop_more, drop_all}
use Rattle.gufi_base.specs.Basics.{◌>>=◌}
use Rattle.gufi_users.specs.Entries.{UserTables}
use Rattle.gufi_find.specs.declared.fault.FindKind.{FindKind}
use Rattle.gufi_find.specs.declared.fault.FindError.TheVariants as errors
use Rattle.gufi_find.specs.declared.fault.WordFault.{WordFault}
use Rattle.gufi_find.specs.declared.fault.WordFault.TheVariants as faults
use Rattle.gufi_find.specs.Expressions.{Find}
use Rattle.gufi_find.specs.Reading.{State, read_word, at_word, at_end, read_find_words, read_find, first_state}
use Rattle.gufi_find.specs.States.{state_kept}
use Rattle.gufi_find.specs.WordFaults.{Gives, fault_of}

-- the words before a place have led to a state
pub record Led (words : List (List ℕ)) (tables : UserTables) (now : Option ℤ) (place : ℕ) (s : State) : Type 0 where
  pub whole : read_find words tables now ≡ read_find_words tables now (place + 1) s (drop place words)

pub led_first : (words : List (List ℕ)) (tables : UserTables) (now : Option ℤ) (s : State) → s ≡ first_state words → Led words tables now 0 s
unfolding read_find
led_first words tables now s e = record { whole = ap (λ first. read_find_words tables now 1 first words) (sym e) }

word_read : (tables : UserTables) (now : Option ℤ) (n : ℕ) (s : State) (word : List ℕ) (rest : List (List ℕ))
    → read_find_words tables now n s (word ∷ rest) ≡ (at_word n (read_word tables now s s.place word) >>= λ next. read_find_words tables now (n + 1) next rest)
unfolding read_find_words
word_read tables now n s word rest = refl

no_more : (tables : UserTables) (now : Option ℤ) (n : ℕ) (s : State) → read_find_words tables now n s [] ≡ at_word n (at_end s s.place)
unfolding read_find_words
no_more tables now n s = refl

word_at : {words : List (List ℕ)} {tables : UserTables} {now : Option ℤ} {place : ℕ} {s : State} {word : List ℕ} {given : Result State FindKind}
    → Led words tables now place s → place < length words → word ≡ get_or words place word → read_word tables now s s.place word ≡ given
    → read_find words tables now ≡ (at_word (place + 1) given >>= λ next. read_find_words tables now (place + 1 + 1) next (drop (place + 1) words))
word_at {words} {tables} {now} {place} {s} {word} led inside is read =
    led.whole
    ∙ ap (read_find_words tables now (place + 1) s) (drop_more words place word inside ∙ ap (λ w. w ∷ drop (place + 1) words) (sym is))
    ∙ word_read tables now (place + 1) s word (drop (place + 1) words)
    ∙ ap (λ r. at_word (place + 1) r >>= λ next. read_find_words tables now (place + 1 + 1) next (drop (place + 1) words)) read

pub led_on : {words : List (List ℕ)} {tables : UserTables} {now : Option ℤ} {place : ℕ} {s next : State} {word : List ℕ}
    → Led words tables now place s → place < length words → word ≡ get_or words place word → read_word tables now s s.place word ≡ Ok next → Led words tables now (place + 1) next
led_on led inside is read = record { whole = word_at led inside is read }

pub word_fault : {words : List (List ℕ)} {tables : UserTables} {now : Option ℤ} {place : ℕ} {s : State} {word : List ℕ} (fault : WordFault)
    → Led words tables now place s → place < length words → word ≡ get_or words place word → Gives state_kept (Err fault) (read_word tables now s s.place word)
    → fault_of place fault ≢ errors.Memory → read_find words tables now ≡ Err (fault_of place fault)
word_fault (faults.Kind kind) led inside is gives other = word_at led inside is gives
word_fault faults.Memory led inside is gives other = absurd (other refl)

last_at : {words : List (List ℕ)} {tables : UserTables} {now : Option ℤ} {place : ℕ} {s : State} {given : Result Find FindKind}
    → Led words tables now place s → length words ≤ place → at_end s s.place ≡ given → read_find words tables now ≡ at_word (place + 1) given
last_at {words} {tables} {now} {place} {s} led past read =
    led.whole
    ∙ ap (read_find_words tables now (place + 1) s) (drop_all place words past)
    ∙ no_more tables now (place + 1) s
    ∙ ap (at_word (place + 1)) read

pub led_last : {words : List (List ℕ)} {tables : UserTables} {now : Option ℤ} {place : ℕ} {s : State} {f : Find}
    → Led words tables now place s → length words ≤ place → at_end s s.place ≡ Ok f → read_find words tables now ≡ Ok f
led_last led past read = last_at led past read

pub end_fault : {words : List (List ℕ)} {tables : UserTables} {now : Option ℤ} {place : ℕ} {s : State} (fault : WordFault)
    → Led words tables now place s → length words ≤ place → Gives (λ (f : Find). f) (Err fault) (at_end s s.place)
    → fault_of place fault ≢ errors.Memory → read_find words tables now ≡ Err (fault_of place fault)
end_fault (faults.Kind kind) led past gives other = last_at led past gives
end_fault faults.Memory led past gives other = absurd (other refl)
