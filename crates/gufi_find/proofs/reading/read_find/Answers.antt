use Rattle.std.proofs.Common.{◌≡◌, ◌<◌, ◌≤◌, ℕ, List, length, get_or, arith, rules}
use Rattle.gufi_find.proofs.ReadLemmas.{led_first, led_on, led_last, word_fault, end_fault}
use Rattle.gufi_find.proofs.reading.read_find.Goals as goal

-- the word at a place, where the place is that of the loop
item_at : (words : List (List ℕ)) (item text : List ℕ) (place i : ℕ) → place ≡ i → text ≡ item → item ≡ get_or words i item → text ≡ get_or words place text
item_at words item text place i same is here = rw (is, same) here

pub words-init : goal.words-init
words-init c = record { led = led_first _ _ _ _ c.first_state-state.ensures; place = search rules }

pub returns-in-Err : goal.returns-in-Err
returns-in-Err c =
    let inside : c.words.place < length c.args.words.now = omega arith in
    let is = item_at c.args.words.now c.word-item.result c.as_slice.result.now c.words.place c.words.word-index c.words.invariant.place c.as_slice.ensures c.word-item.is in
    rw c.fault_at.ensures (word_fault c.in-Err.fault c.words.invariant.led inside is c.in-Err.ensures)

pub words-preserved : goal.words-preserved
words-preserved c =
    let inside : c.words.place < length c.args.words.now = omega arith in
    let is = item_at c.args.words.now c.word-item.result c.as_slice.result.now c.words.place c.words.word-index c.words.invariant.place c.as_slice.ensures c.word-item.is in
    record { led = led_on c.words.invariant.led inside is c.in-Ok.ensures; place = omega arith }

pub returns-in-Ok-ended : goal.returns-in-Ok-ended
returns-in-Ok-ended c =
    let past : length c.args.words.now ≤ c.words.place = omega arith in
    led_last c.words.invariant.led past c.in-Ok-ended.ensures

pub returns-in-Err-ended : goal.returns-in-Err-ended
returns-in-Err-ended c =
    let past : length c.args.words.now ≤ c.words.place = omega arith in
    rw c.fault_at-in-Err-ended.ensures (end_fault c.in-Err-ended.fault c.words.invariant.led past c.in-Err-ended.ensures)
