-- A script that was read is one that a plan can be made of.
use Rattle.std.proofs.Common.{◌≡◌, ℕ, ◌+◌, ◌<◌, ◌≤◌, Bool, true, false, List, [], ◌∷◌, ◌++◌, length, drop, refl, sym, ap, subst, ◌∙◌, arith, length-append, length-drop}
use Rattle.std.specs.Prelude.{Option, Some, None, Result, Ok, Err, not, ◌&&◌, ◌||◌, ◌==◌, nat_le, nat_lt, if◌then◌else◌, bytes_eq, codes}
use Rattle.std.specs.List.{list_all}
use Rattle.std.proofs.lemmas.Bool.{and_parts, and_from, le-leb, lt-ltb, leb-true, leb-false, ltb-false, not-false}
use Rattle.std.proofs.lemmas.List.Folds.{list_all-append}
use Rattle.gufi_base.specs.Limits.{max_script_lines, max_publishing, max_lanes}
use Rattle.gufi_base.specs.Basics.{is_empty, part_at, text_lines, result_map_err, ◌>>=◌, ◌>>◌, refuse}
use Rattle.gufi_base.specs.Numbers.{read_u32}
use Rattle.gufi_script.specs.declared.fault.ScriptKind.{ScriptKind}
use Rattle.gufi_script.specs.declared.fault.ScriptKind.TheVariants as kinds
use Rattle.gufi_script.specs.declared.fault.ScriptError.TheVariants.{Fault}
use Rattle.gufi_script.specs.declared.act.Form.{Form}
use Rattle.gufi_script.specs.declared.act.Form.TheVariants as forms
use Rattle.gufi_script.specs.declared.act.Act.{Act}
use Rattle.gufi_script.specs.declared.act.Act.TheVariants.{Publish, Rollup, Refresh, Ask, Barrier}
use Rattle.gufi_script.specs.ScriptWords.{has_bad_escape, words_of}
use Rattle.gufi_script.specs.Acts.{lane_within, read_limit, read_lane, read_path_word, read_file_word, read_form_word, has_ask_words, read_publish, read_rollup, read_refresh, read_ask, read_barrier, read_act}
use Rattle.gufi_script.specs.ScriptText.{PlacedAct, is_publishing, publishing_count, is_skipped_line, read_line, with_act, with_script_line, read_script_lines, read_script, has_query, has_parts, lines_ascend, is_script}
use Rattle.gufi_script.proofs.ReadLemmas.{count_one_more, count_no_more}

-- ---- steps that did not fail

then_ok : {A B E : Type 0} (r : Result A E) (f : A → Result B E) (y : B) → (r >>= f) ≡ Ok y → (x : A) × (r ≡ Ok x) × (f x ≡ Ok y)
then_ok (Ok x) f y e = (x, refl, e)
then_ok (Err fault) f y e = absurd cc

allowed : {B E : Type 0} (b : Bool) (fault : E) (next : Result B E) (y : B) → (refuse b fault >> next) ≡ Ok y → (b ≡ false) × (next ≡ Ok y)
allowed true fault next y e = absurd cc
allowed false fault next y e = (refl, e)

mapped_ok : {A E F : Type 0} (f : E → F) (r : Result A E) (x : A) → result_map_err f r ≡ Ok x → r ≡ Ok x
mapped_ok f (Ok y) x e = let same : y ≡ x = cc in ap Ok same
mapped_ok f (Err fault) x e = absurd cc

chosen_ok : {A E : Type 0} (b : Bool) (x y : A) (fault : E) → (if b then Ok x else Err fault) ≡ Ok y → (b ≡ true) × (x ≡ y)
chosen_ok true x y fault e = (refl, cc)
chosen_ok false x y fault e = absurd cc

-- ---- an act that was read has its parts

lane_is_within : (number : Option ℕ) (lane : ℕ) → lane_within number ≡ Ok lane → (nat_le 1 lane && nat_le lane max_lanes) ≡ true
lane_is_within None lane e = absurd cc
lane_is_within (Some n) lane e =
    let both = chosen_ok (nat_le 1 n && nat_le n max_lanes) n lane kinds.Lane e in
    subst (λ (k : ℕ). (nat_le 1 k && nat_le k max_lanes) ≡ true) both.1 both.0

form_is_query : (find total query : Bool) → (if find then Ok forms.Find else if total then Ok forms.Total else if query then Ok forms.Query else Err kinds.Form) ≡ Ok forms.Query → query ≡ true
form_is_query true total query e = absurd cc
form_is_query false true query e = absurd cc
form_is_query false false true e = refl
form_is_query false false false e = absurd cc

not_empty : {A : Type 0} (xs : List A) → 0 < length xs → not (is_empty xs) ≡ true
not_empty [] some = absurd (omega arith)
not_empty (x ∷ xs) some = refl

-- five words, and one more where it is a query
one_more : (five six query : Bool) → (five && (six || not query)) ≡ true → query ≡ true → six ≡ true
one_more true true query e is = refl
one_more true false true e is = absurd cc
one_more true false false e is = absurd cc
one_more false six query e is = absurd cc

words_behind : (words : List (List ℕ)) (form : Form) → has_ask_words words ≡ true → read_form_word (part_at words 5) ≡ Ok form → has_query form (drop 5 words) ≡ true
words_behind words forms.Find e is = refl
words_behind words forms.Total e is = refl
words_behind words forms.Query e is =
    let text = part_at words 5 in
    let query = form_is_query (bytes_eq text (codes "find")) (bytes_eq text (codes "total")) (bytes_eq text (codes "query")) is in
    let six = leb-true 6 (length words) (one_more (nat_le 5 (length words)) (nat_le 6 (length words)) (bytes_eq text (codes "query")) e query) in
    not_empty (drop 5 words) (omega (arith, length-drop 5 words, six))

publish_parts : (words : List (List ℕ)) (act : Act) → read_publish words ≡ Ok act → has_parts act ≡ true
unfolding read_publish
publish_parts words act e =
    let counted = allowed (not (length words == 3)) kinds.Count _ act e in
    let limit = then_ok (read_limit (part_at words 2)) _ act counted.1 in
    let file = then_ok (read_file_word (part_at words 3)) _ act limit.2 in
    let is : Publish limit.0 file.0 ≡ act = cc (file.2) in
    ap has_parts (sym is)

rollup_parts : (words : List (List ℕ)) (act : Act) → read_rollup words ≡ Ok act → has_parts act ≡ true
unfolding read_rollup
rollup_parts words act e =
    let counted = allowed (not (length words == 2)) kinds.Count _ act e in
    let limit = then_ok (read_limit (part_at words 2)) _ act counted.1 in
    let is : Rollup limit.0 ≡ act = cc (limit.2) in
    ap has_parts (sym is)

refresh_parts : (words : List (List ℕ)) (act : Act) → read_refresh words ≡ Ok act → has_parts act ≡ true
unfolding read_refresh
refresh_parts words act e =
    let counted = allowed (not (length words == 3)) kinds.Count _ act e in
    let path = then_ok (read_path_word (part_at words 2)) _ act counted.1 in
    let file = then_ok (read_file_word (part_at words 3)) _ act path.2 in
    let is : Refresh path.0 file.0 ≡ act = cc (file.2) in
    ap has_parts (sym is)

barrier_parts : (words : List (List ℕ)) (act : Act) → read_barrier words ≡ Ok act → has_parts act ≡ true
barrier_parts words act e =
    let counted = allowed (not (length words == 1)) kinds.Count (Ok Barrier) act e in
    let is : Barrier ≡ act = cc (counted.1) in
    ap has_parts (sym is)

ask_parts : (words : List (List ℕ)) (act : Act) → read_ask words ≡ Ok act → has_parts act ≡ true
unfolding read_ask
ask_parts words act e =
    let counted = allowed (not (has_ask_words words)) kinds.Count _ act e in
    let lane = then_ok (read_lane (part_at words 2)) _ act counted.1 in
    let path = then_ok (read_path_word (part_at words 4)) _ act lane.2 in
    let form = then_ok (read_form_word (part_at words 5)) _ act path.2 in
    let is : Ask lane.0 (part_at words 3) path.0 form.0 (drop 5 words) ≡ act = cc (form.2) in
    ap has_parts (sym is)
    ∙ and_from _ _ (lane_is_within (read_u32 (part_at words 2)) lane.0 lane.1) (words_behind words form.0 (not-false _ counted.0) form.1)

either_parts : (b : Bool) (x y : Result Act ScriptKind) (act : Act) → (x ≡ Ok act → has_parts act ≡ true) → (y ≡ Ok act → has_parts act ≡ true)
    → (if b then x else y) ≡ Ok act → has_parts act ≡ true
either_parts true x y act f g e = f e
either_parts false x y act f g e = g e

act_parts : (verb : List ℕ) (words : List (List ℕ)) (act : Act) → read_act verb words ≡ Ok act → has_parts act ≡ true
unfolding read_act
act_parts verb words act =
    either_parts (bytes_eq verb (codes "publish")) _ _ act (publish_parts words act)
    (either_parts (bytes_eq verb (codes "rollup")) _ _ act (rollup_parts words act)
    (either_parts (bytes_eq verb (codes "refresh")) _ _ act (refresh_parts words act)
    (either_parts (bytes_eq verb (codes "ask")) _ _ act (ask_parts words act)
    (either_parts (bytes_eq verb (codes "barrier")) _ _ act (barrier_parts words act) (λ (e : Err kinds.Verb ≡ Ok act). absurd cc)))))

line_parts : (text : List ℕ) (act : Act) → read_line text ≡ Ok act → has_parts act ≡ true
unfolding read_line
line_parts text act e = act_parts (part_at (words_of text) 1) (words_of text) act (allowed (has_bad_escape text) kinds.Escape _ act e).1

-- ---- the acts so far

-- the line of the last act, or a number where there is none
abbrev last_line : ℕ → List PlacedAct → ℕ
last_line above [] = above
last_line above (act ∷ acts) = last_line act.0 acts

-- acts of lines above 0 and below n
record IsBelow (n : ℕ) (acts : List PlacedAct) : Type 0 where
  pub ascend : lines_ascend 0 acts ≡ true
  pub last : last_line 0 acts < n
  pub counted : length acts < n
  pub few : length acts ≤ max_script_lines
  pub publishing : publishing_count acts ≤ max_publishing
  pub parts : list_all (λ act. has_parts act.1) acts ≡ true

ascend_more : (above n : ℕ) (acts : List PlacedAct) (act : Act) → lines_ascend above acts ≡ true → last_line above acts < n → lines_ascend above (acts ++ (n, act) ∷ []) ≡ true
ascend_more above n [] act ascend last = and_from _ _ (lt-ltb above n last) refl
ascend_more above n (first ∷ acts) act ascend last = let both = and_parts _ _ ascend in and_from _ _ both.0 (ascend_more first.0 n acts act both.1 last)

last_more : (above n : ℕ) (acts : List PlacedAct) (act : Act) → last_line above (acts ++ (n, act) ∷ []) ≡ n
last_more above n [] act = refl
last_more above n (first ∷ acts) act = last_more first.0 n acts act

publishing_more : (acts : List PlacedAct) (n : ℕ) (act : Act) (b : Bool) → is_publishing act ≡ b → (b && nat_le max_publishing (publishing_count acts)) ≡ false
    → publishing_count acts ≤ max_publishing → publishing_count (acts ++ (n, act) ∷ []) ≤ max_publishing
publishing_more acts n act true is room few = let lower = leb-false max_publishing (publishing_count acts) room in omega (arith, count_one_more acts n act is)
publishing_more acts n act false is room few = omega (arith, count_no_more acts n act is)

later_line : (n : ℕ) (acts : List PlacedAct) → IsBelow n acts → IsBelow (n + 1) acts
later_line n acts h = record {
  ascend = h.ascend;
  last = omega (arith, h.last);
  counted = omega (arith, h.counted);
  few = h.few;
  publishing = h.publishing;
  parts = h.parts;
}

one_act : (n : ℕ) (acts : List PlacedAct) (act : Act) → IsBelow n acts → n ≤ max_script_lines → has_parts act ≡ true
    → (is_publishing act && nat_le max_publishing (publishing_count acts)) ≡ false → IsBelow (n + 1) (acts ++ (n, act) ∷ [])
one_act n acts act h small parts room = record {
  ascend = ascend_more 0 n acts act h.ascend h.last;
  last = omega (arith, last_more 0 n acts act);
  counted = omega (arith, h.counted, length-append acts ((n, act) ∷ []));
  few = omega (arith, h.counted, length-append acts ((n, act) ∷ []));
  publishing = publishing_more acts n act (is_publishing act) refl room h.publishing;
  parts = list_all-append (λ (placed : PlacedAct). has_parts placed.1) acts ((n, act) ∷ []) ∙ and_from _ _ h.parts (and_from _ _ parts refl);
}

skips : (n : ℕ) (skipped : Bool) (earlier now : List PlacedAct) (text : List ℕ) → n ≤ max_script_lines → IsBelow n earlier
    → (if skipped then Ok earlier else read_line text >>= λ act. with_act n earlier act) ≡ Ok now → IsBelow (n + 1) now
unfolding with_act
skips n true earlier now text small h e = let same : earlier ≡ now = cc in subst (IsBelow (n + 1)) same (later_line n earlier h)
skips n false earlier now text small h e =
    let act = then_ok (read_line text) _ now e in
    let room = allowed (is_publishing act.0 && nat_le max_publishing (publishing_count earlier)) (kinds.TooMany max_publishing) _ now act.2 in
    let same : earlier ++ (n, act.0) ∷ [] ≡ now = cc (room.1) in
    subst (IsBelow (n + 1)) same (one_act n earlier act.0 h small (line_parts text act.0 act.1) room.0)

one_line : (n : ℕ) (earlier now : List PlacedAct) (text : List ℕ) → IsBelow n earlier → with_script_line n earlier text ≡ Ok now → IsBelow (n + 1) now
unfolding with_script_line
one_line n earlier now text h e =
    let small = allowed (nat_lt max_script_lines n) (kinds.TooMany max_script_lines) _ now e in
    skips n (is_skipped_line text) earlier now text (ltb-false max_script_lines n small.0) h small.1

all_lines : (n : ℕ) (earlier acts : List PlacedAct) (lines : List (List ℕ)) → IsBelow n earlier → read_script_lines n earlier lines ≡ Ok acts → (k : ℕ) × IsBelow k acts
unfolding read_script_lines
all_lines n earlier acts [] h e = let same : earlier ≡ acts = cc in (n, subst (IsBelow n) same h)
all_lines n earlier acts (text ∷ rest) h e =
    let now = then_ok (result_map_err (Fault n) (with_script_line n earlier text)) _ acts e in
    all_lines (n + 1) now.0 acts rest (one_line n earlier now.0 text h (mapped_ok (Fault n) _ now.0 now.1)) now.2

pub read_is_script : (bytes : List ℕ) (acts : List PlacedAct) → read_script bytes ≡ Ok acts → is_script acts ≡ true
unfolding read_script
read_is_script bytes acts e =
    let none : IsBelow 1 [] = record { ascend = refl; last = omega arith; counted = omega arith; few = omega arith; publishing = omega arith; parts = refl } in
    let h = (all_lines 1 [] acts (text_lines bytes) none e).1 in
    and_from _ _ (and_from _ _ (and_from _ _ h.ascend (le-leb _ _ h.few)) (le-leb _ _ h.publishing)) h.parts
