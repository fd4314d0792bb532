-- What phases came to is what the script's definitions say.
use Rattle.std.proofs.Common.{◌≡◌, ℕ, zero, suc, ◌+◌, ◌≤◌, Bool, true, false, cond, List, [], ◌∷◌, ◌++◌, length, take, drop, map, length-append, append_assoc, refl, sym, ap, ◌∙◌, subst, arith}
use Rattle.std.specs.Prelude.{not, ◌==◌, ◌&&◌, ◌||◌, nat_le, zip, count_by, Option, Some, None, Result, Ok, Err, slice_index_or, codes, decimal}
use Rattle.std.specs.List.{list_all, last_or}
use Rattle.std.proofs.lemmas.Bool.{and_from, le-leb, eq-eqb, eqb-true}
use Rattle.std.proofs.lemmas.List.{append-nil, take_at, drop_at}
use Rattle.std.proofs.lemmas.List.Sums.{sum_by_from}
use Rattle.gufi_base.specs.Basics.{is_empty, line}
use Rattle.gufi_base.specs.Paths.{Components}
use Rattle.gufi_tree.specs.Tree.{Directory}
use Rattle.gufi_snap.specs.Refreshed.{refreshed}
use Rattle.gufi_snap.specs.declared.refresh.RefreshFault.{RefreshFault}
use Rattle.gufi_trace.specs.TraceText.{trace_means, TraceFailure}
use Rattle.gufi_io.specs.Files.{Files}
use Rattle.gufi_phases.specs.declared.act.Act.TheVariants as acts
use Rattle.gufi_session.specs.declared.publishing.Publishing.{Publishing}
use Rattle.gufi_session.specs.declared.publishing.Publishing.TheVariants.{Publish, Rollup, Refresh}
use Rattle.gufi_session.specs.declared.reply.Asking.{Asking}
use Rattle.gufi_phases.specs.Phases.{news_of, last_after, line_of, made, last_of_acts, command_lines, command_count, ask_count, asks_in, acts_text, act_text, NoneBelow, NumbersFit}
use Rattle.gufi_phases.specs.Phases as phases_of
use Rattle.gufi_phases.specs.Sessions.{IsSession}
use Rattle.gufi_plan.specs.declared.act.PlannedAct.{PlannedAct}
use Rattle.gufi_plan.specs.declared.act.PlannedAct.TheVariants as planned
use Rattle.gufi_session.specs.Session.{Published, adds, refuses, does_nothing, Publication, published, rolled, replaced, grafted, bytes_of, outcome, with_published, pubs_from, publication_at, outcome_text, text_from, lanes, is_ask, phases_text, never_falls, phase_fits, phases_fit}
use Rattle.gufi_session.specs.Session.{fits, session_text}
use Rattle.gufi_session.specs.Run.{Run}
use Rattle.gufi_session.specs.Ends.{Answered}
use Rattle.gufi_session.specs.Loaded.{LoadedAct, loaded, loaded_phase, as_result, command_outcome, verb_of, command_line, search_reply}

-- ---- numbers

or_from : (b r : Bool) → (b ≡ true → r ≡ true) → (not b || r) ≡ true
or_from true r f = f refl
or_from false r f = refl

none_lower : (lane n : ℕ) (ls numbers : List ℕ) → NoneBelow lane n ls numbers → list_all (λ next. not (next.0 == lane) || nat_le n next.1) (zip ls numbers) ≡ true
unfolding NoneBelow
none_lower lane n [] numbers is = refl
none_lower lane n (l ∷ ls) [] is = refl
none_lower lane n (l ∷ ls) (m ∷ numbers) is =
    and_from (not (l == lane) || nat_le n m) (list_all (λ next. not (next.0 == lane) || nat_le n next.1) (zip ls numbers))
    (or_from (l == lane) (nat_le n m) (λ e. le-leb n m (is.0 (eqb-true l lane e)))) (none_lower lane n ls numbers is.1)

falls_never : (low high : ℕ) (ls numbers : List ℕ) → NumbersFit low high ls numbers → never_falls (zip ls numbers) ≡ true
unfolding NumbersFit
falls_never low high [] [] is = refl
falls_never low high [] (n ∷ numbers) is = absurd is
falls_never low high (l ∷ ls) [] is = absurd is
falls_never low high (l ∷ ls) (n ∷ numbers) is =
    and_from (list_all (λ next. not (next.0 == l) || nat_le n next.1) (zip ls numbers)) (never_falls (zip ls numbers)) (none_lower l n ls numbers is.2) (falls_never low high ls numbers is.3)

within : (low high : ℕ) (ls numbers : List ℕ) → NumbersFit low high ls numbers → list_all (λ n. nat_le low n && nat_le n high) numbers ≡ true
unfolding NumbersFit
within low high [] [] is = refl
within low high [] (n ∷ numbers) is = absurd is
within low high (l ∷ ls) [] is = absurd is
within low high (l ∷ ls) (n ∷ numbers) is =
    and_from (nat_le low n && nat_le n high) (list_all (λ n. nat_le low n && nat_le n high) numbers) (and_from (nat_le low n) (nat_le n high) (le-leb low n is.0) (le-leb n high is.1)) (within low high ls numbers is.3)

pub as_many : (low high : ℕ) (ls numbers : List ℕ) → NumbersFit low high ls numbers → length numbers ≡ length ls
unfolding NumbersFit
as_many low high [] [] is = refl
as_many low high [] (n ∷ numbers) is = absurd is
as_many low high (l ∷ ls) [] is = absurd is
as_many low high (l ∷ ls) (n ∷ numbers) is = ap suc (as_many low high ls numbers is.3)

pub numbers_fit : (low high : ℕ) (ls numbers : List ℕ) → NumbersFit low high ls numbers → phase_fits low high ls numbers ≡ true
numbers_fit low high ls numbers is =
    let many = eq-eqb (length numbers) (length ls) (as_many low high ls numbers is) in
    let inside = within low high ls numbers is in
    let falls = falls_never low high ls numbers is in
    subst (λ b. (b && list_all (λ n. nat_le low n && nat_le n high) numbers && never_falls (zip ls numbers)) ≡ true) (sym many)
    (subst (λ b. (true && b && never_falls (zip ls numbers)) ≡ true) (sym inside) (subst (λ b. (true && true && b) ≡ true) (sym falls) refl))

-- ---- publications

last_snoc : (o : Option Publication) (pubs : List Publication) (p : Publication) → last_or o (pubs ++ p ∷ []) ≡ Some p
last_snoc o [] p = refl
last_snoc o (q ∷ pubs) p = last_snoc (Some q) pubs p

at_same : (all : List Publication) (n : ℕ) → publication_at all n ≡ phases_of.item_at all n
at_same all zero = refl
at_same all (suc n) = refl

lanes_same : (files : Files) (phase : List PlannedAct) → lanes phase ≡ phases_of.lanes (loaded_phase files phase)
unfolding phases_of.lanes
lanes_same files [] = refl
lanes_same files (planned.Publish delim limit file ∷ acts) = lanes_same files acts
lanes_same files (planned.Rollup limit ∷ acts) = lanes_same files acts
lanes_same files (planned.Refresh delim path file ∷ acts) = lanes_same files acts
lanes_same files (planned.Ask lane search ∷ acts) = ap (λ l. lane ∷ l) (lanes_same files acts)

abbrev counted : PlannedAct → ℕ
counted act = cond (not (is_ask act)) 1 0

commands_same : (files : Files) (phase : List PlannedAct) → count_by (λ act. not (is_ask act)) phase ≡ command_count (loaded_phase files phase)
unfolding command_count
commands_same files [] = refl
commands_same files (planned.Publish delim limit file ∷ acts) = sum_by_from counted 1 acts ∙ ap (λ n. 1 + n) (commands_same files acts)
commands_same files (planned.Rollup limit ∷ acts) = sum_by_from counted 1 acts ∙ ap (λ n. 1 + n) (commands_same files acts)
commands_same files (planned.Refresh delim path file ∷ acts) = sum_by_from counted 1 acts ∙ ap (λ n. 1 + n) (commands_same files acts)
commands_same files (planned.Ask lane search ∷ acts) = sum_by_from counted 0 acts ∙ ap (λ n. 0 + n) (commands_same files acts)

asks_same : (files : Files) (phase : List PlannedAct) → length (lanes phase) ≡ ask_count (loaded_phase files phase)
unfolding ask_count
asks_same files [] = refl
asks_same files (planned.Publish delim limit file ∷ acts) = asks_same files acts ∙ (let n = ask_count (loaded_phase files acts) in let e : n ≡ 0 + n = omega arith in e)
asks_same files (planned.Rollup limit ∷ acts) = asks_same files acts ∙ (let n = ask_count (loaded_phase files acts) in let e : n ≡ 0 + n = omega arith in e)
asks_same files (planned.Refresh delim path file ∷ acts) = asks_same files acts ∙ (let n = ask_count (loaded_phase files acts) in let e : n ≡ 0 + n = omega arith in e)
asks_same files (planned.Ask lane search ∷ acts) = ap suc (asks_same files acts) ∙ (let n = ask_count (loaded_phase files acts) in let e : suc n ≡ 1 + n = omega arith in e)

made_news : (pubs : List Publication) (o : Published) → with_published pubs o ≡ pubs ++ phases_of.news (as_result o)
made_news pubs (adds p) = refl
made_news pubs (refuses text) = sym (append-nil pubs)
made_news pubs does_nothing = sym (append-nil pubs)

made_last : (pubs : List Publication) (o : Published) → last_or None (with_published pubs o) ≡ phases_of.last_behind (last_or None pubs) (as_result o)
made_last pubs (adds p) = last_snoc None pubs p
made_last pubs (refuses text) = refl
made_last pubs does_nothing = refl

-- a command adds a publication or has a refusal
abbrev is_told : Published → Bool
is_told (adds p) = true
is_told (refuses text) = true
is_told does_nothing = false

published_told : (limit : ℕ) (r : Result (List Directory) TraceFailure) → is_told (published limit r) ≡ true
published_told limit (Ok tree) = refl
published_told limit (Err failure) = refl

rolled_told : (limit : ℕ) (last : Option Publication) → is_told (rolled limit last) ≡ true
rolled_told limit None = refl
rolled_told limit (Some p) = refl

replaced_told : (r : Result Publication RefreshFault) → is_told (replaced r) ≡ true
replaced_told (Ok p) = refl
replaced_told (Err fault) = refl

grafted_told : (path : Components) (r : Result (List Directory) TraceFailure) (last : Option Publication) → is_told (grafted path r last) ≡ true
grafted_told path (Err failure) last = refl
grafted_told path (Ok part) None = refl
grafted_told path (Ok part) (Some p) = replaced_told (refreshed p path part)

told_line : (pubs : List Publication) (k : ℕ) (command : Publishing) (o : Published) → is_told o ≡ true
    → command_line command k (phases_of.numbered (length pubs) (as_result o)) ≡ outcome_text (verb_of command) k (length (with_published pubs o)) o
told_line pubs k command (adds p) told = ap (λ n. line (verb_of command ++ decimal k ++ codes " number " ++ decimal n)) (sym (length-append pubs (p ∷ [])))
told_line pubs k command (refuses text) told = refl
told_line pubs k command does_nothing told = absurd cc

module _ (files : Files) where
  -- one act: what it adds, the last publication behind it, and its line
  act_news : (pubs : List Publication) (act : PlannedAct) → with_published pubs (outcome files pubs act) ≡ pubs ++ news_of command_outcome (last_or None pubs) (loaded files act)
  act_news pubs (planned.Publish delim limit file) = made_news pubs (published limit _)
  act_news pubs (planned.Rollup limit) = made_news pubs (rolled limit (last_or None pubs))
  act_news pubs (planned.Refresh delim path file) = made_news pubs (grafted path _ (last_or None pubs))
  act_news pubs (planned.Ask lane search) = sym (append-nil pubs)

  act_last : (pubs : List Publication) (act : PlannedAct) → last_or None (with_published pubs (outcome files pubs act)) ≡ last_after command_outcome (last_or None pubs) (loaded files act)
  act_last pubs (planned.Publish delim limit file) = made_last pubs (published limit _)
  act_last pubs (planned.Rollup limit) = made_last pubs (rolled limit (last_or None pubs))
  act_last pubs (planned.Refresh delim path file) = made_last pubs (grafted path _ (last_or None pubs))
  act_last pubs (planned.Ask lane search) = refl

  pub pubs_made : (pubs : List Publication) (phase : List PlannedAct) → (pubs_from files pubs phase ≡ pubs ++ made command_outcome (last_or None pubs) (loaded_phase files phase))
      × (last_or None (pubs_from files pubs phase) ≡ last_of_acts command_outcome (last_or None pubs) (loaded_phase files phase))
  unfolding made last_of_acts
  pubs_made pubs [] = (sym (append-nil pubs), refl)
  pubs_made pubs (act ∷ acts) =
      let now = with_published pubs (outcome files pubs act) in let last = last_or None pubs in
      let rest = pubs_made now acts in
      let own = news_of command_outcome last (loaded files act) in
      let behind = made command_outcome (last_after command_outcome last (loaded files act)) (loaded_phase files acts) in (
        rest.0 ∙ (ap (λ o. now ++ made command_outcome o (loaded_phase files acts)) (act_last pubs act) ∙ (ap (λ l. l ++ behind) (act_news pubs act) ∙ append_assoc pubs own behind)),
        rest.1 ∙ ap (λ o. last_of_acts command_outcome o (loaded_phase files acts)) (act_last pubs act),
      )

  -- a command's line, and the text behind it
  command_text : (all : List Publication) (k i : ℕ) (pubs : List Publication) (numbers : List ℕ) (command : Publishing) (act : PlannedAct) (rest : List LoadedAct) (o : Published) (line_text text : List ℕ)
      → with_published pubs o ≡ pubs ++ phases_of.news (command_outcome command (last_or None pubs))
      → last_or None (with_published pubs o) ≡ phases_of.last_behind (last_or None pubs) (command_outcome command (last_or None pubs))
      → command_line command k (phases_of.numbered (length pubs) (command_outcome command (last_or None pubs))) ≡ line_text
      → acts_text search_reply all i numbers (command_lines command_outcome command_line (k + 1) (length (with_published pubs o)) (last_or None (with_published pubs o)) rest) rest ≡ text
      → acts_text search_reply all i numbers (command_lines command_outcome command_line k (length pubs) (last_or None pubs) (acts.Publish command ∷ rest)) (acts.Publish command ∷ rest) ≡ line_text ++ text
  unfolding acts_text command_lines
  command_text all k i pubs numbers command act rest o line_text text added ends line_is behind =
      let last = last_or None pubs in let now = with_published pubs o in let news = phases_of.news (command_outcome command last) in
      let next = phases_of.last_behind last (command_outcome command last) in
      let none : i + 0 ≡ i = omega arith in
      let counted : length pubs + length news ≡ length now = sym (ap (λ l. length l) added ∙ length-append pubs news) in
      let tail = λ (j c : ℕ) (l : Option Publication). acts_text search_reply all j numbers (command_lines command_outcome command_line (k + 1) c l rest) rest in
      let moved : tail (i + 0) (length pubs + length news) next ≡ text = ap (λ j. tail j (length pubs + length news) next) none ∙ (ap (λ c. tail i c next) counted ∙ (ap (λ l. tail i (length now) l) (sym ends) ∙ behind)) in
      ap (λ x. x ++ tail (i + 0) (length pubs + length news) next) line_is ∙ ap (λ x. line_text ++ x) moved

  pub text_same : (all : List Publication) (k i : ℕ) (pubs : List Publication) (numbers : List ℕ) (phase : List PlannedAct)
      → acts_text search_reply all i numbers (command_lines command_outcome command_line k (length pubs) (last_or None pubs) (loaded_phase files phase)) (loaded_phase files phase) ≡ text_from files all k i pubs numbers phase
  unfolding acts_text command_lines
  text_same all k i pubs numbers [] = refl
  text_same all k i pubs numbers (planned.Ask lane search ∷ acts) =
      let asking : Asking = record { search = search } in
      let n = slice_index_or numbers 0 0 in let last = last_or None pubs in let rest = loaded_phase files acts in
      let no_command : k + 0 ≡ k = omega arith in let no_news : length pubs + 0 ≡ length pubs = omega arith in
      ap (λ o. search_reply asking i n o ++ acts_text search_reply all (i + 1) (drop 1 numbers) (command_lines command_outcome command_line (k + 0) (length pubs + 0) last rest) rest) (sym (at_same all n))
      ∙ ap (λ x. search_reply asking i n (publication_at all n) ++ acts_text search_reply all (i + 1) (drop 1 numbers) (command_lines command_outcome command_line x (length pubs + 0) last rest) rest) no_command
      ∙ ap (λ x. search_reply asking i n (publication_at all n) ++ acts_text search_reply all (i + 1) (drop 1 numbers) (command_lines command_outcome command_line k x last rest) rest) no_news
      ∙ ap (λ x. search_reply asking i n (publication_at all n) ++ x) (text_same all k (i + 1) pubs (drop 1 numbers) acts)
  text_same all k i pubs numbers (planned.Publish delim limit file ∷ acts) =
      command_text all k i pubs numbers (Publish delim limit (bytes_of files file)) (planned.Publish delim limit file) (loaded_phase files acts) (outcome files pubs (planned.Publish delim limit file)) _ _ (act_news pubs (planned.Publish delim limit file)) (act_last pubs (planned.Publish delim limit file)) (told_line pubs k (Publish delim limit (bytes_of files file)) _ (published_told limit (trace_means delim (bytes_of files file))))
      (text_same all (k + 1) i (with_published pubs (outcome files pubs (planned.Publish delim limit file))) numbers acts)
  text_same all k i pubs numbers (planned.Rollup limit ∷ acts) =
      command_text all k i pubs numbers (Rollup limit) (planned.Rollup limit) (loaded_phase files acts) (outcome files pubs (planned.Rollup limit)) _ _ (act_news pubs (planned.Rollup limit)) (act_last pubs (planned.Rollup limit)) (told_line pubs k (Rollup limit) _ (rolled_told limit (last_or None pubs)))
      (text_same all (k + 1) i (with_published pubs (outcome files pubs (planned.Rollup limit))) numbers acts)
  text_same all k i pubs numbers (planned.Refresh delim path file ∷ acts) =
      command_text all k i pubs numbers (Refresh delim path (bytes_of files file)) (planned.Refresh delim path file) (loaded_phase files acts) (outcome files pubs (planned.Refresh delim path file)) _ _ (act_news pubs (planned.Refresh delim path file)) (act_last pubs (planned.Refresh delim path file)) (told_line pubs k (Refresh delim path (bytes_of files file)) _ (grafted_told path (trace_means delim (bytes_of files file)) (last_or None pubs)))
      (text_same all (k + 1) i (with_published pubs (outcome files pubs (planned.Refresh delim path file))) numbers acts)

  -- phases: the numbers fit, and the text is the script's
  pub session_same : (phases : List (List PlannedAct)) (pubs : List Publication) (k i : ℕ) (numbers text : List ℕ)
      → IsSession command_outcome command_line search_reply pubs (last_or None pubs) k i (map (loaded_phase files) phases) numbers text
      → (phases_fit files pubs phases numbers ≡ true) × (text ≡ phases_text files k i pubs phases numbers)
  unfolding IsSession phases_text
  session_same [] pubs k i numbers text is = (ap is_empty is.0, is.1)
  session_same (phase ∷ phases) pubs k i numbers text (own, later, begin, rest, ns, ts, fit, told, behind) =
      let acts_now = loaded_phase files phase in let last = last_or None pubs in let after = pubs_from files pubs phase in
      let now = pubs ++ made command_outcome last acts_now in
      let is_now : after ≡ now = (pubs_made pubs phase).0 in let ends : last_or None after ≡ last_of_acts command_outcome last acts_now = (pubs_made pubs phase).1 in
      let count : ℕ = length (lanes phase) in
      let fits : NumbersFit (length pubs) (length after) (lanes phase) own = subst (λ l. NumbersFit (length pubs) (length after) l own) (sym (lanes_same files phase)) (subst (λ l. NumbersFit (length pubs) (length l) (phases_of.lanes acts_now) own) (sym is_now) fit) in
      let long : length own ≡ count = as_many (length pubs) (length after) (lanes phase) own fits in
      let first : take count numbers ≡ own = ap (take count) ns ∙ take_at own later count long in
      let others : drop count numbers ≡ later = ap (drop count) ns ∙ drop_at own later count long in
      let further : IsSession command_outcome command_line search_reply after (last_or None after) (k + count_by (λ act. not (is_ask act)) phase) (i + count) (map (loaded_phase files) phases) later rest =
      subst (λ x. IsSession command_outcome command_line search_reply after (last_or None after) (k + count_by (λ act. not (is_ask act)) phase) x (map (loaded_phase files) phases) later rest) (ap (λ n. i + n) (sym (asks_same files phase)))
      (subst (λ x. IsSession command_outcome command_line search_reply after (last_or None after) x (i + ask_count acts_now) (map (loaded_phase files) phases) later rest) (ap (λ n. k + n) (sym (commands_same files phase)))
      (subst (λ x. IsSession command_outcome command_line search_reply after x (k + command_count acts_now) (i + ask_count acts_now) (map (loaded_phase files) phases) later rest) (sym ends)
      (subst (λ x. IsSession command_outcome command_line search_reply x (last_of_acts command_outcome last acts_now) (k + command_count acts_now) (i + ask_count acts_now) (map (loaded_phase files) phases) later rest) (sym is_now) behind))) in
      let all = session_same phases after (k + count_by (λ act. not (is_ask act)) phase) (i + count) later rest further in
      let here : begin ≡ text_from files after k i pubs own phase =
      told ∙ (ap (λ l. acts_text search_reply l i own (command_lines command_outcome command_line k (length pubs) last acts_now) acts_now) (sym is_now) ∙ text_same after k i pubs own phase) in (
        and_from (phase_fits (length pubs) (length after) (lanes phase) (take count numbers)) (phases_fit files after phases (drop count numbers))
            (ap (λ l. phase_fits (length pubs) (length after) (lanes phase) l) first ∙ numbers_fit (length pubs) (length after) (lanes phase) own fits)
            (ap (λ l. phases_fit files after phases l) others ∙ all.0),
        ts ∙ (ap (λ x. x ++ rest) here ∙ (ap (λ l. text_from files after k i pubs l phase ++ rest) (sym first)
            ∙ ap (λ x. text_from files after k i pubs (take count numbers) phase ++ x) (all.1 ∙ ap (λ l. phases_text files (k + count_by (λ act. not (is_ask act)) phase) (i + count) after phases l) (sym others)))),
      )

-- the first phases of a run are answered
pub answered : (files : Files) (run : Run) (count : ℕ) (numbers text : List ℕ) → count ≤ length run.plan
    → IsSession command_outcome command_line search_reply [] None 1 1 (map (loaded_phase files) (take count run.plan)) numbers text → Answered files run count numbers text
unfolding fits session_text
answered files run count numbers text within is =
    let same = session_same files (take count run.plan) [] 1 1 numbers text is in
    record { within = within; fit = same.0; written = same.1 }
