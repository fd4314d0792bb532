-- Lemmas on what changed from one index to another.
use Rattle.std.proofs.Common.{◌≡◌, ◌≢◌, ℕ, true, List, refl, sym, ap, ◌∙◌}
use Rattle.std.specs.Prelude.{Option, Some, Result, Ok, Err, IfErr, ok_or}
use Rattle.gufi_io.specs.Files.{Files}
use Rattle.gufi_base.specs.declared.record.Row.{Row}
use Rattle.gufi_base.specs.Basics.{◌>>=◌, result_map_err, GivesUnless}
use Rattle.gufi_base.specs.Paths.{Components}
use Rattle.gufi_access.specs.declared.class.Principal.{Principal}
use Rattle.gufi_tree.specs.Tree.{Directory}
use Rattle.gufi_tree.specs.Resolve.{resolve, is_found}
use Rattle.gufi_snap.specs.Snap.{Snap}
use Rattle.gufi_users.specs.Entries.{UserTables}
use Rattle.gufi_users.specs.Users.{principal_of}
use Rattle.gufi_walk.specs.declared.refusal.Refusal.{Refusal}
use Rattle.gufi_walk.specs.declared.refusal.Refusal.TheVariants as refusals
use Rattle.gufi_walk.specs.Answer.{Alike, answer, listed_rows, reply_rows, rows_or}
use Rattle.gufi_walk.proofs.Isolation.{alike_replies}
use Rattle.gufi_diff.specs.Changes.{diff_lines}
use Rattle.gufi_words.specs.declared.command.Common.{Common}
use Rattle.gufi_top.specs.Reasons.{Reason, start_reason, word_refused, tables_in, index_in}
use Rattle.gufi_top.specs.Verdict.{writes_only, user_in, listed_for, listed_by, listed_in, diff_from, diff_by, diff_over, command_over, DiffMayRefuse}
use Rattle.gufi_top.specs.Complete.{DiffIsAnswerable}
use Rattle.gufi_top.specs.Laws.{DiffWritesTheChanges, DiffsArePrivate}
use Rattle.gufi_top.specs.Calls.{Gives, GivesOver, OfWordsOnlyBy}
use Rattle.gufi_top.specs.Views.{text_view}
use Rattle.gufi_top.specs.declared.halt.Output.{Output}
use Rattle.gufi_top.specs.declared.halt.Halt.{Halt}
use Rattle.gufi_top.specs.declared.halt.Halt.TheVariants as halts
use Rattle.gufi_top.proofs.GenLemmas.{none_refused}
use Rattle.gufi_top.proofs.ListedTexts.{filter_all, verdict_of}
use Rattle.gufi_top.proofs.ReadingLemmas.{given_as}
use Rattle.gufi_top.proofs.SearchLemmas.{none_past_words, past_words}
use Rattle.gufi_top.proofs.StepLemmas.{over_ok, over_err, given_over}

-- ---- the start

pub list_ok : (tree : List Directory) (who : Principal) (start : Components) (rows : List Row) → GivesUnless refusals.Memory (Ok rows) (reply_rows tree who start (λ row depth. true))
    → Gives {A = List Row} (λ r. r) (Ok rows) (listed_for tree who start)
list_ok tree who start rows is = ap (result_map_err start_reason) is

refused_as : (refusal : Refusal) (r : Result (List Row) Halt) (given : Result (List Row) Refusal) → given ≡ Err refusal
    → Gives {A = List Row} (λ x. x) r (Err (start_reason refusal)) → Gives {A = List Row} (λ x. x) r (result_map_err start_reason given)
refused_as refusal r given is reason = given_as (λ x. x) r (start_reason refusal) _ reason (ap (result_map_err start_reason) is)

pub list_err : (tree : List Directory) (who : Principal) (start : Components) (refusal : Refusal) (r : Result (List Row) Halt)
    → GivesUnless refusals.Memory (Err refusal) (reply_rows tree who start (λ row depth. true)) → (refusal ≢ refusals.Memory → Gives {A = List Row} (λ x. x) r (Err (start_reason refusal)))
    → (refusal ≡ refusals.Memory → r ≡ Err halts.Memory) → Gives {A = List Row} (λ x. x) r (listed_for tree who start)
list_err tree who start (refusals.Denied depth class) r is reason memory = refused_as _ r _ (is (λ e. cc)) (reason (λ e. cc))
list_err tree who start (refusals.NoSuch depth) r is reason memory = refused_as _ r _ (is (λ e. cc)) (reason (λ e. cc))
list_err tree who start (refusals.NotDir depth) r is reason memory = refused_as _ r _ (is (λ e. cc)) (reason (λ e. cc))
list_err tree who start refusals.Memory r is reason memory = rw (memory refl) tt

pub ruleset starts = (list_ok, list_err)

-- ---- the principal, and then the start

pub by_ok : (common : Common) (tables : UserTables) (snap : Snap) (who : Principal) (r : Result (List Row) Halt)
    → Gives {A = Principal} (λ w. w) (Ok who) (user_in common tables) → Gives {A = List Row} (λ x. x) r (listed_for snap.tree who common.start)
    → Gives {A = List Row} (λ x. x) r (listed_by common tables snap)
by_ok common tables snap who r read given = rw read given

pub by_err : (common : Common) (tables : UserTables) (snap : Snap) (e : Halt) → Gives {A = Principal} (λ w. w) (Err e) (user_in common tables)
    → Gives {A = List Row} (λ x. x) (Err e) (listed_by common tables snap)
by_err common tables snap (halts.Refused status note) read = rw read refl
by_err common tables snap halts.ReadFault read = tt
by_err common tables snap halts.Memory read = tt

pub ruleset users = (by_ok, by_err)

-- ---- the index's file, and then the principal

module _ (told : Option Files) (common : Common) (tables : UserTables) (index : List ℕ) where
  pub listed_ok : (snap : Snap) (r : Result (List Row) Halt) → GivesOver {A = Snap} told (λ s. s) (Ok snap) (index_in common.delim common.limit index)
      → Gives {A = List Row} (λ x. x) r (listed_by common tables snap) → GivesOver {A = List Row} told (λ x. x) r (listed_in common tables index)
  unfolding listed_in
  listed_ok snap r read given =
      over_ok told (λ s. s) (λ x. x) snap r (index_in common.delim common.limit index) (λ s files. listed_by common tables s) read (given_over told (λ x. x) r _ given)

  pub listed_err : (e : Halt) → GivesOver {A = Snap} told (λ s. s) (Err e) (index_in common.delim common.limit index)
      → GivesOver {A = List Row} told (λ x. x) (Err e) (listed_in common tables index)
  unfolding listed_in
  listed_err e read = over_err told (λ s. s) (λ x. x) e (index_in common.delim common.limit index) (λ s files. listed_by common tables s) read

pub listed_refusal : (common : Common) (tables : UserTables) (snap : Snap) (r : Result (List Row) Halt) → Gives {A = List Row} (λ x. x) r (listed_by common tables snap)
    → IfErr r (OfWordsOnlyBy (DiffMayRefuse common))
listed_refusal common tables snap (Ok rows) is = tt
listed_refusal common tables snap (Err (halts.Refused status note)) is = λ of_words. (tables, snap, is)
listed_refusal common tables snap (Err halts.ReadFault) is = tt
listed_refusal common tables snap (Err halts.Memory) is = tt

pub ruleset files = (listed_ok, listed_err, listed_refusal, past_words)

-- ---- the files of users, the old index, and then the new one

module _ (told : Option Files) (common : Common) (tables : UserTables) where
  pub from_ok : (old new : List Row) (r : Result Output Halt) → GivesOver {A = List Row} told (λ x. x) (Ok new) (listed_in common tables common.index)
      → Gives text_view r (writes_only (diff_lines old new)) → GivesOver told text_view r (diff_from old common tables)
  unfolding diff_from
  from_ok old new r read given =
      over_ok told (λ x. x) text_view new r (listed_in common tables common.index) (λ rows files. writes_only (diff_lines old rows)) read (given_over told text_view r _ given)

  pub from_err : (old : List Row) (e : Halt) → GivesOver {A = List Row} told (λ x. x) (Err e) (listed_in common tables common.index)
      → GivesOver told text_view (Err e) (diff_from old common tables)
  unfolding diff_from
  from_err old e read = over_err told (λ x. x) text_view e (listed_in common tables common.index) (λ rows files. writes_only (diff_lines old rows)) read

  pub both_ok : (old : List ℕ) (rows : List Row) (r : Result Output Halt) → GivesOver {A = List Row} told (λ x. x) (Ok rows) (listed_in common tables old)
      → GivesOver told text_view r (diff_from rows common tables) → GivesOver told text_view r (diff_by old common tables)
  unfolding diff_by
  both_ok old rows r read given = over_ok told (λ x. x) text_view rows r (listed_in common tables old) (λ l files. diff_from l common tables files) read given

  pub both_err : (old : List ℕ) (e : Halt) → GivesOver {A = List Row} told (λ x. x) (Err e) (listed_in common tables old)
      → GivesOver told text_view (Err e) (diff_by old common tables)
  unfolding diff_by
  both_err old e read = over_err told (λ x. x) text_view e (listed_in common tables old) (λ l files. diff_from l common tables files) read

  pub diff_ok : (old : List ℕ) (r : Result Output Halt) → GivesOver {A = UserTables} told (λ t. t) (Ok tables) (tables_in common.passwd common.group)
      → GivesOver told text_view r (diff_by old common tables) → GivesOver told text_view r (diff_over old common)
  unfolding diff_over
  diff_ok old r read given = over_ok told (λ t. t) text_view tables r (tables_in common.passwd common.group) (λ t files. diff_by old common t files) read given

pub diff_err : (told : Option Files) (old : List ℕ) (common : Common) (e : Halt) → GivesOver {A = UserTables} told (λ t. t) (Err e) (tables_in common.passwd common.group)
    → GivesOver told text_view (Err e) (diff_over old common)
unfolding diff_over
diff_err told old common e read = over_err told (λ t. t) text_view e (tables_in common.passwd common.group) (λ t files. diff_by old common t files) read

pub ruleset changes = (from_ok, from_err, both_ok, both_err, diff_ok, diff_err, none_past_words, past_words)

-- ---- what is written where nothing is refused

-- where the index is read and USER is known
listed_to : (common : Common) (tables : UserTables) (index : List ℕ) (files : Files) (snap : Snap) (who : Principal)
    → index_in common.delim common.limit index files ≡ Ok snap → principal_of tables common.user ≡ Some who → listed_in common tables index files ≡ listed_for snap.tree who common.start
unfolding listed_in user_in
listed_to common tables index files snap who means named =
    ap (λ (r : Result Snap Reason). r >>= listed_by common tables) means
    ∙ ap (λ (r : Option Principal). ok_or r (word_refused common.user_at) >>= λ w. listed_for snap.tree w common.start) named

found_rows : (tree : List Directory) (who : Principal) (start : Components) → is_found (resolve tree who start) ≡ true → listed_for tree who start ≡ Ok (listed_rows tree who start)
unfolding answer
found_rows tree who start found =
    ap (λ (o : Option Refusal). result_map_err start_reason (rows_or o (answer tree who start (λ row depth. true)))) (none_refused (resolve tree who start) found)
    ∙ ap Ok (filter_all (listed_rows tree who start))

pub diff_text : (old : List ℕ) (common : Common) (files : Files) (can : DiffIsAnswerable old common files)
    → diff_over old common files ≡ writes_only (diff_lines (listed_rows can.before.tree can.who common.start) (listed_rows can.after.tree can.who common.start))
unfolding diff_over diff_by diff_from
diff_text old common files can =
    let before : List Row = listed_rows can.before.tree can.who common.start in
    ap (λ (r : Result UserTables Reason). r >>= λ tables. diff_by old common tables files) can.users
    ∙ ap (λ (r : Result (List Row) Reason). r >>= λ rows. diff_from rows common can.tables files)
    (listed_to common can.tables old files can.before can.who can.first can.user ∙ found_rows can.before.tree can.who common.start can.found)
    ∙ ap (λ (r : Result (List Row) Reason). r >>= λ rows. writes_only (diff_lines before rows))
    (listed_to common can.tables common.index files can.after can.who can.second can.user ∙ found_rows can.after.tree can.who common.start can.found_again)

pub diff_writes : DiffWritesTheChanges
unfolding command_over
diff_writes words files old common tables before after who are users first second named found found_again =
    verdict_of words files _ are
    ∙ diff_text old common files (record {
      tables = tables;
      before = before;
      after = after;
      who = who;
      users = users;
      first = first;
      second = second;
      user = named;
      found = found;
      found_again = found_again;
    })

-- ---- one who can't tell two trees apart

listed_alike : (common : Common) (tables : UserTables) (index : List ℕ) (files others : Files) (snap other : Snap) (who : Principal) → principal_of tables common.user ≡ Some who
    → index_in common.delim common.limit index files ≡ Ok snap → index_in common.delim common.limit index others ≡ Ok other → Alike snap.tree other.tree who common.start
    → listed_in common tables index files ≡ listed_in common tables index others
listed_alike common tables index files others snap other who named means means' alike =
    listed_to common tables index files snap who means named
    ∙ ap (result_map_err start_reason) (alike_replies snap.tree other.tree who common.start alike (λ row depth. true))
    ∙ sym (listed_to common tables index others other who means' named)

by_alike : (old : List ℕ) (common : Common) (tables : UserTables) (files others : Files) → listed_in common tables old files ≡ listed_in common tables old others
    → listed_in common tables common.index files ≡ listed_in common tables common.index others → diff_by old common tables files ≡ diff_by old common tables others
unfolding diff_by diff_from
by_alike old common tables files others first second = λ i. first i >>= λ rows. second i >>= λ new. writes_only (diff_lines rows new)

pub diffs_private : DiffsArePrivate
unfolding command_over diff_over
diffs_private old common files others tables before after before' after' who users users' named first second first' second' alike alike' =
    ap (λ (r : Result UserTables Reason). r >>= λ t. diff_by old common t files) users
    ∙ by_alike old common tables files others (listed_alike common tables old files others before before' who named first first' alike)
    (listed_alike common tables common.index files others after after' who named second second' alike')
    ∙ sym (ap (λ (r : Result UserTables Reason). r >>= λ t. diff_by old common t others) users')
