-- Lemmas on commands with a USER and a START.
use Rattle.std.proofs.Common.{◌≡◌, ℕ, List, refl}
use Rattle.std.specs.Prelude.{Option, Result, Ok, Err, IfErr}
use Rattle.gufi_io.specs.Files.{Files}
use Rattle.gufi_base.specs.Basics.{◌>>=◌, result_map_err}
use Rattle.gufi_access.specs.declared.class.Principal.{Principal}
use Rattle.gufi_tree.specs.Tree.{Directory}
use Rattle.gufi_snap.specs.Snap.{Snap}
use Rattle.gufi_users.specs.Entries.{UserTables}
use Rattle.gufi_words.specs.declared.command.Common.{Common}
use Rattle.gufi_top.specs.Reasons.{Reason, select_reason, tables_in, index_in}
use Rattle.gufi_top.specs.Verdict.{Asking, asked, asked_if, user_in, asked_by, index_over, ask_over, written_in, AskMayRefuse}
use Rattle.gufi_find.specs.Expressions.{Find}
use Rattle.gufi_select.specs.declared.fault.SelectError.{SelectError}
use Rattle.gufi_select.specs.Columns.{Select}
use Rattle.gufi_forms.specs.declared.form.Form.{Form}
use Rattle.gufi_agg.specs.Aggs.{Agg}
use Rattle.gufi_base.specs.Paths.{Components}
use Rattle.gufi_ask.specs.Asks.{Ask, find_ask, usage_ask, query_ask, agg_ask}
use Rattle.gufi_top.specs.Calls.{Gives, GivesOver, IsPastWords, OfWordsOnlyBy}
use Rattle.gufi_top.specs.Views.{text_view}
use Rattle.gufi_top.specs.declared.halt.Output.{Output}
use Rattle.gufi_top.specs.declared.halt.Halt.{Halt}
use Rattle.gufi_top.specs.declared.halt.Halt.TheVariants as halts
use Rattle.gufi_top.proofs.StepLemmas.{over_ok, over_err, given_over}

-- ---- the principal, and then the snapshot

pub by_ok : (common : Common) (asking : Asking) (tables : UserTables) (snap : Snap) (who : Principal) (r : Result Output Halt)
    → Gives {A = Principal} (λ w. w) (Ok who) (user_in common tables) → Gives text_view r (asked_if snap.tree who common.start (asking tables)) → Gives text_view r (asked_by common asking tables snap)
by_ok common asking tables snap who r read given = rw read given

pub by_err : (common : Common) (asking : Asking) (tables : UserTables) (snap : Snap) (e : Halt)
    → Gives {A = Principal} (λ w. w) (Err e) (user_in common tables) → Gives text_view (Err e) (asked_by common asking tables snap)
by_err common asking tables snap (halts.Refused status note) read = rw read refl
by_err common asking tables snap halts.ReadFault read = tt
by_err common asking tables snap halts.Memory read = tt

pub ruleset users = (by_ok, by_err)

-- ---- the query words, and then the rows

module _ {A : Type 0} (ask_of : A → Ask) where
  query_ok : (tree : List Directory) (who : Principal) (start : Components) (read : Result A Reason) (query : A) (r : Result Output Halt)
      → Gives {A = A} (λ q. q) (Ok query) read → Gives text_view r (asked tree who start (ask_of query))
      → Gives text_view r (asked_if tree who start (read >>= λ q. Ok (ask_of q)))
  query_ok tree who start read query r is given = rw is given

  query_err : (tree : List Directory) (who : Principal) (start : Components) (read : Result A Reason) (e : Halt)
      → Gives {A = A} (λ q. q) (Err e) read → Gives text_view (Err e) (asked_if tree who start (read >>= λ q. Ok (ask_of q)))
  query_err tree who start read (halts.Refused status note) is = rw is refl
  query_err tree who start read halts.ReadFault is = tt
  query_err tree who start read halts.Memory is = tt

pub expression_ok : (prefix : Option (List ℕ)) (tree : List Directory) (who : Principal) (start : Components) (read : Result Find Reason) (expression : Find) (r : Result Output Halt)
    → Gives {A = Find} (λ f. f) (Ok expression) read → Gives text_view r (asked tree who start (find_ask prefix expression))
    → Gives text_view r (asked_if tree who start (read >>= λ f. Ok (find_ask prefix f)))
expression_ok prefix = query_ok (find_ask prefix)

pub expression_err : (prefix : Option (List ℕ)) (tree : List Directory) (who : Principal) (start : Components) (read : Result Find Reason) (e : Halt)
    → Gives {A = Find} (λ f. f) (Err e) read → Gives text_view (Err e) (asked_if tree who start (read >>= λ f. Ok (find_ask prefix f)))
expression_err prefix = query_err (find_ask prefix)

pub ruleset expressions = (expression_ok, expression_err)

pub usages_ok : (depth : ℕ) (tree : List Directory) (who : Principal) (start : Components) (read : Result Find Reason) (expression : Find) (r : Result Output Halt)
    → Gives {A = Find} (λ f. f) (Ok expression) read → Gives text_view r (asked tree who start (usage_ask depth expression))
    → Gives text_view r (asked_if tree who start (read >>= λ f. Ok (usage_ask depth f)))
usages_ok depth = query_ok (usage_ask depth)

pub usages_err : (depth : ℕ) (tree : List Directory) (who : Principal) (start : Components) (read : Result Find Reason) (e : Halt)
    → Gives {A = Find} (λ f. f) (Err e) read → Gives text_view (Err e) (asked_if tree who start (read >>= λ f. Ok (usage_ask depth f)))
usages_err depth = query_err (usage_ask depth)

pub ruleset usages = (usages_ok, usages_err)

-- a SELECT that is read, and then taken in a form
pub select_read : (read : Result Select SelectError) (select : Select) (user_at : ℕ) (form : Form) (r : Result Select Halt)
    → read ≡ Ok select → Gives {A = Select} (λ s. s) r (written_in user_at form select)
    → Gives {A = Select} (λ s. s) r (result_map_err (select_reason user_at) read >>= written_in user_at form)
select_read read select user_at form r is given = rw is given

pub select_ok : (form : Form) (tree : List Directory) (who : Principal) (start : Components) (read : Result Select Reason) (select : Select) (r : Result Output Halt)
    → Gives {A = Select} (λ s. s) (Ok select) read → Gives text_view r (asked tree who start (query_ask form select))
    → Gives text_view r (asked_if tree who start (read >>= λ s. Ok (query_ask form s)))
select_ok form = query_ok (query_ask form)

pub select_err : (form : Form) (tree : List Directory) (who : Principal) (start : Components) (read : Result Select Reason) (e : Halt)
    → Gives {A = Select} (λ s. s) (Err e) read → Gives text_view (Err e) (asked_if tree who start (read >>= λ s. Ok (query_ask form s)))
select_err form = query_err (query_ask form)

pub ruleset selects = (select_ok, select_err)

pub agg_ok : (names : Option UserTables) (tree : List Directory) (who : Principal) (start : Components) (read : Result Agg Reason) (agg : Agg) (r : Result Output Halt)
    → Gives {A = Agg} (λ a. a) (Ok agg) read → Gives text_view r (asked tree who start (agg_ask names agg))
    → Gives text_view r (asked_if tree who start (read >>= λ a. Ok (agg_ask names a)))
agg_ok names = query_ok (agg_ask names)

pub agg_err : (names : Option UserTables) (tree : List Directory) (who : Principal) (start : Components) (read : Result Agg Reason) (e : Halt)
    → Gives {A = Agg} (λ a. a) (Err e) read → Gives text_view (Err e) (asked_if tree who start (read >>= λ a. Ok (agg_ask names a)))
agg_err names = query_err (agg_ask names)

pub ruleset aggs = (agg_ok, agg_err)

-- ---- the index's file, and then the principal

pub index_ok : (told : Option Files) (common : Common) (asking : Asking) (tables : UserTables) (snap : Snap) (r : Result Output Halt)
    → GivesOver {A = Snap} told (λ s. s) (Ok snap) (index_in common.delim common.limit common.index) → Gives text_view r (asked_by common asking tables snap) → GivesOver told text_view r (index_over common asking tables)
unfolding index_over
index_ok told common asking tables snap r read given =
    over_ok told (λ s. s) text_view snap r (index_in common.delim common.limit common.index) (λ s files. asked_by common asking tables s) read (given_over told text_view r _ given)

pub index_err : (told : Option Files) (common : Common) (asking : Asking) (tables : UserTables) (e : Halt)
    → GivesOver {A = Snap} told (λ s. s) (Err e) (index_in common.delim common.limit common.index) → GivesOver told text_view (Err e) (index_over common asking tables)
unfolding index_over
index_err told common asking tables e read = over_err told (λ s. s) text_view e (index_in common.delim common.limit common.index) (λ s files. asked_by common asking tables s) read

pub ruleset indexes = (index_ok, index_err)

-- ---- the files of users, and then the index

pub ask_ok : (told : Option Files) (common : Common) (asking : Asking) (tables : UserTables) (r : Result Output Halt)
    → GivesOver {A = UserTables} told (λ t. t) (Ok tables) (tables_in common.passwd common.group) → GivesOver told text_view r (index_over common asking tables) → GivesOver told text_view r (ask_over common asking)
unfolding ask_over
ask_ok told common asking tables r read given = over_ok told (λ t. t) text_view tables r (tables_in common.passwd common.group) (λ t files. index_over common asking t files) read given

pub ask_err : (told : Option Files) (common : Common) (asking : Asking) (e : Halt)
    → GivesOver {A = UserTables} told (λ t. t) (Err e) (tables_in common.passwd common.group) → GivesOver told text_view (Err e) (ask_over common asking)
unfolding ask_over
ask_err told common asking e read = over_err told (λ t. t) text_view e (tables_in common.passwd common.group) (λ t files. index_over common asking t files) read

pub ruleset asks = (ask_ok, ask_err)

-- ---- refusals of the words

pub asked_refusal : (common : Common) (asking : Asking) (tables : UserTables) (snap : Snap) (r : Result Output Halt) → Gives text_view r (asked_by common asking tables snap)
    → IfErr r (OfWordsOnlyBy (AskMayRefuse common asking))
asked_refusal common asking tables snap (Ok output) is = tt
asked_refusal common asking tables snap (Err (halts.Refused status note)) is = λ of_words. (tables, snap, is)
asked_refusal common asking tables snap (Err halts.ReadFault) is = tt
asked_refusal common asking tables snap (Err halts.Memory) is = tt

pub past_words : (P : Reason → Type 0) (e : Halt) → IsPastWords e → OfWordsOnlyBy P e
past_words P (halts.Refused status note) past = λ of_words. absurd (past of_words)
past_words P halts.ReadFault past = tt
past_words P halts.Memory past = tt

pub none_past_words : (P : Reason → Type 0) (r : Result Output Halt) → IfErr r IsPastWords → IfErr r (OfWordsOnlyBy P)
none_past_words P (Ok output) past = tt
none_past_words P (Err e) past = past_words P e past

pub ruleset refusals = (asked_refusal, past_words, none_past_words)
