-- Searches of one setting whose asks have the same bytes have the same query.
use Rattle.std.proofs.Common.{◌≡◌, ℕ, suc, List, [], ◌∷◌, ◌++◌, refl, sym, ap, ◌∙◌, subst, append_assoc, arith}
use Rattle.std.specs.Prelude.{Option, Some, None, Result, Ok, Err, ok_or}
use Rattle.std.specs.List.{All}
use Rattle.std.proofs.lemmas.List.Elements.{All-nil, All-cons, All-append, All-contains}
use Rattle.gufi_base.specs.Basics.{result_map_err, ◌>>=◌}
use Rattle.gufi_base.specs.Paths.{Components}
use Rattle.gufi_users.specs.Users.{principal_of}
use Rattle.gufi_access.specs.declared.class.Principal.{Principal}
use Rattle.gufi_script.specs.declared.fault.ScriptKind.{ScriptKind}
use Rattle.gufi_script.specs.declared.fault.ScriptKind.TheVariants as kinds
use Rattle.gufi_script.specs.declared.fault.ScriptError.TheVariants.{Fault}
use Rattle.gufi_script.specs.declared.act.Form.{Form}
use Rattle.gufi_script.specs.declared.act.Form.TheVariants as forms
use Rattle.gufi_script.specs.declared.act.Act.{Act}
use Rattle.gufi_script.specs.declared.act.Act.TheVariants as acts
use Rattle.gufi_script.specs.ScriptText.{PlacedAct}
use Rattle.gufi_cache.specs.Asks.{ask_bytes}
use Rattle.gufi_cache.proofs.Telling.{ask_told}
use Rattle.gufi_plan.specs.declared.search.Query.{Query}
use Rattle.gufi_plan.specs.declared.search.Search.{Search}
use Rattle.gufi_plan.specs.declared.act.PlannedAct.{PlannedAct}
use Rattle.gufi_plan.specs.declared.act.PlannedAct.TheVariants.{Publish, Rollup, Refresh, Ask}
use Rattle.gufi_plan.specs.Plan.{Setting, Plan, letter_of, query_of, search_of, planned_act, with_act, plan}
use Rattle.gufi_plan.proofs.PlanLemmas.{mapped_ok}
use Rattle.gufi_plan.specs.Asks.{search_in, searches_in, searches_of, AsksTell, AreShort, HasShortWords}

-- a step that goes on, and what it goes on with
pub went_on : {A B E : Type 0} (given : Result A E) (next : A → Result B E) (y : B) → (given >>= next) ≡ Ok y → (x : A) × (given ≡ Ok x) × (next x ≡ Ok y)
went_on (Ok x) next y e = (x, refl, e)
went_on (Err fault) next y e = absurd cc

-- a search whose query is that of short words of a form, and whose bytes are those of the two
record IsRead (setting : Setting) (search : Search) : Type 0 where
  form : Form
  words : List (List ℕ)
  short : AreShort words
  query : query_of setting form words ≡ Ok search.query
  ask : search.ask ≡ ask_bytes (letter_of form) words

letter_told : (form other : Form) → letter_of form ≡ letter_of other → form ≡ other
letter_told forms.Find forms.Find e = refl
letter_told forms.Find forms.Total e = absurd (omega (arith, e))
letter_told forms.Find forms.Query e = absurd (omega (arith, e))
letter_told forms.Total forms.Find e = absurd (omega (arith, e))
letter_told forms.Total forms.Total e = refl
letter_told forms.Total forms.Query e = absurd (omega (arith, e))
letter_told forms.Query forms.Find e = absurd (omega (arith, e))
letter_told forms.Query forms.Total e = absurd (omega (arith, e))
letter_told forms.Query forms.Query e = refl

-- the bytes tell the query
query_told : (setting : Setting) (one other : Search) → IsRead setting one → IsRead setting other → one.ask ≡ other.ask → one.query ≡ other.query
query_told setting one other read read' same =
    let told = ask_told (letter_of read.form) (letter_of read'.form) read.words read'.words read.short read'.short (sym read.ask ∙ same ∙ read'.ask) in
    let form = letter_told read.form read'.form told.0 in
    let both : Ok one.query ≡ Ok other.query = sym read.query ∙ ap (λ f. query_of setting f read.words) form ∙ ap (λ w. query_of setting read'.form w) told.1 ∙ read'.query in
    cc

module _ (setting : Setting) (path : Components) (form : Form) (words : List (List ℕ)) (short : AreShort words) (search : Search) where
  made_of : (who : Principal) (given : Result Query ScriptKind) → query_of setting form words ≡ given
      → (given >>= λ query. Ok (record { who = who; start = path; query = query; ask = ask_bytes (letter_of form) words })) ≡ Ok search → IsRead setting search
  made_of who (Err fault) is e = absurd cc
  made_of who (Ok query) is e =
      let made : record { who = who; start = path; query = query; ask = ask_bytes (letter_of form) words } ≡ search = cc in
      record { form = form; words = words; short = short; query = is ∙ ap (λ (s : Search). Ok s.query) made; ask = sym (ap (λ (s : Search). s.ask) made) }

  search_read : (user : List ℕ) → search_of setting user path form words ≡ Ok search → IsRead setting search
  unfolding search_of
  search_read user e =
      let found = went_on (ok_or (principal_of setting.tables user) kinds.User) _ search e in
      made_of found.0 (query_of setting form words) refl found.2

-- the search of what is planned
abbrev searches_planned : Option PlannedAct → List Search
searches_planned None = []
searches_planned (Some act) = search_in act

abbrev AreRead : Setting → List Search → Type 0
AreRead setting searches = All (IsRead setting) searches

none_read : (setting : Setting) → AreRead setting []
none_read setting = All-nil (IsRead setting)

one_read : (setting : Setting) (search : Search) → IsRead setting search → AreRead setting (search ∷ [])
one_read setting search read = All-cons (IsRead setting) search [] read (none_read setting)

act_read : (setting : Setting) (act : Act) (planned : Option PlannedAct) → HasShortWords act → planned_act setting act ≡ Ok planned → AreRead setting (searches_planned planned)
unfolding planned_act
act_read setting (acts.Publish limit file) planned short e = let is : Some (Publish setting.delim limit file) ≡ planned = cc in subst (λ p. AreRead setting (searches_planned p)) is (none_read setting)
act_read setting (acts.Rollup limit) planned short e = let is : Some (Rollup limit) ≡ planned = cc in subst (λ p. AreRead setting (searches_planned p)) is (none_read setting)
act_read setting (acts.Refresh path file) planned short e = let is : Some (Refresh setting.delim path file) ≡ planned = cc in subst (λ p. AreRead setting (searches_planned p)) is (none_read setting)
act_read setting acts.Barrier planned short e = let is : None ≡ planned = cc in subst (λ p. AreRead setting (searches_planned p)) is (none_read setting)
act_read setting (acts.Ask lane user path form words) planned short e =
    let found = went_on (search_of setting user path form words) _ planned e in
    let is : Some (Ask lane found.0) ≡ planned = cc in
    subst (λ p. AreRead setting (searches_planned p)) is (one_read setting found.0 (search_read setting path form words short found.0 user found.1))

-- what is planned, and the searches behind it
with_read : (setting : Setting) (planned : Option PlannedAct) (later : Plan) → AreRead setting (searches_planned planned) → AreRead setting (searches_of later) → AreRead setting (searches_of (with_act planned later))
with_read setting None later read rest = rest
with_read setting (Some act) [] read rest = All-append (IsRead setting) (search_in act ++ []) [] (All-append (IsRead setting) (search_in act) [] read rest) rest
with_read setting (Some act) (phase ∷ later) read rest =
    rw append_assoc (All-append (IsRead setting) (search_in act) (searches_in phase ++ searches_of later) read rest)

-- each act's words are short
abbrev pub WordsShort : List PlacedAct → Type 0
WordsShort placed = All (λ (act : PlacedAct). HasShortWords act.1) placed

-- all searches of a plan
plan_read : (setting : Setting) (placed : List PlacedAct) (phases : Plan) → WordsShort placed → plan setting placed ≡ Ok phases → AreRead setting (searches_of phases)
unfolding plan
plan_read setting [] phases short e = let is : [] ∷ [] ≡ phases = cc in subst (λ p. AreRead setting (searches_of p)) is (none_read setting)
plan_read setting (act ∷ later) phases short e =
    let first = went_on (result_map_err (Fault act.0) (planned_act setting act.1)) _ phases e in
    let rest = went_on (plan setting later) _ phases first.2 in
    let is : with_act first.0 rest.0 ≡ phases = cc in
    subst (λ p. AreRead setting (searches_of p)) is (with_read setting first.0 rest.0
    (act_read setting act.1 first.0 (short 0 act (omega arith)) (mapped_ok (Fault act.0) (planned_act setting act.1) first.0 first.1))
    (plan_read setting later rest.0 (λ k d within. short (suc k) d (omega arith)) rest.1))

-- asks of a plan with the same bytes have the same query
pub plan_tells : (setting : Setting) (placed : List PlacedAct) (phases : Plan) → WordsShort placed → plan setting placed ≡ Ok phases → AsksTell phases
plan_tells setting placed phases short e one other within within' same =
    let read = plan_read setting placed phases short e in
    query_told setting one other (All-contains (IsRead setting) (searches_of phases) one read within) (All-contains (IsRead setting) (searches_of phases) other read within') same

-- ---- the acts that are left

pub short_more : (rest left placed : List PlacedAct) (line : ℕ) (act : Act) → left ≡ (line, act) ∷ rest → HasShortWords act → (WordsShort left → WordsShort placed) → WordsShort rest → WordsShort placed
short_more rest left placed line act more one before short = before (subst WordsShort (sym more) (All-cons (λ (act : PlacedAct). HasShortWords act.1) (line, act) rest one short))

pub short_ends : (left placed : List PlacedAct) → left ≡ [] → (WordsShort left → WordsShort placed) → WordsShort placed
short_ends left placed none before = before (subst WordsShort (sym none) (All-nil (λ (act : PlacedAct). HasShortWords act.1)))
