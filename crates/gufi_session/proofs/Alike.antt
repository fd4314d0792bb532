-- Asks of a plan that are loaded and have one key want one body.
use Rattle.std.proofs.Common.{◌≡◌, ℕ, ◌<◌, List, [], ◌∷◌, ◌++◌, map, refl, sym, ap, ◌∙◌, subst}
use Rattle.std.specs.Prelude.{Contains, Result, Ok, Err}
use Rattle.std.proofs.Math.ListN.{get_or-map}
use Rattle.std.proofs.lemmas.List.{length-map, map-append}
use Rattle.std.proofs.lemmas.List.Elements.{Contains-append_left}
use Rattle.std.proofs.lemmas.Grind.{flat_map-append}
use Rattle.gufi_io.specs.Files.{Files}
use Rattle.gufi_tree.specs.Tree.{Directory}
use Rattle.gufi_walk.specs.Answer.{reply_rows}
use Rattle.gufi_phases.specs.declared.load.Stop.{Stop}
use Rattle.gufi_phases.specs.Loads.{phases_over}
use Rattle.gufi_phases.specs.Replies.{AreAlike}
use Rattle.gufi_phases.specs.Sessions.{acts_of, question_of, questions_of}
use Rattle.gufi_plan.specs.Asks.{AsksTell, searches_in, searches_of}
use Rattle.gufi_plan.specs.Plan.{Plan, query_holds}
use Rattle.gufi_plan.specs.declared.act.PlannedAct.{PlannedAct}
use Rattle.gufi_plan.specs.declared.act.PlannedAct.TheVariants.{Publish, Rollup, Refresh, Ask}
use Rattle.gufi_plan.specs.declared.search.Search.{Search}
use Rattle.gufi_session.specs.declared.reply.Asking.{Asking}
use Rattle.gufi_session.specs.Session.{answer_or, reply_body}
use Rattle.gufi_session.specs.Run.{Run, run_of, run_behind, phase_bytes}
use Rattle.gufi_session.specs.Loaded.{loaded_phase, load_phase, search_key, search_body}
use Rattle.gufi_session.proofs.Runs.{phases_same}

-- ---- the questions that are loaded are the searches of the plan

-- the question of a search
abbrev asking_of : Search → Asking
asking_of search = record { search = search }

asked_in : (files : Files) (phase : List PlannedAct) → questions_of (loaded_phase files phase) ≡ map asking_of (searches_in phase)
asked_in files [] = refl
asked_in files (Publish delim limit file ∷ acts) = asked_in files acts
asked_in files (Rollup limit ∷ acts) = asked_in files acts
asked_in files (Refresh delim path file ∷ acts) = asked_in files acts
asked_in files (Ask lane search ∷ acts) = ap (λ l. asking_of search ∷ l) (asked_in files acts)

asked_of : (files : Files) (plan : Plan) → questions_of (acts_of (map (loaded_phase files) plan)) ≡ map asking_of (searches_of plan)
asked_of files [] = refl
asked_of files (phase ∷ plan) =
    let later = acts_of (map (loaded_phase files) plan) in
    flat_map-append question_of (loaded_phase files phase) later
    ∙ (ap (λ l. l ++ questions_of later) (asked_in files phase)
    ∙ (ap (λ l. map asking_of (searches_in phase) ++ l) (asked_of files plan) ∙ sym (map-append asking_of (searches_in phase) (searches_of plan))))

-- ---- a run is a front of its plan

front_behind : (phase : List PlannedAct) (plan : Plan) (later : Run) (bytes : Result ℕ Stop) → (rest : Plan) × (plan ≡ later.plan ++ rest)
    → (rest : Plan) × (phase ∷ plan ≡ (run_behind phase later bytes).plan ++ rest)
front_behind phase plan later (Ok n) is = (is.0, ap (λ l. phase ∷ l) is.1)
front_behind phase plan later (Err stop) is = (phase ∷ plan, refl)

run_front : (files : Files) (plan : Plan) → (rest : Plan) × (plan ≡ (run_of files plan).plan ++ rest)
unfolding run_of
run_front files [] = ([], refl)
run_front files (phase ∷ plan) = front_behind phase plan (run_of files plan) (phase_bytes files 0 phase) (run_front files plan)

-- ---- a question that is loaded is a search of the plan

search_there : (searches : List Search) (asking : Asking) → Contains (map asking_of searches) asking → Contains searches asking.search
search_there searches asking is = (
  is.0,
  subst (λ n. is.0 < n) (length-map searches asking_of) is.1,
  ap (λ (a : Asking). a.search) (sym (get_or-map asking_of searches is.0 asking.search) ∙ is.2),
)

search_planned : (files : Files) (plan : Plan) (asking : Asking) → Contains (questions_of (acts_of (phases_over load_phase files plan))) asking → Contains (searches_of plan) asking.search
search_planned files plan asking is =
    let run = (run_of files plan).plan in let front = run_front files plan in
    let same : questions_of (acts_of (phases_over load_phase files plan)) ≡ map asking_of (searches_of run) = ap (λ p. questions_of (acts_of p)) (phases_same files plan) ∙ asked_of files run in
    let here = search_there (searches_of run) asking (subst (λ l. Contains l asking) same is) in
    let whole : searches_of plan ≡ searches_of run ++ searches_of front.0 = ap (λ p. searches_of p) front.1 ∙ flat_map-append searches_in run front.0 in
    subst (λ l. Contains l asking.search) (sym whole) (Contains-append_left (searches_of run) (searches_of front.0) asking.search here)

-- ---- bodies

body_same : (one other : Search) (tree : List Directory) → one.who ≡ other.who → one.start ≡ other.start → one.query ≡ other.query → reply_body one tree ≡ reply_body other tree
unfolding reply_body
body_same one other tree who start query =
    ap (λ w. answer_or one.query one.start (reply_rows tree w one.start (query_holds one.query))) who
    ∙ (ap (λ s. answer_or one.query s (reply_rows tree other.who s (query_holds one.query))) start ∙ ap (λ q. answer_or q other.start (reply_rows tree other.who other.start (query_holds q))) query)

pub loaded_alike : (files : Files) (plan : Plan) → AsksTell plan → AreAlike search_key search_body (questions_of (acts_of (phases_over load_phase files plan)))
loaded_alike files plan tell one other asks asks_too n m same item =
    body_same one.search other.search item.tree (ap (λ key. key.who) same) (ap (λ key. key.start) same)
    (tell one.search other.search (search_planned files plan one asks) (search_planned files plan other asks_too) (ap (λ key. key.ask) same))
