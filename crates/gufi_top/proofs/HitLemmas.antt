-- Lemmas on the note of what the lanes of a session kept.
use Rattle.std.proofs.Common.{◌≡◌, ℕ, suc, ◌+◌, true, List, [], ◌∷◌, length, take, drop, length-append, refl, sym, ap, ◌∙◌, subst, arith}
use Rattle.std.specs.Prelude.{◌==◌, ◌&&◌, nat_le, zip, None, Result, Ok, Err}
use Rattle.std.specs.List.{list_all}
use Rattle.std.proofs.lemmas.Bool.{eqb-true, and_parts, false≢true}
use Rattle.std.proofs.lemmas.List.{take-append-drop, take_all}
use Rattle.gufi_io.specs.Files.{Files}
use Rattle.gufi_phases.specs.declared.load.Stop.{Stop}
use Rattle.gufi_plan.specs.Plan.{Plan}
use Rattle.gufi_plan.specs.Asks.{searches_in, searches_of}
use Rattle.gufi_plan.specs.declared.act.PlannedAct.{PlannedAct}
use Rattle.gufi_plan.specs.declared.act.PlannedAct.TheVariants as planned
use Rattle.gufi_session.specs.Session.{Publication, pubs_from, lanes, never_falls, phase_fits, phases_fit, fits}
use Rattle.gufi_session.specs.Run.{Run, run_of, run_behind, phase_bytes}
use Rattle.gufi_session.specs.Ends.{AnsweredWhole}
use Rattle.gufi_session.specs.Hits.{session_hits}
use Rattle.gufi_top.specs.Ends.{hits_note, cache_note}

-- ---- a number for each ask

asks_have_lanes : (phase : List PlannedAct) → length (lanes phase) ≡ length (searches_in phase)
asks_have_lanes [] = refl
asks_have_lanes (planned.Publish delim limit file ∷ acts) = asks_have_lanes acts
asks_have_lanes (planned.Rollup limit ∷ acts) = asks_have_lanes acts
asks_have_lanes (planned.Refresh delim path file ∷ acts) = asks_have_lanes acts
asks_have_lanes (planned.Ask lane search ∷ acts) = ap suc (asks_have_lanes acts)

as_many_in : (least most : ℕ) (own numbers : List ℕ) → phase_fits least most own numbers ≡ true → length numbers ≡ length own
as_many_in least most own numbers fit =
    let within = list_all (λ n. nat_le least n && nat_le n most) numbers in
    eqb-true (length numbers) (length own) (and_parts (length numbers == length own) within (and_parts (length numbers == length own && within) (never_falls (zip own numbers)) fit).0).0

as_many_from : (files : Files) (pubs : List Publication) (plan : Plan) (numbers : List ℕ) → phases_fit files pubs plan numbers ≡ true → length numbers ≡ length (searches_of plan)
as_many_from files pubs [] [] fit = refl
as_many_from files pubs [] (n ∷ numbers) fit = absurd (false≢true fit)
as_many_from files pubs (phase ∷ plan) numbers fit =
    let after = pubs_from files pubs phase in
    let count = length (lanes phase) in
    let parts = and_parts (phase_fits (length pubs) (length after) (lanes phase) (take count numbers)) (phases_fit files after plan (drop count numbers)) fit in
    let own : length (take count numbers) ≡ length (searches_in phase) = as_many_in (length pubs) (length after) (lanes phase) (take count numbers) parts.0 ∙ asks_have_lanes phase in
    let later = as_many_from files after plan (drop count numbers) parts.1 in
    let halves : length (take count numbers) + length (drop count numbers) ≡ length numbers = sym (length-append (take count numbers) (drop count numbers)) ∙ ap (λ l. length l) (take-append-drop count numbers) in
    let all : length (searches_of (phase ∷ plan)) ≡ length (searches_in phase) + length (searches_of plan) = length-append (searches_in phase) (searches_of plan) in
    omega (arith, own, later, halves, all)

as_many : (files : Files) (plan : Plan) (numbers : List ℕ) → fits files plan numbers ≡ true → length numbers ≡ length (searches_of plan)
unfolding fits
as_many files plan numbers fit = as_many_from files [] plan numbers fit

-- a run of which all phases are answered
whole_counted : (files : Files) (run : Run) (numbers text : List ℕ) → AnsweredWhole files run numbers text → length numbers ≡ length (searches_of run.plan)
whole_counted files run numbers text whole =
    as_many files run.plan numbers (subst (λ (plan : Plan). fits files plan numbers ≡ true) (take_all (length run.plan) run.plan (omega arith)) whole.fit)

-- ---- where no file ends the run, it has all phases of the plan

behind : (phase : List PlannedAct) (plan : Plan) (rest : Run) (bytes : Result ℕ Stop) → (rest.stop ≡ None → rest.plan ≡ plan) → (run_behind phase rest bytes).stop ≡ None → (run_behind phase rest bytes).plan ≡ phase ∷ plan
behind phase plan rest (Ok n) same none = ap (λ (l : Plan). phase ∷ l) (same none)
behind phase plan rest (Err stop) same none = cc

whole_plan : (files : Files) (plan : Plan) → (run_of files plan).stop ≡ None → (run_of files plan).plan ≡ plan
unfolding run_of
whole_plan files [] none = refl
whole_plan files (phase ∷ plan) none = behind phase plan (run_of files plan) (phase_bytes files 0 phase) (whole_plan files plan) none

-- ---- the note

pub kept_told : (files : Files) (plan : Plan) (cache hits : ℕ) (numbers text : List ℕ)
    → (run_of files plan).stop ≡ None → AnsweredWhole files (run_of files plan) numbers text → hits ≡ session_hits files plan cache numbers
    → hits_note cache hits (length numbers) ≡ cache_note files (run_of files plan) cache numbers
kept_told files plan cache hits numbers text none whole is =
    ap (hits_note cache hits) (whole_counted files (run_of files plan) numbers text whole)
    ∙ ap (λ n. hits_note cache n (length (searches_of (run_of files plan).plan))) (is ∙ ap (λ (p : Plan). session_hits files p cache numbers) (sym (whole_plan files plan none)))
