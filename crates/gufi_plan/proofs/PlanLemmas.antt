-- From acts in their order to phases.
use Rattle.std.proofs.Common.{◌≡◌, ℕ, true, ◌+◌, ◌-◌, ◌≤◌, ◌≢◌, List, [], ◌∷◌, ◌++◌, length, take, drop, get_or, refl, sym, ap, ◌∙◌, append_assoc, append-nil, arith}
use Rattle.std.specs.Prelude.{Option, Some, None, Result, Ok, Err}
use Rattle.std.specs.List.{flat_map, onto_first}
use Rattle.std.proofs.lemmas.Bool.{and_parts, leb-true}
use Rattle.std.proofs.lemmas.List.{take_all}
use Rattle.gufi_base.specs.Limits.{max_script_lines}
use Rattle.gufi_base.specs.Basics.{result_map_err, ◌>>=◌}
use Rattle.gufi_script.specs.declared.fault.ScriptKind.{ScriptKind}
use Rattle.gufi_script.specs.declared.fault.ScriptError.TheVariants as errors
use Rattle.gufi_plan.specs.declared.fault.ActFault.{ActFault}
use Rattle.gufi_plan.specs.declared.fault.ActFault.TheVariants.{Kind, Memory}
use Rattle.gufi_plan.specs.Faults.{error_at}
use Rattle.gufi_script.specs.declared.act.Act.{Act}
use Rattle.gufi_script.specs.ScriptText.{PlacedAct, is_script}
use Rattle.gufi_plan.specs.declared.act.PlannedAct.{PlannedAct}
use Rattle.gufi_plan.specs.Plan.{Setting, Plan, act_count, with_act, planned_act, plan, query_text}
use Rattle.gufi_plan.specs.Phases.{onto_current, behind, plan_behind}

-- joined words are the first, and each other behind a space
joined_words : (first : List ℕ) (others : List (List ℕ)) → query_text (first ∷ others) ≡ first ++ flat_map (λ word. 32 ∷ word) others
joined_words first [] = sym (append-nil first)
joined_words first (next ∷ others) = ap (λ l. first ++ 32 ∷ l) (joined_words next others)

pub query_text-put : (words : List (List ℕ)) (first front now : List ℕ) → 1 ≤ length words → first ≡ get_or words 0 first → front ≡ first
    → now ≡ front ++ flat_map (λ word. 32 ∷ word) (take (length words - 1) (drop 1 words)) → now ≡ query_text words
query_text-put [] first front now some is copied put = absurd (omega arith)
query_text-put (word ∷ words) first front now some is copied put =
    let behind : flat_map (λ (w : List ℕ). 32 ∷ w) (take (length (word ∷ words) - 1) words) ≡ flat_map (λ (w : List ℕ). 32 ∷ w) words = ap (flat_map (λ (w : List ℕ). 32 ∷ w)) (take_all (length (word ∷ words) - 1) words (omega arith)) in
    put ∙ ap (λ l. front ++ l) behind ∙ ap (λ l. l ++ flat_map (λ w. 32 ∷ w) words) (copied ∙ is) ∙ sym (joined_words word words)

onto_current-append : (current : List PlannedAct) (act : PlannedAct) (later : Plan) → onto_current (current ++ act ∷ []) later ≡ onto_current current (onto_first act later)
onto_current-append [] act later = refl
onto_current-append (first ∷ current) act later = ap (onto_first first) (onto_current-append current act later)

onto_current-barrier : (current : List PlannedAct) (later : Plan) → onto_current current ([] ∷ later) ≡ current ∷ later
onto_current-barrier [] later = refl
onto_current-barrier (first ∷ current) later = ap (onto_first first) (onto_current-barrier current later)

-- one act more in the phase that goes on
pub behind-act : (done : Plan) (current now : List PlannedAct) (planned : Option PlannedAct) (act : PlannedAct) → planned ≡ Some act → now ≡ current ++ act ∷ []
    → (later : Plan) → behind done now later ≡ behind done current (with_act planned later)
behind-act done current now planned act is added later =
    ap (λ l. behind done l later) added ∙ ap (λ l. done ++ l) (onto_current-append current act later) ∙ ap (λ p. behind done current (with_act p later)) (sym is)

-- a phase more that is done
pub behind-barrier : (done done' : Plan) (current phase now : List PlannedAct) (planned : Option PlannedAct) → planned ≡ None → phase ≡ current → now ≡ [] → done' ≡ done ++ phase ∷ []
    → (later : Plan) → behind done' now later ≡ behind done current (with_act planned later)
behind-barrier done done' current phase now planned is same empty added later =
    ap (λ l. behind done' l later) empty ∙ ap (λ l. l ++ later) (added ∙ ap (λ l. done ++ l ∷ []) same) ∙ append_assoc done (current ∷ []) later
    ∙ ap (λ l. done ++ l) (sym (onto_current-barrier current later)) ∙ ap (λ p. behind done current (with_act p later)) (sym is)

-- the last phase is the one that goes on
pub behind-last : (done done' : Plan) (current : List PlannedAct) → done' ≡ done ++ current ∷ [] → done' ≡ behind done current ([] ∷ [])
behind-last done done' current added = added ∙ ap (λ l. done ++ l) (sym (onto_current-barrier current []))

-- the acts of a phase more
pub act_count-done : (done : Plan) (phase : List PlannedAct) → act_count (done ++ phase ∷ []) ≡ act_count done + length phase
unfolding act_count
act_count-done [] phase = omega arith
act_count-done (first ∷ done) phase = omega (arith, act_count-done done phase)

pub plan_first : (setting : Setting) (done : Plan) (current : List PlannedAct) (rest acts : List PlacedAct) → done ≡ [] → current ≡ [] → rest ≡ acts
    → plan_behind setting done current rest ≡ plan setting acts
plan_first setting done current rest acts none empty all =
    ap (λ l. plan_behind setting l current rest) none ∙ ap (λ l. plan_behind setting [] l rest) empty ∙ ap (plan_behind setting [] []) all
    ∙ elim (plan setting acts) as (λ given. (given >>= λ later. Ok (behind [] [] later)) ≡ given) [ Ok later ↦ refl | Err e ↦ refl ]

few_acts : (acts : List PlacedAct) → is_script acts ≡ true → length acts ≤ max_script_lines
few_acts acts h = leb-true (length acts) max_script_lines (and_parts _ _ (and_parts _ _ (and_parts _ _ h).0).0).1

pub few_first : (done : Plan) (current : List PlannedAct) (rest acts : List PlacedAct) → done ≡ [] → current ≡ [] → rest ≡ acts → is_script acts ≡ true
    → act_count done + length current + length rest ≤ max_script_lines
unfolding act_count
few_first done current rest acts none empty all h = rw (none, empty, all) (omega (arith, few_acts acts h))

-- ---- faults

pub mapped_ok : {A E F : Type 0} (f : E → F) (r : Result A E) (x : A) → result_map_err f r ≡ Ok x → r ≡ Ok x
mapped_ok f (Ok y) x e = let same : y ≡ x = cc in ap Ok same
mapped_ok f (Err fault) x e = absurd cc

mapped_err : {A : Type 0} (r : Result A ScriptKind) (kind : ScriptKind) → result_map_err Kind r ≡ Err (Kind kind) → r ≡ Err kind
mapped_err (Ok x) kind e = absurd cc
mapped_err (Err other) kind e = let same : other ≡ kind = cc in ap Err same

-- a step that fails, and others behind it
pub fails_first : {A B : Type 0} (r : Result A ScriptKind) (f : A → Result B ScriptKind) (fault : ActFault) → result_map_err Kind r ≡ Err fault → result_map_err Kind (r >>= f) ≡ Err fault
fails_first (Ok x) f fault e = absurd cc
fails_first (Err kind) f fault e = let same : Kind kind ≡ fault = cc in ap Err same

-- ---- the acts that are left

-- an act that is planned
pub plan_more : (setting : Setting) (done done' : Plan) (current current' : List PlannedAct) (line : ℕ) (act : Act) (left rest : List PlacedAct) (planned : Option PlannedAct)
    → left ≡ (line, act) ∷ rest → result_map_err Kind (planned_act setting act) ≡ Ok planned → ((later : Plan) → behind done' current' later ≡ behind done current (with_act planned later))
    → plan_behind setting done current left ≡ plan_behind setting done' current' rest
unfolding plan
plan_more setting done done' current current' line act left rest planned more given added =
    let one = mapped_ok Kind (planned_act setting act) planned given in
    rw (more, one) (elim (plan setting rest) as (λ given. ((given >>= λ later. Ok (with_act planned later)) >>= λ later. Ok (behind done current later)) ≡ (given >>= λ later. Ok (behind done' current' later)))
    [ Ok later ↦ ap Ok (sym (added later)) | Err e ↦ refl ])

-- an act that is at fault
pub plan_stops : (setting : Setting) (done : Plan) (current : List PlannedAct) (line : ℕ) (act : Act) (left rest : List PlacedAct) (fault : ActFault)
    → left ≡ (line, act) ∷ rest → (fault ≢ Memory → result_map_err Kind (planned_act setting act) ≡ Err fault) → error_at line fault ≢ errors.Memory
    → plan_behind setting done current left ≡ Err (error_at line fault)
unfolding plan
plan_stops setting done current line act left rest (Kind kind) more given told = let one = mapped_err (planned_act setting act) kind (given (λ e. absurd cc)) in rw (more, one) refl
plan_stops setting done current line act left rest Memory more given told = absurd (told refl)

-- no act that is left
pub plan_ends : (setting : Setting) (done : Plan) (current : List PlannedAct) (left : List PlacedAct) → left ≡ [] → plan_behind setting done current left ≡ Ok (behind done current ([] ∷ []))
unfolding plan
plan_ends setting done current left none = rw none refl
