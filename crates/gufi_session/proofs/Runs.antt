-- A run of phases that are loaded from the files is the run of the plan.
use Rattle.std.proofs.Common.{◌≡◌, ℕ, ◌+◌, ◌≤◌, Bool, true, false, List, [], ◌∷◌, length, take, map, refl, sym, ap, ◌∙◌, subst}
use Rattle.std.specs.Prelude.{Option, Some, None, Result, Ok, Err, IsTrue}
use Rattle.std.proofs.lemmas.List.{length-map, take-map}
use Rattle.gufi_base.specs.Basics.{◌>>=◌}
use Rattle.gufi_io.specs.Files.{Files}
use Rattle.gufi_phases.specs.declared.load.Stop.{Stop}
use Rattle.gufi_phases.specs.declared.session.End.{End}
use Rattle.gufi_phases.specs.declared.session.End.TheVariants as ends
use Rattle.gufi_phases.specs.Loads.{phases_over, stop_over, total_size, with_loaded, stop_behind, EndsWith}
use Rattle.gufi_phases.specs.Sessions as sessions
use Rattle.gufi_plan.specs.Plan.{Plan, act_count}
use Rattle.gufi_plan.specs.Bounds.{publishing_among, publishing_of}
use Rattle.gufi_plan.specs.declared.act.PlannedAct.{PlannedAct}
use Rattle.gufi_session.specs.Run.{Run, run_of, run_behind, phase_bytes}
use Rattle.gufi_session.specs.Loaded.{LoadedAct, loaded_phase, load_phase, command_outcome, command_line, search_reply}
use Rattle.gufi_session.specs.Ends.{Answered, SessionEndsWith, MayEndSession}
use Rattle.gufi_session.proofs.Joined.{answered}

pub total_counts : (plan : Plan) → total_size (λ (phase : List PlannedAct). length phase) plan ≡ act_count plan
unfolding total_size act_count
total_counts [] = refl
total_counts (phase ∷ plan) = ap (λ n. length phase + n) (total_counts plan)

pub total_publishing : (plan : Plan) → total_size publishing_among plan ≡ publishing_of plan
unfolding total_size publishing_of
total_publishing [] = refl
total_publishing (phase ∷ plan) = ap (λ n. publishing_among phase + n) (total_publishing plan)

-- ---- the phases that are loaded, and the file at which they end

phases_behind : (files : Files) (phase : List PlannedAct) (later : List (List LoadedAct)) (rest : Run) (bytes : Result ℕ Stop) → later ≡ map (loaded_phase files) rest.plan
    → with_loaded (bytes >>= λ n. Ok (loaded_phase files phase)) later ≡ map (loaded_phase files) (run_behind phase rest bytes).plan
phases_behind files phase later rest (Ok n) is = ap (λ l. loaded_phase files phase ∷ l) is
phases_behind files phase later rest (Err stop) is = refl

pub phases_same : (files : Files) (plan : Plan) → phases_over load_phase files plan ≡ map (loaded_phase files) (run_of files plan).plan
unfolding phases_over load_phase run_of
phases_same files [] = refl
phases_same files (phase ∷ plan) = phases_behind files phase (phases_over load_phase files plan) (run_of files plan) (phase_bytes files 0 phase) (phases_same files plan)

stops_behind : (files : Files) (phase : List PlannedAct) (later : Option Stop) (rest : Run) (bytes : Result ℕ Stop) → later ≡ rest.stop
    → stop_behind (bytes >>= λ n. Ok (loaded_phase files phase)) later ≡ (run_behind phase rest bytes).stop
stops_behind files phase later rest (Ok n) is = is
stops_behind files phase later rest (Err stop) is = refl

stop_same : (files : Files) (plan : Plan) → stop_over load_phase files plan ≡ (run_of files plan).stop
unfolding stop_over load_phase run_of
stop_same files [] = refl
stop_same files (phase ∷ plan) = stops_behind files phase (stop_over load_phase files plan) (run_of files plan) (phase_bytes files 0 phase) (stop_same files plan)

-- ---- how they end

abbrev AnsweredPhases : List (List LoadedAct) → Bool → List ℕ → List ℕ → Type 0
AnsweredPhases phases whole numbers text = sessions.Answered command_outcome command_line search_reply phases whole numbers text

-- where phases are answered, those of the plan are
in_part : (files : Files) (plan : Plan) (whole : Bool) (numbers text : List ℕ) (is : AnsweredPhases (phases_over load_phase files plan) whole numbers text)
    → (count : ℕ) × (count ≡ is.count) × (IsTrue whole → count ≡ length (run_of files plan).plan) × Answered files (run_of files plan) count numbers text
in_part files plan whole numbers text is =
    let run = run_of files plan in let same = phases_same files plan in
    let long : length (phases_over load_phase files plan) ≡ length run.plan = ap (λ l. length l) same ∙ length-map run.plan (loaded_phase files) in
    let front : take is.count (phases_over load_phase files plan) ≡ map (loaded_phase files) (take is.count run.plan) = ap (take is.count) same ∙ take-map (loaded_phase files) is.count run.plan in (
      is.count,
      refl,
      λ all. is.all all ∙ long,
      answered files run is.count numbers text (subst (λ n. is.count ≤ n) long is.within) (subst (λ l. sessions.IsSession command_outcome command_line search_reply [] None 1 1 l numbers text) front is.session),
    )

in_whole : (files : Files) (plan : Plan) (numbers text : List ℕ) → AnsweredPhases (phases_over load_phase files plan) true numbers text
    → Answered files (run_of files plan) (length (run_of files plan).plan) numbers text
in_whole files plan numbers text is =
    let part = in_part files plan true numbers text is in subst (λ n. Answered files (run_of files plan) n numbers text) (part.2 refl) part.3

ends_same : (broke : ℕ → Type 0) (files : Files) (plan : Plan) (end : End) (numbers text : List ℕ)
    → EndsWith command_outcome command_line search_reply (phases_over load_phase files plan) (stop_over load_phase files plan) broke end numbers text
    → SessionEndsWith broke files (run_of files plan) end numbers text
ends_same broke files plan ends.Done numbers text is = (sym (stop_same files plan) ∙ is.0, in_whole files plan numbers text is.1)
ends_same broke files plan (ends.Stopped stop) numbers text is = (sym (stop_same files plan) ∙ is.0, in_whole files plan numbers text is.1)
ends_same broke files plan ends.ReadFault numbers text is = let part = in_part files plan false numbers text is.0 in (part.0, part.3, subst broke (sym part.1) is.1)
ends_same broke files plan ends.WriteFault numbers text is = let part = in_part files plan false numbers text is in (part.0, part.3)
ends_same broke files plan ends.Full numbers text is = let part = in_part files plan false numbers text is in (part.0, part.3)
ends_same broke files plan ends.Memory numbers text is = let part = in_part files plan false numbers text is in (part.0, part.3)

pub may_end : (broke : ℕ → Type 0) (told : Option Files) (plan : Plan) (end : End) (numbers text : List ℕ)
    → ((files : Files) → told ≡ Some files → EndsWith command_outcome command_line search_reply (phases_over load_phase files plan) (stop_over load_phase files plan) broke end numbers text)
    → MayEndSession broke told plan end numbers text
may_end broke None plan end numbers text is = tt
may_end broke (Some files) plan end numbers text is = ends_same broke files plan end numbers text (is files refl)
