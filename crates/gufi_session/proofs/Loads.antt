-- What comes of reading the files of a phase in order, where the shelf tells them.
use Rattle.std.proofs.Common.{◌≡◌, ℕ, ◌+◌, ◌<◌, ◌≤◌, Bool, List, [], ◌∷◌, ◌++◌, length, take, drop, map, get_or, length-append, refl, sym, ap, ◌∙◌, subst, inl, inr, arith}
use Rattle.std.specs.Prelude.{Option, Some, None, Result, Ok, Err}
use Rattle.std.proofs.lemmas.Bool.{le-ltb, lt-ltb}
use Rattle.std.proofs.lemmas.List.{drop_more, take_more, drop_all, take_all, map-append}
use Rattle.gufi_base.specs.Limits.{max_trace}
use Rattle.gufi_base.specs.Basics.{◌>>=◌, ◌>>◌, refuse}
use Rattle.gufi_io.specs.Files.{Files, Holds, Lacks, HoldsFront}
use Rattle.gufi_io.specs.declared.shelf.Shelf.{Ghosts as ShelfOf}
use Rattle.gufi_phases.specs.declared.load.Stop.{Stop}
use Rattle.gufi_phases.specs.declared.load.Stop.TheVariants.{NoFile, TooLong}
use Rattle.gufi_phases.specs.declared.load.LoadFault.{LoadFault}
use Rattle.gufi_phases.specs.declared.load.LoadFault.TheVariants.{Stopped, ReadFault, Memory}
use Rattle.gufi_phases.specs.Phases.{commands_in, command_count}
use Rattle.gufi_phases.specs.Loads.{LoadsAs}
use Rattle.gufi_plan.specs.declared.act.PlannedAct.{PlannedAct}
use Rattle.gufi_plan.specs.Bounds.{publishing_in, publishing_among}
use Rattle.gufi_session.specs.Run.{with_file, after_act, named_file, phase_bytes}
use Rattle.gufi_session.specs.Loaded.{LoadedAct, loaded, loaded_phase, load_phase}
use Rattle.gufi_session.specs.Loading.{IsStopOf, ActReads, ActBreaks, ActsRead, ActsBreak, PhaseReads, PhaseBreaks}

-- ---- one file

fits_in : (before : ℕ) (file bytes : List ℕ) → before + length bytes ≤ max_trace → with_file before file (Some bytes) ≡ Ok (before + length bytes)
fits_in before file bytes within = ap (λ (b : Bool). refuse b (TooLong file) >> Ok (before + length bytes)) (le-ltb max_trace (before + length bytes) within)

passes : (before : ℕ) (file bytes : List ℕ) → max_trace < before + length bytes → with_file before file (Some bytes) ≡ Err (TooLong file)
passes before file bytes past = ap (λ (b : Bool). refuse b (TooLong file) >> Ok (before + length bytes)) (lt-ltb max_trace (before + length bytes) past)

pub file_read : (told : Option Files) (before : ℕ) (file bytes : List ℕ) → before + length bytes ≤ max_trace → Holds told file bytes
    → (files : Files) → told ≡ Some files → (files file ≡ Some bytes) × (with_file before file (files file) ≡ Ok (before + length bytes))
file_read told before file bytes within holds files is =
    let held : files file ≡ Some bytes = subst (λ t. Holds t file bytes) is holds in
    (held, ap (with_file before file) held ∙ fits_in before file bytes within)

pub file_lacks : (told : Option Files) (before : ℕ) (file : List ℕ) → Lacks told file → (files : Files) → told ≡ Some files → with_file before file (files file) ≡ Err (NoFile file)
file_lacks told before file lacks files is =
    let held : files file ≡ None = subst (λ t. Lacks t file) is lacks in
    ap (with_file before file) held

pub file_passes : (told : Option Files) (before max : ℕ) (file front : List ℕ) → max_trace ≤ before + max → max < length front → HoldsFront told file front
    → (files : Files) → told ≡ Some files → with_file before file (files file) ≡ Err (TooLong file)
file_passes told before max file front room long holds files is =
    let held : (rest : List ℕ) × (files file ≡ Some (front ++ rest)) = subst (λ t. HoldsFront t file front) is holds in
    let longer = length-append front held.0 in
    ap (with_file before file) held.1 ∙ passes before file (front ++ held.0) (omega arith)

-- ---- a phase

-- the first acts of a phase are loaded, and its files had so many bytes up to there
pub record IsLoaded (files : Files) (phase : List PlannedAct) (at before : ℕ) (acts : List LoadedAct) : Type 0 where
  pub made : acts ≡ map (loaded files) (take at phase)
  pub counted : phase_bytes files 0 phase ≡ phase_bytes files before (drop at phase)

pub none_loaded : (files : Files) (phase : List PlannedAct) (acts : List LoadedAct) → acts ≡ [] → IsLoaded files phase 0 0 acts
none_loaded files phase acts none = record { made = none; counted = refl }

rest_here : (files : Files) (phase : List PlannedAct) (at before : ℕ) (act : PlannedAct) → at < length phase → act ≡ get_or phase at act
    → phase_bytes files before (drop at phase) ≡ (after_act files before (named_file act) >>= λ now. phase_bytes files now (drop (at + 1) phase))
unfolding phase_bytes
rest_here files phase at before act inside here = ap (phase_bytes files before) (drop_more phase at act inside ∙ ap (λ x. x ∷ drop (at + 1) phase) (sym here))

pub one_loaded : (files : Files) (phase : List PlannedAct) (at before after : ℕ) (act : PlannedAct) (acts more : List LoadedAct) (step : LoadedAct) → at < length phase → act ≡ get_or phase at act
    → IsLoaded files phase at before acts → step ≡ loaded files act → after_act files before (named_file act) ≡ Ok after → more ≡ acts ++ step ∷ [] → IsLoaded files phase (at + 1) after more
one_loaded files phase at before after act acts more step inside here is made counted with_step =
    let front : take (at + 1) phase ≡ take at phase ++ act ∷ [] = take_more phase at act inside ∙ ap (λ x. take at phase ++ x ∷ []) (sym here) in
    record {
      made = with_step ∙ (ap (λ l. l ++ step ∷ []) is.made ∙ (ap (λ x. map (loaded files) (take at phase) ++ x ∷ []) made ∙ (sym (map-append (loaded files) (take at phase) (act ∷ [])) ∙ ap (map (loaded files)) (sym front))));
      counted = is.counted ∙ (rest_here files phase at before act inside here ∙ ap (λ r. r >>= λ now. phase_bytes files now (drop (at + 1) phase)) counted);
    }

pub all_loaded : (files : Files) (phase : List PlannedAct) (at before : ℕ) (acts : List LoadedAct) → length phase ≤ at → IsLoaded files phase at before acts → load_phase phase files ≡ Ok acts
unfolding phase_bytes load_phase
all_loaded files phase at before acts past is =
    ap (λ (r : Result ℕ Stop). r >>= λ n. Ok (loaded_phase files phase)) (is.counted ∙ ap (phase_bytes files before) (drop_all at phase past))
    ∙ ap (λ (l : List LoadedAct). Ok l) (sym (is.made ∙ ap (map (loaded files)) (take_all at phase past)))

stops_on : {A B : Type 0} (is : Result A Stop) (next : A → Result B Stop) (fault : LoadFault) → IsStopOf is fault → IsStopOf (is >>= next) fault
stops_on is next (Stopped stop) stops = ap (λ r. r >>= next) stops
stops_on is next ReadFault stops = tt
stops_on is next Memory stops = tt

stop_loads : (is : Result (List LoadedAct) Stop) (fault : LoadFault) → IsStopOf is fault → LoadsAs is (Err fault)
stop_loads is (Stopped stop) stops = stops
stop_loads is ReadFault stops = tt
stop_loads is Memory stops = tt

pub one_stops : (files : Files) (phase : List PlannedAct) (at before : ℕ) (act : PlannedAct) (acts : List LoadedAct) (fault : LoadFault) → at < length phase → act ≡ get_or phase at act
    → IsLoaded files phase at before acts → IsStopOf (after_act files before (named_file act)) fault → LoadsAs (load_phase phase files) (Err fault)
unfolding load_phase
one_stops files phase at before act acts fault inside here is stops =
    let later = λ (now : ℕ). phase_bytes files now (drop (at + 1) phase) in let all = λ (n : ℕ). let r : Result (List LoadedAct) Stop = Ok (loaded_phase files phase) in r in
    let whole : phase_bytes files 0 phase ≡ (after_act files before (named_file act) >>= later) = is.counted ∙ rest_here files phase at before act inside here in
    subst (λ r. LoadsAs (r >>= all) (Err fault)) (sym whole)
    (stop_loads ((after_act files before (named_file act) >>= later) >>= all) fault (stops_on (after_act files before (named_file act) >>= later) all fault (stops_on (after_act files before (named_file act)) later fault stops)))

-- ---- the states of the shelf

-- the act at a place is the first of the rest
acts_here : (phase : List PlannedAct) (at : ℕ) (act : PlannedAct) → at < length phase → act ≡ get_or phase at act → drop at phase ≡ act ∷ drop (at + 1) phase
acts_here phase at act inside here = drop_more phase at act inside ∙ ap (λ x. x ∷ drop (at + 1) phase) (sym here)

commands_append : (acts : List LoadedAct) (step : LoadedAct) → command_count (acts ++ step ∷ []) ≡ command_count acts + commands_in step
unfolding command_count
commands_append [] step = omega arith
commands_append (act ∷ acts) step = let later = commands_append acts step in omega arith

-- no act is loaded yet
pub commands_none : (phase : List PlannedAct) (acts : List LoadedAct) → acts ≡ [] → command_count acts + publishing_among phase ≡ publishing_among phase
unfolding command_count
commands_none phase acts none = let zero : command_count acts ≡ 0 = ap command_count none in omega arith

-- the commands of the acts that are loaded so far, and of those that are left
pub commands_more : (phase : List PlannedAct) (at : ℕ) (act : PlannedAct) (acts more : List LoadedAct) (step : LoadedAct) → at < length phase → act ≡ get_or phase at act → commands_in step ≡ publishing_in act → more ≡ acts ++ step ∷ []
    → command_count acts + publishing_among (drop at phase) ≡ publishing_among phase → command_count more + publishing_among (drop (at + 1) phase) ≡ publishing_among phase
unfolding publishing_among command_count
commands_more phase at act acts more step inside here same added before =
    let left : publishing_among (drop at phase) ≡ publishing_in act + publishing_among (drop (at + 1) phase) = ap publishing_among (acts_here phase at act inside here) in
    let made : command_count more ≡ command_count acts + commands_in step = ap command_count added ∙ commands_append acts step in
    omega arith

pub commands_all : (phase : List PlannedAct) (at : ℕ) (acts : List LoadedAct) → length phase ≤ at → command_count acts + publishing_among (drop at phase) ≡ publishing_among phase → command_count acts ≡ publishing_among phase
unfolding publishing_among
commands_all phase at acts past is = let none : publishing_among (drop at phase) ≡ 0 = ap publishing_among (drop_all at phase past) in omega arith

module _ {F : Type 0} (shelf : ShelfOf F) (phase : List PlannedAct) where
  -- what is read of the rest from this state on is read of the phase from the first on, and so where it fails
  pub record LeadsOn (at before : ℕ) (first here : F) : Type 0 where
    pub reads : (new : F) → ActsRead shelf before (drop at phase) here new → PhaseReads shelf phase first new
    pub breaks : (new : F) → ActsBreak shelf before (drop at phase) here new → PhaseBreaks shelf phase first new

  pub leads_from : (first : F) → LeadsOn 0 0 first first
  leads_from first = record { reads = λ new read. read; breaks = λ new broke. broke }

  pub reads_all : (at before : ℕ) (first here : F) → length phase ≤ at → LeadsOn at before first here → PhaseReads shelf phase first here
  unfolding ActsRead
  reads_all at before first here past leads = leads.reads here (subst (λ l. ActsRead shelf before l here here) (sym (drop_all at phase past)) refl)

  module _ (at before : ℕ) (act : PlannedAct) (inside : at < length phase) (is : act ≡ get_or phase at act) (first here : F) (leads : LeadsOn at before first here) where
    pub leads_past : (after : ℕ) (mid : F) → ActReads shelf (named_file act) before after here mid → LeadsOn (at + 1) after first mid
    unfolding ActsRead ActsBreak
    leads_past after mid read = record {
      reads = λ new rest. leads.reads new (subst (λ l. ActsRead shelf before l here new) (sym (acts_here phase at act inside is)) (after, mid, read, rest));
      breaks = λ new rest. leads.breaks new (subst (λ l. ActsBreak shelf before l here new) (sym (acts_here phase at act inside is)) (inr (after, mid, read, rest)));
    }

    pub leads_off : (new : F) → ActBreaks shelf (named_file act) here new → PhaseBreaks shelf phase first new
    unfolding ActsBreak
    leads_off new broke = leads.breaks new (subst (λ l. ActsBreak shelf before l here new) (sym (acts_here phase at act inside is)) (inl broke))
