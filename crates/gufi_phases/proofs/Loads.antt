-- How far a run has come over the files that a shelf tells, and what is meant by numbers where it tells none.
use Rattle.std.proofs.Common.{◌≡◌, ℕ, ◌+◌, ◌<◌, ◌≤◌, true, false, suc, List, [], ◌∷◌, ◌++◌, length, map, take, drop, get_or, length-append, append_assoc, append-nil, le_refl, take_all, refl, sym, ap, ◌∙◌, subst, arith, drop_of_length-le, inl, inr}
use Rattle.std.specs.Prelude.{Option, Some, None, Result, Ok, Err, Vec, IfOk, OnOk, option_map}
use Rattle.std.specs.declared.alloc.Global.{Global}
use Rattle.std.specs.Arc.{arc_value}
use Rattle.std.proofs.Math.Logic.{∥∥₁_map}
use Rattle.std.proofs.lemmas.Bool.{false≢true}
use Rattle.std.proofs.lemmas.List.{drop_more}
use Rattle.std.specs.Io.KnownBytes.{Appends}
use Rattle.std.proofs.KnownBytes.{Appends-trans}
use Rattle.gufi_io.specs.Files.{Files, TakesFront}
use Rattle.gufi_io.specs.declared.shelf.Shelf.{Ghosts as ShelfOf}
use Rattle.gufi_io.specs.declared.sink.Sink.{Ghosts as SinkOf}
use Rattle.gufi_phases.specs.declared.act.Act.{Act}
use Rattle.gufi_phases.specs.declared.load.Stop.{Stop}
use Rattle.gufi_phases.specs.declared.load.LoadFault.{LoadFault}
use Rattle.gufi_phases.specs.declared.load.LoadFault.TheVariants as load
use Rattle.gufi_cache.specs.declared.key.CacheKey.{CacheKey}
use Rattle.gufi_phases.specs.declared.phase.Phase.{Phase}
use Rattle.gufi_phases.specs.declared.keeping.Lane.{Lane}
use Rattle.gufi_phases.specs.Phases.{EachMeans, item_at, made, last_of_acts, command_lines, command_count, ask_count, acts_text, lanes, NumbersFit}
use Rattle.gufi_phases.specs.Sessions.{all_made, IsSession, Answered, acts_of, questions_of, hits_over}
use Rattle.gufi_phases.specs.Replies.{AreAlike}
use Rattle.gufi_phases.specs.Keeping.{Keeping, keeping_none, keeping_behind, hits_in}
use Rattle.gufi_phases.specs.declared.answer.Row.{Row}
use Rattle.gufi_phases.specs.declared.publish.PhaseFault.{PhaseFault}
use Rattle.gufi_phases.specs.declared.publish.PhaseFault.TheVariants as phase_faults
use Rattle.gufi_phases.specs.declared.session.End.{End}
use Rattle.gufi_phases.specs.declared.session.End.TheVariants as ends
use Rattle.gufi_phases.specs.Lanes.{AreReady, HasMeant, IsTold, KeepAs}
use Rattle.gufi_phases.specs.Made.{FullOnlyIf}
use Rattle.gufi_phases.specs.Loads.{phases_over, stop_over, total_size, with_loaded, stop_behind, LoadsAs, BreaksIf, BreaksAt, EndsWith, TakesText, end_of, end_of_phase, EndHasCause, Ran, IsCutOff, CutHasCause}
use Rattle.gufi_phases.proofs.Keepings.{keeping_so_far, AreKept, kept_more, long_more, ready_next}
use Rattle.gufi_phases.proofs.Sessions.{IsReached, none_done, answered, phase_more, this_phase, this_whole, this_list, each_of_all}

take_front : {A : Type 0} (xs ys : List A) → take (length xs) (xs ++ ys) ≡ xs
take_front [] ys = refl
take_front (x ∷ xs) ys = ap (λ l. x ∷ l) (take_front xs ys)

from_some : {A : Type 0} → A → Option A → A
from_some a (Some b) = b
from_some a None = a

some_same : {A : Type 0} (a b : A) → Some a ≡ Some b → a ≡ b
unfolding from_some
some_same a b is = ap (λ o. from_some a o) is

none_is_some : {A : Type 0} {B : Type 0} (a : A) → None ≡ Some a → B
none_is_some a is = cc

-- ---- how a phase that isn't loaded ends a session

-- text that was taken, and then a front of more
pub takes_more : (a b c : Option (List ℕ)) (text begin : List ℕ) → Appends a b text → TakesFront b c begin → TakesFront a c (text ++ begin)
takes_more a b c text begin taken front = (
  front.0,
  record {
    front = text ++ front.1.front;
    parts = ap (λ l. text ++ l) front.1.parts ∙ sym (append_assoc text front.1.front front.0);
    taken = Appends-trans a b c text front.1.front taken front.1.taken;
  },
)

pub takes_fault : (out out' : Option (List ℕ)) (text : List ℕ) (fault : LoadFault) → Appends out out' text → TakesText (end_of fault) out out' text
takes_fault out out' text (load.Stopped stop) taken = taken
takes_fault out out' text load.ReadFault taken = taken
takes_fault out out' text load.Memory taken = taken

pub takes_phase_fault : (out out' : Option (List ℕ)) (text : List ℕ) (fault : PhaseFault) → Appends out out' text → TakesText (end_of_phase fault) out out' text
takes_phase_fault out out' text phase_faults.Full taken = taken
takes_phase_fault out out' text phase_faults.Memory taken = taken

pub phase_fault_cause : {F K : Type 0} (shelf : ShelfOf F) (old new : F) (sink : SinkOf K) (out out' : K) (fault : PhaseFault) → EndHasCause shelf old new sink out out' (end_of_phase fault)
phase_fault_cause shelf old new sink out out' phase_faults.Full = tt
phase_fault_cause shelf old new sink out out' phase_faults.Memory = tt

-- which of these ends is that no more may be published
pub load_not_full : {X : Type 0} (fault : LoadFault) → end_of fault ≡ ends.Full → X
load_not_full (load.Stopped stop) is = cc
load_not_full load.ReadFault is = cc
load_not_full load.Memory is = cc

pub phase_full : {X : Type 0} (fault : PhaseFault) → FullOnlyIf X fault → end_of_phase fault ≡ ends.Full → X
phase_full phase_faults.Full reached is = reached
phase_full phase_faults.Memory reached is = cc

-- ---- where a phase isn't written

module _ {C Q : Type 0} (rows : List Row) (lines : List (Vec ℕ Global)) (acts : List (Act C Q)) (numbers numbers' : List ℕ) where
  module _ {P T : Type 0} {outcome : C → Option T → Result T (List ℕ)} {line : C → ℕ → Result ℕ (List ℕ) → List ℕ} {reply : Q → ℕ → ℕ → Option T → List ℕ} (loaded : P → Files → Result (List (Act C Q)) Stop) (told : Option Files) (plan : List P) (broke : ℕ → Type 0) (before out out' : Option (List ℕ)) (text : List ℕ) where
    -- the phases so far are answered, and with this one where it is told
    pub cut_ends : (end : End) → IsCutOff rows lines acts numbers numbers' out out' end → Appends before out text
        → ((files : Files) → told ≡ Some files → Answered outcome line reply (phases_over loaded files plan) false numbers text)
        → ((own : List ℕ) (hits : ℕ) (begin : List ℕ) → IsTold rows lines acts own hits begin → numbers' ≡ numbers ++ own → (files : Files) → told ≡ Some files → Answered outcome line reply (phases_over loaded files plan) false numbers' (text ++ begin))
        → Ran outcome line reply loaded told plan broke end numbers' before out'
    cut_ends ends.Done cut taken here behind = absurd cut
    cut_ends (ends.Stopped stop) cut taken here behind = absurd cut
    cut_ends ends.ReadFault cut taken here behind = absurd cut
    cut_ends ends.Full cut taken here behind = absurd cut
    cut_ends ends.WriteFault cut taken here behind = record {
      text = text ++ cut.1;
      answer = λ files is. behind cut.3.0 cut.0 cut.1 cut.3.1 cut.3.2 files is;
      taken = takes_more before out out' text cut.1 taken cut.2;
    }
    cut_ends ends.Memory (inl same) taken here behind = record {
      text = text;
      answer = λ files is. subst (λ x. Answered outcome line reply (phases_over loaded files plan) false x text) (sym same.0) (here files is);
      taken = subst (λ x. Appends before x text) (sym same.1) taken;
    }
    cut_ends ends.Memory (inr wrote) taken here behind = record {
      text = text ++ wrote.1.0;
      answer = λ files is. behind wrote.1.2.0 wrote.0 wrote.1.0 wrote.1.2.1 wrote.1.2.2 files is;
      taken = Appends-trans before out out' text wrote.1.0 taken wrote.1.1;
    }

  pub cut_cause : {F K : Type 0} (shelf : ShelfOf F) (old new : F) (sink : SinkOf K) (first out out' : K) (end : End) → IsCutOff rows lines acts numbers numbers' (sink.taken out) (sink.taken out') end
      → sink.faults first ≤ sink.faults out → CutHasCause (sink.faults out) (sink.faults out') end → EndHasCause shelf old new sink first out' end
  cut_cause shelf old new sink first out out' ends.Done cut later cause = absurd cut
  cut_cause shelf old new sink first out out' (ends.Stopped stop) cut later cause = absurd cut
  cut_cause shelf old new sink first out out' ends.ReadFault cut later cause = absurd cut
  cut_cause shelf old new sink first out out' ends.Full cut later cause = absurd cut
  cut_cause shelf old new sink first out out' ends.WriteFault cut later cause = omega arith
  cut_cause shelf old new sink first out out' ends.Memory cut later cause = tt

  pub cut_full : {X : Type 0} (out out' : Option (List ℕ)) (end : End) → IsCutOff rows lines acts numbers numbers' out out' end → end ≡ ends.Full → X
  cut_full out out' end cut is = absurd (subst (IsCutOff rows lines acts numbers numbers' out out') is cut)

-- ---- what is meant by numbers

module _ {T : Type 0} where
  each_mapped : (A B : ℕ → T → Type 0) → ((n : ℕ) (x : T) → A n x → B n x) → (count : ℕ) (items : List T) → EachMeans A count items → EachMeans B count items
  unfolding EachMeans
  each_mapped A B f count [] each = tt
  each_mapped A B f count (x ∷ items) each = (∥∥₁_map each.0 (f (count + 1) x), each_mapped A B f (count + 1) items each.1)

  -- where everything is meant by each number
  each_blind : (means : ℕ → T → Type 0) → ((n : ℕ) (x : T) → ∥ means n x ∥₁) → (count : ℕ) (items : List T) → EachMeans means count items
  unfolding EachMeans
  each_blind means blind count [] = tt
  each_blind means blind count (x ∷ items) = (blind (count + 1) x, each_blind means blind (count + 1) items)

  -- what the numbers mean over the files of a shelf
  abbrev pub MeansOver : Option Files → (Files → List T) → ℕ → T → Type 0
  MeansOver told pubs n x = (files : Files) → told ≡ Some files → item_at (pubs files) n ≡ Some x

  pub means_blind : (told : Option Files) (pubs : Files → List T) → told ≡ None → (n : ℕ) (x : T) → ∥ MeansOver told pubs n x ∥₁
  means_blind told pubs none n x = ∣ (λ files is. none_is_some files (sym none ∙ is)) ∣₁

  pub means_told : (told : Option Files) (pubs : Files → List T) (files : Files) → told ≡ Some files → EachMeans (MeansOver told pubs) 0 (pubs files)
  means_told told pubs files is =
      each_mapped (λ n x. item_at (pubs files) n ≡ Some x) (MeansOver told pubs)
      (λ n x here others are. ap (λ f. item_at (pubs f) n) (some_same others files (sym are ∙ is)) ∙ here) 0 (pubs files) (each_of_all (pubs files))

-- ---- a plan over files, from one of its phases on

-- the phase at a place is the first of the rest
rest_here : {P : Type 0} (plan : List P) (at : ℕ) (p : P) → at < length plan → p ≡ get_or plan at p → drop at plan ≡ p ∷ drop (at + 1) plan
rest_here plan at p inside here = drop_more plan at p inside ∙ ap (λ x. x ∷ drop (at + 1) plan) (sym here)

pub total_here : {P : Type 0} (size : P → ℕ) (plan : List P) (at : ℕ) (p : P) → at < length plan → p ≡ get_or plan at p → total_size size (drop at plan) ≡ size p + total_size size (drop (at + 1) plan)
unfolding total_size
total_here size plan at p inside here = ap (λ l. total_size size l) (rest_here plan at p inside here)

-- ---- the states of the shelf

pub breaks_to : {X Y : Type 0} (fault : LoadFault) → (X → Y) → BreaksIf X fault → BreaksIf Y fault
breaks_to (load.Stopped stop) f broke = tt
breaks_to load.ReadFault f broke = f broke
breaks_to load.Memory f broke = tt

module _ {P F : Type 0} (reads breaks : P → F → F → Type 0) (plan : List P) where
  -- where the rest of the plan breaks from this state on, so does the whole from the first on
  abbrev pub Leads : ℕ → F → F → Type 0
  Leads at first here = (count : ℕ) (new : F) → BreaksAt reads breaks (drop at plan) count here new → BreaksAt reads breaks plan (at + count) first new

  pub leads_first : (first : F) → Leads 0 first first
  leads_first first count new broke = let same : count ≡ 0 + count = omega arith in subst (λ n. BreaksAt reads breaks plan n first new) same broke

  module _ (at : ℕ) (p : P) (inside : at < length plan) (is : p ≡ get_or plan at p) (first here : F) (leads : Leads at first here) where
    pub leads_more : (mid : F) → reads p here mid → Leads (at + 1) first mid
    unfolding BreaksAt
    leads_more mid read count new broke =
        let same : at + suc count ≡ at + 1 + count = omega arith in
        subst (λ n. BreaksAt reads breaks plan n first new) same (leads (suc count) new (subst (λ l. BreaksAt reads breaks l (suc count) here new) (sym (rest_here plan at p inside is)) (mid, read, broke)))

    pub leads_break : (new : F) → breaks p here new → BreaksAt reads breaks plan at first new
    unfolding BreaksAt
    leads_break new broke =
        let same : at + 0 ≡ at = omega arith in
        subst (λ n. BreaksAt reads breaks plan n first new) same (leads 0 new (subst (λ l. BreaksAt reads breaks l 0 here new) (sym (rest_here plan at p inside is)) broke))

module _ {P C Q : Type 0} (loaded : P → Files → Result (List (Act C Q)) Stop) (files : Files) where
  phases_none : phases_over loaded files [] ≡ []
  unfolding phases_over
  phases_none = refl

  stop_none : stop_over loaded files [] ≡ None
  unfolding stop_over
  stop_none = refl

  module _ (plan : List P) (at : ℕ) (p : P) (inside : at < length plan) (here : p ≡ get_or plan at p) where
    phases_here : phases_over loaded files (drop at plan) ≡ with_loaded (loaded p files) (phases_over loaded files (drop (at + 1) plan))
    unfolding phases_over
    phases_here = ap (λ l. phases_over loaded files l) (rest_here plan at p inside here)

    stop_here : stop_over loaded files (drop at plan) ≡ stop_behind (loaded p files) (stop_over loaded files (drop (at + 1) plan))
    unfolding stop_over
    stop_here = ap (λ l. stop_over loaded files l) (rest_here plan at p inside here)

-- ---- how a run ends

module _ {T C Q : Type 0} (outcome : C → Option T → Result T (List ℕ)) (line : C → ℕ → Result ℕ (List ℕ) → List ℕ) (reply : Q → ℕ → ℕ → Option T → List ℕ) where
  answered_whole : (phases done : List (List (Act C Q))) (numbers text : List ℕ) → phases ≡ done ++ [] → IsSession outcome line reply [] None 1 1 done numbers text → Answered outcome line reply phases true numbers text
  answered_whole phases done numbers text is session = record {
    count = length phases;
    within = le_refl (length phases);
    all = λ whole. refl;
    session = subst (λ x. IsSession outcome line reply [] None 1 1 x numbers text) (sym (take_all (length phases) phases (le_refl (length phases)) ∙ (is ∙ append-nil done))) session;
  }

  answered_first : (phases done rest : List (List (Act C Q))) (numbers text : List ℕ) → phases ≡ done ++ rest → IsSession outcome line reply [] None 1 1 done numbers text
      → (part : Answered outcome line reply phases false numbers text) × (part.count ≡ length done)
  answered_first phases done rest numbers text is session =
      let long : length phases ≡ length done + length rest = ap length is ∙ length-append done rest in (
        record {
          count = length done;
          within = omega arith;
          all = λ whole. absurd (false≢true whole);
          session = subst (λ x. IsSession outcome line reply [] None 1 1 x numbers text) (sym (ap (λ l. take (length done) l) is ∙ take_front done rest)) session;
        },
        refl,
      )

  answered_front : (phases done rest : List (List (Act C Q))) (numbers text : List ℕ) → phases ≡ done ++ rest → IsSession outcome line reply [] None 1 1 done numbers text → Answered outcome line reply phases false numbers text
  answered_front phases done rest numbers text is session = (answered_first phases done rest numbers text is session).0

  pub answered_none : (phases : List (List (Act C Q))) (numbers : List ℕ) → numbers ≡ [] → Answered outcome line reply phases false numbers []
  unfolding IsSession
  answered_none phases numbers none = answered_front phases [] phases numbers [] refl (none, refl)

module _
    {P T C Q : Type 0} (outcome : C → Option T → Result T (List ℕ)) (line : C → ℕ → Result ℕ (List ℕ) → List ℕ) (reply : Q → ℕ → ℕ → Option T → List ℕ) (key : Q → ℕ → CacheKey) (body : Q → T → List ℕ) (capacity : ℕ)
    (means : ℕ → T → Type 0) (loaded : P → Files → Result (List (Act C Q)) Stop) (files : Files) (plan : List P) where
  -- With so many publications the phases before a place of the plan are done, over the files.
  pub record IsOver (at count : ℕ) (last : Option T) (k i : ℕ) (numbers text : List ℕ) (hits : ℕ) (kept_by : List Lane) : Type 0 where
    pub pubs : List T
    pub done : List (List (Act C Q))
    pub counted : count ≡ length pubs
    pub many : length done ≡ at
    pub parts : phases_over loaded files plan ≡ done ++ phases_over loaded files (drop at plan)
    pub stop : stop_over loaded files plan ≡ stop_over loaded files (drop at plan)
    pub reached : IsReached outcome line reply means (phases_over loaded files plan) done (phases_over loaded files (drop at plan)) pubs last k i numbers text
    pub long : length numbers ≡ ask_count (acts_of done)
    pub kept : ((n : ℕ) → HasMeant means (all_made outcome None (phases_over loaded files plan)) n) → AreKept key body capacity (all_made outcome None (phases_over loaded files plan)) (acts_of done) numbers hits kept_by

  pub over_start : (count : ℕ) (numbers : List ℕ) (kept_by : List Lane) → count ≡ 0 → numbers ≡ [] → EachMeans means 0 (all_made outcome None (phases_over loaded files plan)) → KeepAs (λ lane. keeping_none capacity) kept_by
      → IsOver 0 count None 1 1 numbers [] 0 kept_by
  unfolding ask_count keeping_behind hits_in
  over_start count numbers kept_by c none are keep = record {
    pubs = [];
    done = [];
    counted = c;
    many = refl;
    parts = refl;
    stop = refl;
    reached = none_done outcome line reply means (phases_over loaded files plan) numbers [] none refl are;
    long = ap length none;
    kept = λ has. record { hits_are = refl; lanes_keep = keep };
  }

module _
    {P T C Q : Type 0} {outcome : C → Option T → Result T (List ℕ)} {line : C → ℕ → Result ℕ (List ℕ) → List ℕ} {reply : Q → ℕ → ℕ → Option T → List ℕ} {key : Q → ℕ → CacheKey} {body : Q → T → List ℕ} {capacity : ℕ}
    {means : ℕ → T → Type 0} {loaded : P → Files → Result (List (Act C Q)) Stop} {files : Files} {plan : List P} {at count : ℕ} {last : Option T} {k i : ℕ} {numbers text : List ℕ} {hits : ℕ} {kept_by : List Lane}
    (is : IsOver outcome line reply key body capacity means loaded files plan at count last k i numbers text hits kept_by) where
  over_session : ((n : ℕ) → HasMeant means (all_made outcome None (phases_over loaded files plan)) n) → IsSession outcome line reply [] None 1 1 is.done numbers text
  over_session has = answered outcome line reply means (phases_over loaded files plan) is.done (phases_over loaded files (drop at plan)) is.pubs last k i numbers text is.reached has

  pub over_front : ((n : ℕ) → HasMeant means (all_made outcome None (phases_over loaded files plan)) n) → Answered outcome line reply (phases_over loaded files plan) false numbers text
  over_front has = answered_front outcome line reply (phases_over loaded files plan) is.done (phases_over loaded files (drop at plan)) numbers text is.parts (over_session has)

  over_whole : ((n : ℕ) → HasMeant means (all_made outcome None (phases_over loaded files plan)) n) → phases_over loaded files (drop at plan) ≡ [] → Answered outcome line reply (phases_over loaded files plan) true numbers text
  over_whole has none = answered_whole outcome line reply (phases_over loaded files plan) is.done numbers text (is.parts ∙ ap (λ l. is.done ++ l) none) (over_session has)

  -- where the next phase isn't carried out
  pub phase_fault_ends : (broke : ℕ → Type 0) → ((n : ℕ) → HasMeant means (all_made outcome None (phases_over loaded files plan)) n) → (fault : PhaseFault)
      → EndsWith outcome line reply (phases_over loaded files plan) (stop_over loaded files plan) broke (end_of_phase fault) numbers text
  phase_fault_ends broke has phase_faults.Full = over_front has
  phase_fault_ends broke has phase_faults.Memory = over_front has

  none_left : length plan ≤ at → phases_over loaded files (drop at plan) ≡ []
  none_left past = ap (λ l. phases_over loaded files l) (drop_of_length-le plan past) ∙ phases_none loaded files

  -- behind the last phase
  pub done_ends : ((n : ℕ) → HasMeant means (all_made outcome None (phases_over loaded files plan)) n) → length plan ≤ at → (stop_over loaded files plan ≡ None) × Answered outcome line reply (phases_over loaded files plan) true numbers text
  done_ends has past = (is.stop ∙ (ap (λ l. stop_over loaded files l) (drop_of_length-le plan past) ∙ stop_none loaded files), over_whole has (none_left past))

  pub done_hits : ((n : ℕ) → HasMeant means (all_made outcome None (phases_over loaded files plan)) n) → length plan ≤ at → hits ≡ hits_over outcome key body capacity (phases_over loaded files plan) numbers
  done_hits has past =
      let all : is.done ≡ phases_over loaded files plan = sym (append-nil is.done) ∙ sym (is.parts ∙ ap (λ l. is.done ++ l) (none_left past)) in
      (is.kept has).hits_are ∙ ap (λ l. hits_in key body (all_made outcome None (phases_over loaded files plan)) (λ lane. keeping_none capacity) numbers (acts_of l)) all

  module _ (p : P) (inside : at < length plan) (here : p ≡ get_or plan at p) where
    -- where reading the files of the next phase failed
    over_read : (broke : ℕ → Type 0) → ((n : ℕ) → HasMeant means (all_made outcome None (phases_over loaded files plan)) n) → broke at
        → (part : Answered outcome line reply (phases_over loaded files plan) false numbers text) × broke part.count
    over_read broke has this =
        let part = answered_first outcome line reply (phases_over loaded files plan) is.done (phases_over loaded files (drop at plan)) numbers text is.parts (over_session has) in
        (part.0, subst broke (sym (part.1 ∙ is.many)) this)

    -- where the next phase isn't loaded
    pub fault_ends : (broke : ℕ → Type 0) → ((n : ℕ) → HasMeant means (all_made outcome None (phases_over loaded files plan)) n) → (fault : LoadFault) → LoadsAs (loaded p files) (Err fault) → BreaksIf (broke at) fault
        → EndsWith outcome line reply (phases_over loaded files plan) (stop_over loaded files plan) broke (end_of fault) numbers text
    fault_ends broke has (load.Stopped stop) loads this = (
      is.stop ∙ (stop_here loaded files plan at p inside here ∙ ap (λ r. stop_behind r (stop_over loaded files (drop (at + 1) plan))) loads),
      over_whole has (phases_here loaded files plan at p inside here ∙ ap (λ r. with_loaded r (phases_over loaded files (drop (at + 1) plan))) loads),
    )
    fault_ends broke has load.ReadFault loads this = over_read broke has this
    fault_ends broke has load.Memory loads this = over_front has

    module _ (acts : List (Act C Q)) (loads : loaded p files ≡ Ok acts) where
      -- its acts stand before those of the rest
      acts_here : phases_over loaded files (drop at plan) ≡ acts ∷ phases_over loaded files (drop (at + 1) plan)
      acts_here = phases_here loaded files plan at p inside here ∙ ap (λ r. with_loaded r (phases_over loaded files (drop (at + 1) plan))) loads

      parts_here : phases_over loaded files plan ≡ is.done ++ acts ∷ phases_over loaded files (drop (at + 1) plan)
      parts_here = is.parts ∙ ap (λ l. is.done ++ l) acts_here

      reached_here : IsReached outcome line reply means (phases_over loaded files plan) is.done (acts ∷ phases_over loaded files (drop (at + 1) plan)) is.pubs last k i numbers text
      reached_here = subst (λ l. IsReached outcome line reply means (phases_over loaded files plan) is.done l is.pubs last k i numbers text) acts_here is.reached

      pub over_means : EachMeans means count (made outcome last acts)
      over_means =
          subst (λ n. EachMeans means n (made outcome last acts)) (sym is.counted)
          (this_phase outcome line reply means (phases_over loaded files plan) is.done acts (phases_over loaded files (drop (at + 1) plan)) is.pubs last k i numbers text reached_here)

      -- what each lane keeps before the phase
      abbrev keeping_here : ℕ → Keeping
      keeping_here = keeping_so_far key body capacity (all_made outcome None (phases_over loaded files plan)) numbers (acts_of is.done)

      ready_here : ((question : Q) (number : ℕ) → (key question number).number ≡ number) → AreAlike key body (questions_of (acts_of (phases_over loaded files plan)))
          → AreReady key body (is.pubs ++ made outcome last acts) (questions_of (acts_of (phases_over loaded files plan))) keeping_here acts
      ready_here key_numbers alike =
          let now = is.pubs ++ made outcome last acts in let rest = phases_over loaded files (drop (at + 1) plan) in
          let behind = all_made outcome (last_of_acts outcome last acts) rest in
          let whole = this_whole outcome line reply means (phases_over loaded files plan) is.done acts rest is.pubs last k i numbers text reached_here in
          subst (λ l. AreReady key body now (questions_of (acts_of l)) keeping_here acts) (sym parts_here)
          (subst (λ l. AreReady key body now (questions_of (acts_of (is.done ++ acts ∷ rest))) (keeping_so_far key body capacity l numbers (acts_of is.done)) acts) (sym whole)
          (ready_next key body capacity key_numbers now behind is.done rest acts numbers (subst (λ l. AreAlike key body (questions_of (acts_of l))) parts_here alike)))

      -- one phase further
      over_more : (high : ℕ) (own begin : List ℕ) (more : ℕ) (new : List Lane) → high ≡ count + length (made outcome last acts) → NumbersFit count high (lanes acts) own
          → (((n : ℕ) → HasMeant means (all_made outcome None (phases_over loaded files plan)) n) → begin ≡ acts_text reply (is.pubs ++ made outcome last acts) i own (command_lines outcome line k count last acts) acts)
          → (((n : ℕ) → HasMeant means (all_made outcome None (phases_over loaded files plan)) n)
          → (more ≡ hits_in key body (all_made outcome None (phases_over loaded files plan)) keeping_here own acts) × KeepAs (keeping_behind key body (all_made outcome None (phases_over loaded files plan)) keeping_here own acts) new)
          → IsOver outcome line reply key body capacity means loaded files plan (at + 1) high (last_of_acts outcome last acts) (k + command_count acts) (i + ask_count acts) (numbers ++ own) (text ++ begin) (hits + more) new
      over_more high own begin more new highs fit told keeps =
          let all = phases_over loaded files plan in let rest = phases_over loaded files (drop (at + 1) plan) in
          let now = is.pubs ++ made outcome last acts in let counted = is.counted in
          let long : high ≡ length now = (let e = length-append is.pubs (made outcome last acts) in omega arith) in
          let fits : NumbersFit (length is.pubs) (length now) (lanes acts) own = subst (λ n. NumbersFit (length is.pubs) n (lanes acts) own) long (subst (λ n. NumbersFit n high (lanes acts) own) counted fit) in
          record {
            pubs = now;
            done = is.done ++ acts ∷ [];
            counted = long;
            many = (let before = is.many in let e = length-append is.done (acts ∷ []) in omega arith);
            parts = parts_here ∙ sym (append_assoc is.done (acts ∷ []) rest);
            stop = is.stop ∙ (stop_here loaded files plan at p inside here ∙ ap (λ r. stop_behind r (stop_over loaded files (drop (at + 1) plan))) loads);
            reached = phase_more outcome line reply means all is.done acts rest is.pubs last k i numbers text own begin reached_here fits
                (λ has. told has ∙ ap (λ n. acts_text reply now i own (command_lines outcome line k n last acts) acts) counted);
            long = long_more key body capacity is.done acts numbers own count high is.long fit;
            kept = λ has. kept_more key body capacity (all_made outcome None all) is.done acts numbers own hits more kept_by new is.long (is.kept has) (keeps has).0 (keeps has).1;
          }

      -- the same by what carrying out the phase came to: what its rows and lines tell
      pub over_ran : ((question : Q) (number : ℕ) → (key question number).number ≡ number) → AreAlike key body (questions_of (acts_of (phases_over loaded files plan))) → {E : Type 0} (r : Result (Phase T) E) (phase : Phase T) (high : ℕ) → r ≡ Ok phase
          → OnOk r (high ≡ count + length (made outcome last acts)) → IfOk r (λ p. option_map arc_value p.last ≡ last_of_acts outcome last acts)
          → IfOk r (λ p. (numbers : List ℕ) (hits : ℕ) (text : List ℕ) → IsTold p.rows.items p.lines.items acts numbers hits text → NumbersFit count high (lanes acts) numbers)
          → ((before : ℕ → Keeping) → KeepAs before kept_by → IfOk r (λ p. (numbers : List ℕ) (hits : ℕ) (text : List ℕ) → IsTold p.rows.items p.lines.items acts numbers hits text
          → (every : List T) → ((n : ℕ) → n ≤ high → HasMeant means every n) → (asked : List Q) → AreReady key body every asked before acts
          → text ≡ acts_text reply every i numbers (command_lines outcome line k count last acts) acts))
          → ((before : ℕ → Keeping) → KeepAs before kept_by → IfOk r (λ p. (numbers : List ℕ) (hits : ℕ) (text : List ℕ) → IsTold p.rows.items p.lines.items acts numbers hits text
          → (every : List T) → ((n : ℕ) → n ≤ high → HasMeant means every n)
          → (hits ≡ hits_in key body every before numbers acts) × KeepAs (keeping_behind key body every before numbers acts) (map (λ row. row.lane) p.rows.items ++ p.idle.items)))
          → (own : List ℕ) (more : ℕ) (begin : List ℕ) → IsTold phase.rows.items phase.lines.items acts own more begin
          → (latest : Option T) (k' i' : ℕ) (numbers' : List ℕ) (new : List Lane) → latest ≡ option_map arc_value phase.last → k' ≡ k + command_count acts → i' ≡ i + ask_count acts → numbers' ≡ numbers ++ own → new ≡ map (λ row. row.lane) phase.rows.items ++ phase.idle.items
          → IsOver outcome line reply key body capacity means loaded files plan (at + 1) high latest k' i' numbers' (text ++ begin) (hits + more) new
      over_ran key_numbers alike r phase high ok highs lasts fit told keeps own added begin mixed latest k' i' numbers' new latest_is ks ies ns ls =
          let all = phases_over loaded files plan in let rest = phases_over loaded files (drop (at + 1) plan) in let now = is.pubs ++ made outcome last acts in
          let counted : high ≡ count + length (made outcome last acts) = subst (λ r. OnOk r (high ≡ count + length (made outcome last acts))) ok highs in
          let long : high ≡ length now = (let same = is.counted in let e = length-append is.pubs (made outcome last acts) in omega arith) in
          let text_at = λ (has : (n : ℕ) → HasMeant means (all_made outcome None all) n).
          subst (λ r. IfOk r (λ p. (numbers : List ℕ) (hits : ℕ) (text : List ℕ) → IsTold p.rows.items p.lines.items acts numbers hits text
          → (every : List T) → ((n : ℕ) → n ≤ high → HasMeant means every n) → (asked : List Q) → AreReady key body every asked keeping_here acts
          → text ≡ acts_text reply every i numbers (command_lines outcome line k count last acts) acts)) ok (told keeping_here (is.kept has).lanes_keep) own added begin mixed in
          let kept_at = λ (has : (n : ℕ) → HasMeant means (all_made outcome None all) n).
          subst (λ r. IfOk r (λ p. (numbers : List ℕ) (hits : ℕ) (text : List ℕ) → IsTold p.rows.items p.lines.items acts numbers hits text
          → (every : List T) → ((n : ℕ) → n ≤ high → HasMeant means every n)
          → (hits ≡ hits_in key body every keeping_here numbers acts) × KeepAs (keeping_behind key body every keeping_here numbers acts) (map (λ row. row.lane) p.rows.items ++ p.idle.items))) ok (keeps keeping_here (is.kept has).lanes_keep) own added begin mixed in
          let lanes_of = map (λ row. row.lane) phase.rows.items ++ phase.idle.items in
          let more = over_more high own begin added lanes_of counted
          (subst (λ r. IfOk r (λ p. (numbers : List ℕ) (hits : ℕ) (text : List ℕ) → IsTold p.rows.items p.lines.items acts numbers hits text → NumbersFit count high (lanes acts) numbers)) ok fit own added begin mixed)
          (λ has. text_at has now (λ n below. this_list outcome line reply means all is.done acts rest is.pubs last k i numbers text reached_here has n (subst (λ m. n ≤ m) long below)) (questions_of (acts_of all)) (ready_here key_numbers alike))
          (λ has. kept_at has (all_made outcome None all) (λ n below. has n)) in
          let next : latest ≡ last_of_acts outcome last acts = latest_is ∙ subst (λ r. IfOk r (λ p. option_map arc_value p.last ≡ last_of_acts outcome last acts)) ok lasts in
          let Over = λ (l : Option T) (k i : ℕ) (numbers : List ℕ) (by : List Lane). IsOver outcome line reply key body capacity means loaded files plan (at + 1) high l k i numbers (text ++ begin) (hits + added) by in
          subst (λ x. Over x k' i' numbers' new) (sym next)
          (subst (λ x. Over (last_of_acts outcome last acts) x i' numbers' new) (sym ks)
          (subst (λ x. Over (last_of_acts outcome last acts) (k + command_count acts) x numbers' new) (sym ies)
          (subst (λ x. Over (last_of_acts outcome last acts) (k + command_count acts) (i + ask_count acts) x new) (sym ns)
          (subst (λ x. Over (last_of_acts outcome last acts) (k + command_count acts) (i + ask_count acts) (numbers ++ own) x) (sym ls) more))))

-- each publication of the next phase is meant by its number, whether the shelf tells its files or not
pub next_means : {P T C Q : Type 0} (outcome : C → Option T → Result T (List ℕ)) (line : C → ℕ → Result ℕ (List ℕ) → List ℕ) (reply : Q → ℕ → ℕ → Option T → List ℕ) (key : Q → ℕ → CacheKey) (body : Q → T → List ℕ) (capacity : ℕ)
    → (means : ℕ → T → Type 0) (loaded : P → Files → Result (List (Act C Q)) Stop) (told : Option Files) → (told ≡ None → (n : ℕ) (x : T) → ∥ means n x ∥₁)
    → (plan : List P) (at : ℕ) (p : P) → at < length plan → p ≡ get_or plan at p → (acts : List (Act C Q)) (count : ℕ) (last : Option T) (k i : ℕ) (numbers text : List ℕ) (hits : ℕ) (kept_by : List Lane)
    → ((files : Files) → told ≡ Some files → loaded p files ≡ Ok acts) → ((files : Files) → told ≡ Some files → IsOver outcome line reply key body capacity means loaded files plan at count last k i numbers text hits kept_by) → EachMeans means count (made outcome last acts)
next_means outcome line reply key body capacity means loaded None blind plan at p inside here acts count last k i numbers text hits kept_by loads is = each_blind means (blind refl) count (made outcome last acts)
next_means outcome line reply key body capacity means loaded (Some files) blind plan at p inside here acts count last k i numbers text hits kept_by loads is = over_means (is files refl) p inside here acts (loads files refl)
