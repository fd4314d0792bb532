-- Lemmas on commands without a USER that read an index: `index2trace`, `info` and `refresh`.
use Rattle.std.proofs.Common.{◌≡◌, ◌≢◌, ℕ, ◌+◌, ◌-◌, ◌≤◌, Bool, true, List, [], length, refl, sym, ap, ◌∙◌, arith, inl, inr}
use Rattle.std.specs.Prelude.{Option, Some, None, option_map, Result, Ok, Err, is_ok, Vec}
use Rattle.std.specs.declared.alloc.Global.{Global}
use Rattle.std.proofs.lemmas.Bool.{false≢true, not-true, cases_Bool}
use Rattle.gufi_io.specs.Files.{Files}
use Rattle.gufi_base.specs.Basics.{◌>>=◌, result_map_err, GivesUnless}
use Rattle.gufi_base.specs.Paths.{Components}
use Rattle.gufi_tree.specs.declared.tree.DirId.{DirId}
use Rattle.gufi_tree.specs.Tree.{Directory, has_dir, place_of, is_too_large, HasTreeShape}
use Rattle.gufi_tree.specs.Places.{dir_id, path_at}
use Rattle.gufi_tree.specs.Graft.{graft, is_too_deep}
use Rattle.gufi_tree.proofs.Below.{below_dirs}
use Rattle.gufi_snap.specs.Snap.{Snap}
use Rattle.gufi_snap.specs.Refreshed.{refreshed}
use Rattle.gufi_snap.specs.declared.refresh.RefreshFault.{RefreshFault}
use Rattle.gufi_snap.specs.declared.refresh.RefreshFault.TheVariants as faults
use Rattle.gufi_tree.proofs.Linked.{place_within}
use Rattle.gufi_tree.proofs.Ranges.{below_within}
use Rattle.gufi_snap.proofs.Ancestors.{found_some}
use Rattle.gufi_snap.proofs.Refusing.{gives_not_there, gives_graft, found_path}
use Rattle.gufi_snap.proofs.Counting.{sizes_after}
use Rattle.gufi_trace.specs.TraceWriting.{written_trace}
use Rattle.gufi_trace.specs.Writing.{GivesText}
use Rattle.gufi_trace.specs.declared.writer.WriteTraceFault.{WriteTraceFault}
use Rattle.gufi_trace.specs.declared.writer.WriteTraceFault.TheVariants as unwritten
use Rattle.gufi_image.specs.Image.{image_text}
use Rattle.gufi_info.specs.Info.{info_text}
use Rattle.gufi_top.specs.declared.halt.Output.{Output}
use Rattle.gufi_top.specs.declared.halt.Halt.{Halt}
use Rattle.gufi_top.specs.declared.halt.Halt.TheVariants as halts
use Rattle.gufi_top.specs.declared.index.Indexed.{Indexed}
use Rattle.gufi_top.specs.Views.{text_view}
use Rattle.gufi_top.specs.Calls.{Gives, GivesOver}
use Rattle.gufi_top.specs.Reasons.{Reason, not_found as no_file, unwritten_reason, refresh_reason, trace_in, is_image, index_in, told_in}
use Rattle.gufi_top.specs.Verdict.{writes_only, trace_written, index2trace_over, info_over, refreshed_image, refresh_by, refresh_over}
use Rattle.gufi_top.specs.Complete.{RefreshIsAnswerable}
use Rattle.gufi_top.proofs.ReadingLemmas.{given_as}
use Rattle.gufi_top.proofs.StepLemmas.{over_ok, over_err, given_over}

-- ---- index2trace

pub trace_ok : (index : List ℕ) (delim : ℕ) (tree : List Directory) (out : Vec ℕ Global) (text : Output) → GivesText (Ok out) (written_trace tree [] delim)
    → (text.out.items ≡ out.items) × (text.notes.items ≡ []) → Gives text_view (Ok text) (trace_written index delim tree)
trace_ok index delim tree out text is (same, none) = rw (is, same, none) refl

-- a tree that isn't written, for whichever fault
unwritten_as : (index : List ℕ) (given : Result (List ℕ) WriteTraceFault) (fault : WriteTraceFault) (r : Result Output Halt) → given ≡ Err fault
    → Gives (λ x. x) r (Err (unwritten_reason index fault)) → Gives text_view r (result_map_err (unwritten_reason index) given >>= writes_only)
unwritten_as index given fault r is reason = given_as text_view r (unwritten_reason index fault) _ reason (rw is refl)

pub trace_err : (index : List ℕ) (delim : ℕ) (tree : List Directory) (fault : WriteTraceFault) (r : Result Output Halt) → GivesText (Err fault) (written_trace tree [] delim)
    → (fault ≢ unwritten.Memory → Gives (λ x. x) r (Err (unwritten_reason index fault))) → (fault ≡ unwritten.Memory → r ≡ Err halts.Memory) → Gives text_view r (trace_written index delim tree)
trace_err index delim tree unwritten.DelimUsed r is reason memory = unwritten_as index _ _ r (is (λ e. cc)) (reason (λ e. cc))
trace_err index delim tree unwritten.TooLong r is reason memory = unwritten_as index _ _ r (is (λ e. cc)) (reason (λ e. cc))
trace_err index delim tree unwritten.Memory r is reason memory = rw (memory refl) tt

pub ruleset traces = (trace_ok, trace_err)

pub index2trace_ok : (told : Option Files) (index : List ℕ) (delim : ℕ) (snap : Snap) (r : Result Output Halt)
    → GivesOver {A = Snap} told (λ s. s) (Ok snap) (index_in delim 0 index) → Gives text_view r (trace_written index delim snap.tree) → GivesOver told text_view r (index2trace_over index delim)
unfolding index2trace_over
index2trace_ok told index delim snap r read given = over_ok told (λ s. s) text_view snap r (index_in delim 0 index) (λ s files. trace_written index delim s.tree) read (given_over told text_view r _ given)

pub index2trace_err : (told : Option Files) (index : List ℕ) (delim : ℕ) (e : Halt)
    → GivesOver {A = Snap} told (λ s. s) (Err e) (index_in delim 0 index) → GivesOver told text_view (Err e) (index2trace_over index delim)
unfolding index2trace_over
index2trace_err told index delim e read = over_err told (λ s. s) text_view e (index_in delim 0 index) (λ s files. trace_written index delim s.tree) read

pub ruleset trace_steps = (index2trace_ok, index2trace_err)

pub unwritten_ok : (index : List ℕ) (given : Result (List ℕ) WriteTraceFault) → is_ok given ≡ true → is_ok (result_map_err (unwritten_reason index) given) ≡ true
unwritten_ok index (Ok text) h = h
unwritten_ok index (Err fault) h = h

-- ---- info

pub info_ok : (told : Option Files) (index : List ℕ) (delim limit : ℕ) (indexed : Indexed) (r : Result Output Halt) → GivesOver {A = Indexed} told (λ i. i) (Ok indexed) (told_in delim limit index)
    → Gives text_view r (writes_only (info_text indexed.image indexed.bytes indexed.snap.tree indexed.snap.limit)) → GivesOver told text_view r (info_over index delim limit)
unfolding info_over
info_ok told index delim limit indexed r read given =
    over_ok told (λ i. i) text_view indexed r (told_in delim limit index) (λ i files. writes_only (info_text i.image i.bytes i.snap.tree i.snap.limit)) read (given_over told text_view r _ given)

pub info_err : (told : Option Files) (index : List ℕ) (delim limit : ℕ) (e : Halt)
    → GivesOver {A = Indexed} told (λ i. i) (Err e) (told_in delim limit index) → GivesOver told text_view (Err e) (info_over index delim limit)
unfolding info_over
info_err told index delim limit e read = over_err told (λ i. i) text_view e (told_in delim limit index) (λ i files. writes_only (info_text i.image i.bytes i.snap.tree i.snap.limit)) read

pub ruleset info_steps = (info_ok, info_err)

-- an index that is read is there
no_index : (delim limit : ℕ) (index : List ℕ) (files : Files) → files index ≡ None → index_in delim limit index files ≡ Err (no_file index)
unfolding index_in
no_index delim limit index files none = rw none refl

told_then : (image : Bool) (bytes : ℕ) (read : Result Snap Reason) → is_ok read ≡ true
    → is_ok (read >>= λ snap. let indexed : Result Indexed Reason = Ok (record { image = image; bytes = bytes; snap = snap }) in indexed) ≡ true
told_then image bytes (Ok snap) h = refl
told_then image bytes (Err why) h = absurd (false≢true h)

told_by : (delim limit : ℕ) (index : List ℕ) (files : Files) (found : Option (List ℕ)) → files index ≡ found → is_ok (index_in delim limit index files) ≡ true → is_ok (told_in delim limit index files) ≡ true
unfolding told_in
told_by delim limit index files None is can = absurd (false≢true (sym (ap is_ok (no_index delim limit index files is)) ∙ can))
told_by delim limit index files (Some bytes) is can = rw is (told_then (is_image bytes) (length bytes) (index_in delim limit index files) can)

pub told_where_read : (delim limit : ℕ) (index : List ℕ) (files : Files) → is_ok (index_in delim limit index files) ≡ true → is_ok (told_in delim limit index files) ≡ true
told_where_read delim limit index files can = told_by delim limit index files (files index) refl can

-- ---- refresh

-- how many directories there are then
pub dirs_found : (tree part : List Directory) (path : Components) (id : DirId) → HasTreeShape tree → HasTreeShape part → option_map dir_id (place_of tree path) ≡ Some id
    → length tree - length (below_dirs tree (path_at tree id.0)) + length part ≡ length (graft tree path part)
dirs_found tree part path id shape own found =
    let within = place_within tree path id.0 (found_some (place_of tree path) id found) in
    (sizes_after tree part id.0 shape own within).0 ∙ ap (λ (p : Components). length (graft tree p part)) (found_path tree path id found)

-- those that are replaced are among those that there were
pub dirs_within : (tree : List Directory) (path : Components) (id : DirId) → HasTreeShape tree → option_map dir_id (place_of tree path) ≡ Some id
    → length (below_dirs tree (path_at tree id.0)) ≤ length tree
dirs_within tree path id shape found = omega (arith, below_within tree id.0 shape.order (place_within tree path id.0 (found_some (place_of tree path) id found)))

pub graft_ok : (trace : List ℕ) (limit : ℕ) (path : Components) (snap after : Snap) (part : List Directory) (r : Result Output Halt) → GivesUnless faults.Memory (Ok after) (refreshed snap path part)
    → Gives text_view r (writes_only (image_text after.tree limit)) → Gives text_view r (refreshed_image trace limit path snap part)
graft_ok trace limit path snap after part r is given = rw is given

-- whatever is refused but that it isn't there is refused of a directory that is there
is_there : (path : Components) (snap : Snap) (part : List Directory) (fault : RefreshFault) → refreshed snap path part ≡ Err fault → fault ≢ faults.NotThere → has_dir snap.tree path ≡ true
is_there path snap part fault is other =
    elim (cases_Bool (has_dir snap.tree path)) [
      | inl there ↦ there
      | inr away ↦ let none = gives_not_there snap path part away in absurd (other (cc))
    ]

refused_as : (trace : List ℕ) (limit : ℕ) (path : Components) (snap : Snap) (part : List Directory) (fault : RefreshFault) (dirs : ℕ) (r : Result Output Halt) → refreshed snap path part ≡ Err fault
    → fault ≢ faults.Memory → (has_dir snap.tree path ≡ true → dirs ≡ length (graft snap.tree path part))
    → ((tree : List Directory) → (fault ≢ faults.NotThere → dirs ≡ length tree) → fault ≢ faults.Memory → Gives (λ x. x) r (Err (refresh_reason trace tree fault)))
    → Gives text_view r (refreshed_image trace limit path snap part)
refused_as trace limit path snap part fault dirs r is other count reason =
    given_as text_view r (refresh_reason trace (graft snap.tree path part) fault) _ (reason (graft snap.tree path part) (λ there. count (is_there path snap part fault is there)) other) (rw is refl)

pub graft_err : (trace : List ℕ) (limit : ℕ) (path : Components) (snap : Snap) (part : List Directory) (fault : RefreshFault) (dirs : ℕ) (r : Result Output Halt)
    → GivesUnless faults.Memory (Err fault) (refreshed snap path part) → (has_dir snap.tree path ≡ true → dirs ≡ length (graft snap.tree path part))
    → ((tree : List Directory) → (fault ≢ faults.NotThere → dirs ≡ length tree) → fault ≢ faults.Memory → Gives (λ x. x) r (Err (refresh_reason trace tree fault)))
    → (fault ≡ faults.Memory → r ≡ Err halts.Memory) → Gives text_view r (refreshed_image trace limit path snap part)
graft_err trace limit path snap part faults.NotThere dirs r is count reason memory = refused_as trace limit path snap part faults.NotThere dirs r (is (λ e. cc)) (λ e. cc) count reason
graft_err trace limit path snap part faults.TooMany dirs r is count reason memory = refused_as trace limit path snap part faults.TooMany dirs r (is (λ e. cc)) (λ e. cc) count reason
graft_err trace limit path snap part faults.TooDeep dirs r is count reason memory = refused_as trace limit path snap part faults.TooDeep dirs r (is (λ e. cc)) (λ e. cc) count reason
graft_err trace limit path snap part faults.Memory dirs r is count reason memory = rw (memory refl) tt

pub ruleset grafts = (graft_ok, graft_err)

pub refresh_by_ok : (told : Option Files) (delim limit : ℕ) (path : Components) (trace : List ℕ) (snap : Snap) (part : List Directory) (r : Result Output Halt)
    → GivesOver {A = List Directory} told (λ t. t) (Ok part) (trace_in delim trace) → Gives text_view r (refreshed_image trace limit path snap part) → GivesOver told text_view r (refresh_by delim limit path trace snap)
unfolding refresh_by
refresh_by_ok told delim limit path trace snap part r read given = over_ok told (λ t. t) text_view part r (trace_in delim trace) (λ t files. refreshed_image trace limit path snap t) read (given_over told text_view r _ given)

pub refresh_by_err : (told : Option Files) (delim limit : ℕ) (path : Components) (trace : List ℕ) (snap : Snap) (e : Halt)
    → GivesOver {A = List Directory} told (λ t. t) (Err e) (trace_in delim trace) → GivesOver told text_view (Err e) (refresh_by delim limit path trace snap)
unfolding refresh_by
refresh_by_err told delim limit path trace snap e read = over_err told (λ t. t) text_view e (trace_in delim trace) (λ t files. refreshed_image trace limit path snap t) read

pub refresh_ok : (told : Option Files) (index : List ℕ) (delim limit : ℕ) (path : Components) (trace : List ℕ) (snap : Snap) (r : Result Output Halt)
    → GivesOver {A = Snap} told (λ s. s) (Ok snap) (index_in delim limit index) → GivesOver told text_view r (refresh_by delim limit path trace snap) → GivesOver told text_view r (refresh_over index delim limit path trace)
unfolding refresh_over
refresh_ok told index delim limit path trace snap r read given = over_ok told (λ s. s) text_view snap r (index_in delim limit index) (λ s files. refresh_by delim limit path trace s files) read given

pub refresh_err : (told : Option Files) (index : List ℕ) (delim limit : ℕ) (path : Components) (trace : List ℕ) (e : Halt)
    → GivesOver {A = Snap} told (λ s. s) (Err e) (index_in delim limit index) → GivesOver told text_view (Err e) (refresh_over index delim limit path trace)
unfolding refresh_over
refresh_err told index delim limit path trace e read = over_err told (λ s. s) text_view e (index_in delim limit index) (λ s files. refresh_by delim limit path trace s files) read

pub ruleset refresh_steps = (refresh_by_ok, refresh_by_err, refresh_ok, refresh_err)

-- what is written where nothing is refused
pub refresh_text : (index : List ℕ) (delim limit : ℕ) (path : Components) (trace : List ℕ) (files : Files) (can : RefreshIsAnswerable index delim limit path trace files)
    → refresh_over index delim limit path trace files ≡ writes_only (image_text (graft can.snap.tree path can.part) limit)
unfolding refresh_over refresh_by
refresh_text index delim limit path trace files can =
    let tree = graft can.snap.tree path can.part in
    ap (λ (r : Result Snap Reason). r >>= λ snap. refresh_by delim limit path trace snap files) can.indexed
    ∙ ap (λ (r : Result (List Directory) Reason). r >>= refreshed_image trace limit path can.snap) can.traced
    ∙ ap (λ (r : Result Snap RefreshFault). result_map_err (refresh_reason trace tree) r >>= λ after. writes_only (image_text after.tree limit))
    (gives_graft can.snap path can.part can.there (not-true (is_too_large tree) can.few) (not-true (is_too_deep tree) can.short))
