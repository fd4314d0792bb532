-- Sessions worked by hand.
use Rattle.std.proofs.Common.{◌≡◌, ℕ, ◌+◌, List, [], ◌∷◌, refl, Bool, true, false}
use Rattle.std.specs.Prelude.{Some, None, Ok, Err, Option, Result, codes, bytes_eq, if◌then◌else◌}
use Rattle.std.specs.Fmt.{digits}
use Rattle.gufi_base.specs.Paths.{read_path}
use Rattle.gufi_io.specs.Files.{Files}
use Rattle.gufi_access.specs.Access.{class_for, is_granted, can_list}
use Rattle.gufi_access.specs.Acl.{entries}
use Rattle.gufi_tree.specs.Build.{tree_of}
use Rattle.gufi_tree.specs.Graft.{graft}
use Rattle.gufi_tree.specs.Resolve.{resolve}
use Rattle.gufi_walk.specs.Answer.{answer}
use Rattle.gufi_line.specs.AclField.{acl_field}
use Rattle.gufi_line.specs.AttributeField.{xattrs_of}
use Rattle.gufi_line.specs.LineText.{read_line, read_lines, read_meta, read_line_path}
use Rattle.gufi_trace.specs.TraceText.{trace_means, trace_lines}
use Rattle.gufi_sums.specs.Total.{total}
use Rattle.gufi_users.specs.Users.{principal_of}
use Rattle.gufi_find.specs.Reading.{read_find, read_find_words, wants_primary}
use Rattle.gufi_find.specs.Operands.{primary_named}
use Rattle.gufi_script.specs.declared.act.Act.{Act}
use Rattle.gufi_script.specs.declared.act.Form.TheVariants as forms
use Rattle.gufi_script.specs.declared.act.Act.TheVariants.{Publish, Rollup, Refresh, Ask, Barrier}
use Rattle.gufi_script.specs.declared.fault.ScriptError.{ScriptError}
use Rattle.gufi_script.specs.ScriptText.{PlacedAct}
use Rattle.gufi_plan.specs.Plan.{Setting, Plan, plan, planned_act, search_of, query_of}
use Rattle.gufi_phases.specs.Keeping.{hits_in}
use Rattle.gufi_phases.specs.Loads.{phases_over}
use Rattle.gufi_phases.specs.Phases.{made, last_of_acts}
use Rattle.gufi_phases.specs.Sessions.{all_made}
use Rattle.gufi_phases.specs.declared.load.Stop.{Stop}
use Rattle.gufi_phases.specs.declared.load.Stop.TheVariants.{NoFile}
use Rattle.gufi_session.specs.Session.{session_text, phases_text, fits, reply_body}
use Rattle.gufi_session.specs.Run.{run_of, phase_bytes}
use Rattle.gufi_session.specs.Loaded.{load_phase}
use Rattle.gufi_session.specs.Hits.{session_hits}

-- ---- traces

a1 : List ℕ
a1 = codes "/r|d|1|493|2|101|100|4096|4096|8|10|20|30|\n"

x1 : List ℕ
x1 = codes "/r|d|1|493|2|101|100|4096|4096|8|10|20|30|\n/r/x|f|2|420|1|101|100|0|4096|0|10|20|30|\n"

b1 : List ℕ
b1 = codes "/r|d|1|493|3|101|100|4096|4096|8|10|20|30|\n/r/c|d|2|45|2|102|200|4096|4096|8|10|22|30|\n/r/c/x|f|3|420|1|102|200|7|4096|8|10|21|30|\n"

-- its second line is damaged
w1 : List ℕ
w1 = codes "/r|d|1|493|2|101|100|4096|4096|8|10|20|30|\n/r/x|f|2|420|1|101|100|x|4096|0|10|20|30|\n"

abbrev files : Files
files name =
    if bytes_eq name (codes "a") then Some a1
    else if bytes_eq name (codes "x") then Some x1
    else if bytes_eq name (codes "b") then Some b1
    else if bytes_eq name (codes "w") then Some w1
    else None

-- ---- scripts

abbrev setting : Setting
setting = record { tables = record { users = []; groups = [] }; now = None; delim = 124 }

abbrev find_from : ℕ → List (List ℕ) → Act
find_from lane path = Ask lane (codes "102") path forms.Find []

-- the acts, each on its own line
abbrev placed : ℕ → List Act → List PlacedAct
placed n [] = []
placed n (act ∷ acts) = (n, act) ∷ placed (n + 1) acts

abbrev text_or : Result Plan ScriptError → List ℕ → List ℕ
text_or (Ok p) numbers = session_text files p numbers
text_or (Err fault) numbers = []

abbrev text_of : List Act → List ℕ → List ℕ
text_of acts numbers = text_or (plan setting (placed 1 acts)) numbers

abbrev fits_or : Result Plan ScriptError → List ℕ → Bool
fits_or (Ok p) numbers = fits files p numbers
fits_or (Err fault) numbers = false

abbrev fits_script : List Act → List ℕ → Bool
fits_script acts numbers = fits_or (plan setting (placed 1 acts)) numbers

abbrev stop_or : Result Plan ScriptError → Option Stop
stop_or (Ok p) = (run_of files p).stop
stop_or (Err fault) = None

-- ---- texts and numbers

abbrev three_and_one : List Act
three_and_one = Publish 100 (codes "a") ∷ Barrier ∷ find_from 1 [] ∷ find_from 1 [] ∷ find_from 1 [] ∷ Publish 100 (codes "x") ∷ Barrier ∷ find_from 1 [] ∷ []

each_at_its_number : text_of three_and_one (1 ∷ 1 ∷ 2 ∷ 2 ∷ [])
    ≡ codes "publish 1 number 1\nreply 1 at 1 rows 1\n/\nreply 2 at 1 rows 1\n/\nreply 3 at 2 rows 2\n/\n/x\npublish 2 number 2\nreply 4 at 2 rows 2\n/\n/x\n"
unfolding plan planned_act search_of query_of run_of phase_bytes fits reply_body session_text phases_text a1 x1 b1 trace_means trace_lines read_lines read_line read_line_path read_meta xattrs_of acl_field read_path tree_of resolve principal_of read_find read_find_words wants_primary primary_named total digits can_list is_granted class_for entries answer
each_at_its_number = refl

rising_numbers_fit : fits_script three_and_one (1 ∷ 1 ∷ 2 ∷ 2 ∷ []) ≡ true
unfolding plan planned_act search_of query_of run_of phase_bytes fits reply_body session_text phases_text a1 x1 b1 trace_means trace_lines read_lines read_line read_line_path read_meta xattrs_of acl_field read_path tree_of resolve principal_of read_find read_find_words wants_primary primary_named total digits can_list is_granted class_for entries answer
rising_numbers_fit = refl

falling_numbers_do_not : fits_script three_and_one (1 ∷ 2 ∷ 1 ∷ 2 ∷ []) ≡ false
unfolding plan planned_act search_of query_of run_of phase_bytes fits reply_body session_text phases_text a1 x1 b1 trace_means trace_lines read_lines read_line read_line_path read_meta xattrs_of acl_field read_path tree_of resolve principal_of read_find read_find_words wants_primary primary_named total digits can_list is_granted class_for entries answer
falling_numbers_do_not = refl

damaged_line : text_of (Publish 0 (codes "a") ∷ Publish 0 (codes "w") ∷ Barrier ∷ find_from 1 [] ∷ []) (1 ∷ [])
    ≡ codes "publish 1 number 1\npublish 2 refused 2 BadNumber 8\nreply 1 at 1 rows 1\n/\n"
unfolding plan planned_act search_of query_of run_of phase_bytes fits reply_body session_text phases_text a1 x1 b1 trace_means trace_lines read_lines read_line read_line_path read_meta xattrs_of acl_field read_path tree_of resolve principal_of read_find read_find_words wants_primary primary_named total digits can_list is_granted class_for entries answer w1
damaged_line = refl

none_published : text_of (find_from 1 [] ∷ []) (0 ∷ []) ≡ codes "reply 1 at 0 no index\n"
unfolding plan planned_act search_of query_of run_of phase_bytes fits reply_body session_text phases_text a1 x1 b1 trace_means trace_lines read_lines read_line read_line_path read_meta xattrs_of acl_field read_path tree_of resolve principal_of read_find read_find_words wants_primary primary_named total digits can_list is_granted class_for entries answer
none_published = refl

rollups_and_a_total : text_of (Rollup 5 ∷ Publish 0 (codes "b") ∷ Rollup 100 ∷ Barrier ∷ Ask 1 (codes "103") [] forms.Total [] ∷ []) (2 ∷ [])
    ≡ codes "rollup 1 refused nothing\npublish 2 number 1\nrollup 3 number 2\nreply 1 at 2 total dirs 2 files 1 links 0 others 0 bytes 7 size 7 7 mtime 20 22 uid 101 102 gid 100 200\n"
unfolding plan planned_act search_of query_of run_of phase_bytes fits reply_body session_text phases_text a1 x1 b1 trace_means trace_lines read_lines read_line read_line_path read_meta xattrs_of acl_field read_path tree_of resolve principal_of read_find read_find_words wants_primary primary_named total digits can_list is_granted class_for entries answer
rollups_and_a_total = refl

-- what the subtree held before is gone
subtree_replaced : text_of (Publish 0 (codes "b") ∷ Refresh (codes "c" ∷ []) (codes "a") ∷ Refresh (codes "zz" ∷ []) (codes "a") ∷ Barrier ∷ find_from 1 [] ∷ []) (2 ∷ [])
    ≡ codes "publish 1 number 1\nrefresh 2 number 2\nrefresh 3 refused NotThere\nreply 1 at 2 rows 2\n/\n/c\n"
unfolding plan planned_act search_of query_of run_of phase_bytes fits reply_body session_text phases_text a1 x1 b1 trace_means trace_lines read_lines read_line read_line_path read_meta xattrs_of acl_field read_path tree_of resolve principal_of read_find read_find_words wants_primary primary_named total digits can_list is_granted class_for entries answer graft
subtree_replaced = refl

-- a trace's fault comes first
damaged_part : text_of (Refresh [] (codes "w") ∷ Refresh [] (codes "a") ∷ []) [] ≡ codes "refresh 1 refused 2 BadNumber 8\nrefresh 2 refused nothing\n"
unfolding plan planned_act search_of query_of run_of phase_bytes fits reply_body session_text phases_text a1 x1 b1 trace_means trace_lines read_lines read_line read_line_path read_meta xattrs_of acl_field read_path tree_of resolve principal_of read_find read_find_words wants_primary primary_named total digits can_list is_granted class_for entries answer graft w1
damaged_part = refl

denied_start : text_of (Publish 0 (codes "b") ∷ Barrier ∷ find_from 1 (codes "c" ∷ []) ∷ []) (1 ∷ []) ≡ codes "publish 1 number 1\nreply 1 at 1 denied at depth 1 class owner\n"
unfolding plan planned_act search_of query_of run_of phase_bytes fits reply_body session_text phases_text a1 x1 b1 trace_means trace_lines read_lines read_line read_line_path read_meta xattrs_of acl_field read_path tree_of resolve principal_of read_find read_find_words wants_primary primary_named total digits can_list is_granted class_for entries answer
denied_start = refl

-- a phase sees no publication of a later one, also at a number that doesn't fit
no_later_number : text_of (find_from 1 [] ∷ Barrier ∷ Publish 100 (codes "a") ∷ []) (1 ∷ []) ≡ codes "reply 1 at 1 no index\npublish 1 number 1\n"
unfolding plan planned_act search_of query_of run_of phase_bytes fits reply_body session_text phases_text a1 x1 b1 trace_means trace_lines read_lines read_line read_line_path read_meta xattrs_of acl_field read_path tree_of resolve principal_of read_find read_find_words wants_primary primary_named total digits can_list is_granted class_for entries answer
no_later_number = refl

-- numbers go on behind a phase
numbers_go_on : text_of (find_from 1 [] ∷ Publish 100 (codes "a") ∷ Barrier ∷ Rollup 5 ∷ find_from 1 [] ∷ []) (0 ∷ 2 ∷ [])
    ≡ codes "reply 1 at 0 no index\npublish 1 number 1\nrollup 2 number 2\nreply 2 at 2 rows 1\n/\n"
unfolding plan planned_act search_of query_of run_of phase_bytes fits reply_body session_text phases_text a1 x1 b1 trace_means trace_lines read_lines read_line read_line_path read_meta xattrs_of acl_field read_path tree_of resolve principal_of read_find read_find_words wants_primary primary_named total digits can_list is_granted class_for entries answer
numbers_go_on = refl

stops_at_the_first : stop_or (plan setting (placed 1 (Publish 0 (codes "a") ∷ Barrier ∷ Publish 0 (codes "gone") ∷ Publish 0 (codes "lost") ∷ []))) ≡ Some (NoFile (codes "gone"))
unfolding plan planned_act search_of query_of run_of phase_bytes fits reply_body session_text phases_text a1 x1 b1 trace_means trace_lines read_lines read_line read_line_path read_meta xattrs_of acl_field read_path tree_of resolve principal_of read_find read_find_words wants_primary primary_named total digits can_list is_granted class_for entries answer
stops_at_the_first = refl

-- ---- hits

abbrev hits_or : Result Plan ScriptError → ℕ → List ℕ → Option ℕ
hits_or (Ok p) capacity numbers = Some (session_hits files p capacity numbers)
hits_or (Err fault) capacity numbers = None

-- where each lane keeps so many replies
abbrev hits_of : List Act → ℕ → List ℕ → Option ℕ
hits_of acts capacity numbers = hits_or (plan setting (placed 1 acts)) capacity numbers

abbrev find_as : ℕ → List ℕ → Act
find_as lane user = Ask lane user [] forms.Find []

-- one ask comes again in its lane; another user's and another lane's are their own
hit_in_its_lane : hits_of (Publish 100 (codes "a") ∷ Barrier ∷ find_as 1 (codes "102") ∷ find_as 1 (codes "102") ∷ find_as 1 (codes "103") ∷ find_as 2 (codes "102") ∷ []) 4 (1 ∷ 1 ∷ 1 ∷ 1 ∷ []) ≡ Some 1
unfolding plan planned_act search_of query_of phase_bytes reply_body a1 x1 trace_means trace_lines read_lines read_line read_line_path read_meta xattrs_of acl_field read_path tree_of resolve principal_of read_find read_find_words wants_primary primary_named total digits can_list is_granted class_for entries answer phases_over load_phase all_made made last_of_acts hits_in
hit_in_its_lane = refl

abbrev there_and_back : List Act
there_and_back = Publish 100 (codes "a") ∷ Barrier ∷ find_as 1 (codes "102") ∷ find_as 1 (codes "103") ∷ find_as 1 (codes "102") ∷ []

dropped_for_another : hits_of there_and_back 1 (1 ∷ 1 ∷ 1 ∷ []) ≡ Some 0
unfolding plan planned_act search_of query_of phase_bytes reply_body a1 x1 trace_means trace_lines read_lines read_line read_line_path read_meta xattrs_of acl_field read_path tree_of resolve principal_of read_find read_find_words wants_primary primary_named total digits can_list is_granted class_for entries answer phases_over load_phase all_made made last_of_acts hits_in
dropped_for_another = refl

kept_beside_another : hits_of there_and_back 2 (1 ∷ 1 ∷ 1 ∷ []) ≡ Some 1
unfolding plan planned_act search_of query_of phase_bytes reply_body a1 x1 trace_means trace_lines read_lines read_line read_line_path read_meta xattrs_of acl_field read_path tree_of resolve principal_of read_find read_find_words wants_primary primary_named total digits can_list is_granted class_for entries answer phases_over load_phase all_made made last_of_acts hits_in
kept_beside_another = refl

-- a reply from an earlier publication is none from a later one, and lanes keep theirs over a barrier
hits_at_each_number : hits_of three_and_one 4 (1 ∷ 1 ∷ 2 ∷ 2 ∷ []) ≡ Some 2
unfolding plan planned_act search_of query_of phase_bytes reply_body a1 x1 trace_means trace_lines read_lines read_line read_line_path read_meta xattrs_of acl_field read_path tree_of resolve principal_of read_find read_find_words wants_primary primary_named total digits can_list is_granted class_for entries answer phases_over load_phase all_made made last_of_acts hits_in
hits_at_each_number = refl

none_kept : hits_of three_and_one 0 (1 ∷ 1 ∷ 2 ∷ 2 ∷ []) ≡ Some 0
unfolding plan planned_act search_of query_of phase_bytes reply_body a1 x1 trace_means trace_lines read_lines read_line read_line_path read_meta xattrs_of acl_field read_path tree_of resolve principal_of read_find read_find_words wants_primary primary_named total digits can_list is_granted class_for entries answer phases_over load_phase all_made made last_of_acts hits_in
none_kept = refl
