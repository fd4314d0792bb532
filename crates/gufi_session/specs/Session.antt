-- What a session publishes, and what it writes.
use Rattle.std.specs.Prelude.{◌≡◌, ℕ, zero, suc, ◌+◌, Bool, true, false, not, ◌==◌, ◌&&◌, ◌||◌, nat_le, List, [], ◌∷◌, ◌++◌, length, take, drop, zip, count_by, Option, Some, None, unwrap_or, Result, Ok, Err, slice_get, slice_index_or, codes, decimal}
use Rattle.std.specs.List.{list_all, last_or}
use Rattle.gufi_io.specs.Files.{Files}
use Rattle.gufi_base.specs.declared.record.Row.{Row}
use Rattle.gufi_base.specs.Basics.{is_empty, line}
use Rattle.gufi_base.specs.Paths.{Components}
use Rattle.gufi_rows.specs.PathLines.{path_lines}
use Rattle.gufi_tree.specs.Tree.{Directory}
use Rattle.gufi_snap.specs.Snap.{Snap}
use Rattle.gufi_snap.specs.Refreshed.{refreshed}
use Rattle.gufi_snap.specs.declared.refresh.RefreshFault.{RefreshFault}
use Rattle.gufi_snap.specs.declared.refresh.RefreshFault.TheVariants as refresh_faults
use Rattle.gufi_trace.specs.TraceText.{trace_means, TraceFailure, failure_text}
use Rattle.gufi_sums.specs.Total.{total}
use Rattle.gufi_list.specs.Texts.{total_text}
use Rattle.gufi_select.specs.Columns.{select_lines}
use Rattle.gufi_walk.specs.declared.refusal.Refusal.{Refusal}
use Rattle.gufi_walk.specs.Answer.{reply_rows, Alike}
use Rattle.gufi_walk.specs.Refusals.{refusal_text}
use Rattle.gufi_plan.specs.Plan.{Plan, query_holds}
use Rattle.gufi_plan.specs.declared.search.Query.{Query}
use Rattle.gufi_plan.specs.declared.search.Query.TheVariants.{Finds, Totals, Selects}
use Rattle.gufi_plan.specs.declared.search.Search.{Search}
use Rattle.gufi_plan.specs.declared.act.PlannedAct.{PlannedAct}
use Rattle.gufi_plan.specs.declared.act.PlannedAct.TheVariants.{Publish, Rollup, Refresh, Ask}

-- ---- publications

-- a tree, and the limit of its roll-up
abbrev pub Publication : Type 0
Publication = Snap

-- A publishing command adds a publication, or has a refusal; an ask does nothing.
pub data Published : Type 0 where
  adds : Publication → Published
  refuses : List ℕ → Published
  does_nothing : Published

-- the bytes of a file, which is held where a phase is carried out
abbrev pub bytes_of : Files → List ℕ → List ℕ
bytes_of files name = unwrap_or (files name) []

abbrev pub published : ℕ → Result (List Directory) TraceFailure → Published
published limit (Ok tree) = adds (record { tree = tree; limit = limit })
published limit (Err failure) = refuses (failure_text failure)

abbrev pub rolled : ℕ → Option Publication → Published
rolled limit None = refuses (codes "nothing")
rolled limit (Some last) = adds (record { tree = last.tree; limit = limit })

abbrev pub refresh_fault_text : RefreshFault → List ℕ
refresh_fault_text refresh_faults.NotThere = codes "NotThere"
refresh_fault_text refresh_faults.TooMany = codes "TooMany"
refresh_fault_text refresh_faults.TooDeep = codes "TooDeep"
refresh_fault_text refresh_faults.Memory = []

abbrev pub replaced : Result Publication RefreshFault → Published
replaced (Ok p) = adds p
replaced (Err fault) = refuses (refresh_fault_text fault)

-- A trace's fault comes before all others. The last publication's limit stays.
abbrev pub grafted : Components → Result (List Directory) TraceFailure → Option Publication → Published
grafted path (Err failure) last = refuses (failure_text failure)
grafted path (Ok part) None = refuses (codes "nothing")
grafted path (Ok part) (Some last) = replaced (refreshed last path part)

-- what an act does, behind these publications
abbrev pub outcome : Files → List Publication → PlannedAct → Published
outcome files pubs (Publish delim limit file) = published limit (trace_means delim (bytes_of files file))
outcome files pubs (Rollup limit) = rolled limit (last_or None pubs)
outcome files pubs (Refresh delim path file) = grafted path (trace_means delim (bytes_of files file)) (last_or None pubs)
outcome files pubs (Ask lane search) = does_nothing

abbrev pub with_published : List Publication → Published → List Publication
with_published pubs (adds p) = pubs ++ p ∷ []
with_published pubs (refuses text) = pubs
with_published pubs does_nothing = pubs

-- the publications with those of further acts
abbrev pub pubs_from : Files → List Publication → List PlannedAct → List Publication
pubs_from files pubs [] = pubs
pubs_from files pubs (act ∷ acts) = pubs_from files (with_published pubs (outcome files pubs act)) acts

-- ---- replies

-- what is written of the rows that a query admits
abbrev pub query_answer : Query → Components → List Row → List ℕ
query_answer (Finds find) start rows = line (codes " rows " ++ decimal (length rows)) ++ path_lines rows
query_answer (Totals find) start rows = line (codes " total " ++ total_text (total rows))
query_answer (Selects select) start rows = line (codes " rows " ++ decimal (length rows)) ++ select_lines select start rows

abbrev pub answer_or : Query → Components → Result (List Row) Refusal → List ℕ
answer_or query start (Ok rows) = query_answer query start rows
answer_or query start (Err refusal) = line (codes " " ++ refusal_text refusal)

-- a reply without its head, over a tree
unfoldable pub reply_body : Search → List Directory → List ℕ
reply_body search tree = answer_or search.query search.start (reply_rows tree search.who search.start (query_holds search.query))

abbrev pub reply_head : ℕ → ℕ → List ℕ
reply_head i n = codes "reply " ++ decimal i ++ codes " at " ++ decimal n

-- the reply to ask i at number n, whose publication this is
abbrev pub reply_text : ℕ → ℕ → Option Publication → Search → List ℕ
reply_text i n None search = line (reply_head i n ++ codes " no index")
reply_text i n (Some p) search = reply_head i n ++ reply_body search p.tree

-- the publication of a number, from 1 on
abbrev pub publication_at : List Publication → ℕ → Option Publication
publication_at pubs zero = None
publication_at pubs (suc n) = slice_get pubs n

-- ---- the text of a phase

abbrev pub verb : PlannedAct → List ℕ
verb (Publish delim limit file) = codes "publish "
verb (Rollup limit) = codes "rollup "
verb (Refresh delim path file) = codes "refresh "
verb (Ask lane search) = []

-- the line of publishing command k, where the list has this length after it
abbrev pub outcome_text : List ℕ → ℕ → ℕ → Published → List ℕ
outcome_text verb k count (adds p) = line (verb ++ decimal k ++ codes " number " ++ decimal count)
outcome_text verb k count (refuses text) = line (verb ++ decimal k ++ codes " refused " ++ text)
outcome_text verb k count does_nothing = []

-- The replies of acts in order: all is the list of publications at the end of the phase, k and i are the numbers of the
-- next publishing command and ask, pubs is the list so far, and numbers has one for each ask.
abbrev pub text_from : Files → List Publication → ℕ → ℕ → List Publication → List ℕ → List PlannedAct → List ℕ
text_from files all k i pubs numbers [] = []
text_from files all k i pubs numbers (Ask lane search ∷ acts) =
    let n = slice_index_or numbers 0 0 in
    reply_text i n (publication_at all n) search ++ text_from files all k (i + 1) pubs (drop 1 numbers) acts
text_from files all k i pubs numbers (act ∷ acts) =
    let o = outcome files pubs act in
    outcome_text (verb act) k (length (with_published pubs o)) o ++ text_from files all (k + 1) i (with_published pubs o) numbers acts

-- ---- the text of phases

-- the lane of each ask
abbrev pub lanes : List PlannedAct → List ℕ
lanes [] = []
lanes (Ask lane search ∷ acts) = lane ∷ lanes acts
lanes (act ∷ acts) = lanes acts

abbrev pub is_ask : PlannedAct → Bool
is_ask (Publish delim limit file) = false
is_ask (Rollup limit) = false
is_ask (Refresh delim path file) = false
is_ask (Ask lane search) = true

-- The text of phases, where k and i are the numbers of the next publishing command and ask. A phase sees the publications up to its own end.
unfoldable pub phases_text : Files → ℕ → ℕ → List Publication → Plan → List ℕ → List ℕ
phases_text files k i pubs [] numbers = []
phases_text files k i pubs (phase ∷ phases) numbers =
    let after = pubs_from files pubs phase in
    let count = length (lanes phase) in
    text_from files after k i pubs (take count numbers) phase
    ++ phases_text files (k + count_by (λ act. not (is_ask act)) phase) (i + count) after phases (drop count numbers)

-- the text of a plan, with a number for each of its asks
unfoldable pub session_text : Files → Plan → List ℕ → List ℕ
session_text files plan numbers = phases_text files 1 1 [] plan numbers

-- ---- numbers

-- a number for each ask of a phase, within its bounds, and never falling in one lane
abbrev pub never_falls : List (ℕ × ℕ) → Bool
never_falls [] = true
never_falls (ask ∷ later) = list_all (λ next. not (next.0 == ask.0) || nat_le ask.1 next.1) later && never_falls later

abbrev pub phase_fits : ℕ → ℕ → List ℕ → List ℕ → Bool
phase_fits least most lanes numbers =
    length numbers == length lanes && list_all (λ n. nat_le least n && nat_le n most) numbers && never_falls (zip lanes numbers)

-- Each phase of these has its numbers, and there are no others.
abbrev pub phases_fit : Files → List Publication → Plan → List ℕ → Bool
phases_fit files pubs [] numbers = is_empty numbers
phases_fit files pubs (phase ∷ phases) numbers =
    let after = pubs_from files pubs phase in
    let count = length (lanes phase) in
    phase_fits (length pubs) (length after) (lanes phase) (take count numbers) && phases_fit files after phases (drop count numbers)

unfoldable pub fits : Files → Plan → List ℕ → Bool
fits files plan numbers = phases_fit files [] plan numbers

-- To one who can't tell two publications apart by what may be listed, each search has one reply from both.
abbrev pub RepliesArePrivate : Type 0
RepliesArePrivate = (p other : Publication) (search : Search) → Alike p.tree other.tree search.who search.start
    → (i n : ℕ) → reply_text i n (Some p) search ≡ reply_text i n (Some other) search
