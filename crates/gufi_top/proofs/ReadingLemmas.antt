-- Lemmas on files that are read.
use Rattle.std.proofs.Common.{◌≡◌, ℕ, ◌^◌, ◌<◌, ◌≤◌, List, ◌++◌, length, refl, sym, ap, ◌∙◌, arith, true}
use Rattle.std.specs.Prelude.{Option, Some, None, Result, Ok, Err, nat_lt, Vec}
use Rattle.std.specs.declared.alloc.Global.{Global}
use Rattle.std.proofs.lemmas.List.{length-append}
use Rattle.std.proofs.lemmas.Bool.Decides.{nat_tests}
use Rattle.gufi_io.specs.Files.{Files, Holds, Lacks, HoldsFront, IsReadUpTo}
use Rattle.gufi_base.specs.Basics.{◌>>=◌, result_map_err, GivesUnless}
use Rattle.gufi_base.specs.Limits.{max_trace}
use Rattle.gufi_base.specs.declared.record.Line.{Line}
use Rattle.gufi_tree.specs.Tree.{Directory}
use Rattle.gufi_tree.specs.Build.{tree_of}
use Rattle.gufi_tree.specs.declared.fault.TreeFault.{TreeFault}
use Rattle.gufi_trace.specs.TraceText.{trace_lines, trace_means, of_line, of_tree}
use Rattle.gufi_trace.specs.Reader.{Reading, HasRead}
use Rattle.gufi_line.specs.declared.fault.TraceFault.{TraceFault}
use Rattle.gufi_line.specs.declared.fault.TraceError.{TraceError}
use Rattle.gufi_line.specs.declared.fault.TraceError.TheVariants as errors
use Rattle.gufi_top.specs.declared.halt.Halt.{Halt}
use Rattle.gufi_top.specs.declared.halt.Halt.TheVariants as halts
use Rattle.gufi_top.specs.Reasons.{Reason, held, not_found, past_limit, file_in, trace_in, tree_within, trace_reason}
use Rattle.gufi_top.specs.Calls.{Gives, GivesOver}
use Rattle.gufi_top.specs.Views.{bytes_view}
use Rattle.gufi_top.specs.Fed.{lines_within, lines_in, HasReadFile, IsFedUpTo, IsCount, HasBytes}

pub file_whole : (told : Option Files) (max : ℕ) (name : List ℕ) (bytes : Vec ℕ Global) → Holds told name bytes.items → length bytes.items ≤ max
    → GivesOver told bytes_view (Ok bytes) (file_in max name)
unfolding file_in
file_whole None max name bytes held short = tt
file_whole (Some files) max name bytes held short = rw held (grind (arith, nat_tests))

pub file_absent : (told : Option Files) (max : ℕ) (name : List ℕ) (note : Vec ℕ Global) → Lacks told name → note.items ≡ (not_found name).note
    → GivesOver told bytes_view (Err (halts.Refused 8 note)) (file_in max name)
unfolding file_in
file_absent None max name note lacks is = tt
file_absent (Some files) max name note lacks is = rw (lacks, is) refl

longer : (max : ℕ) (bytes rest : List ℕ) → max < length bytes → nat_lt max (length (bytes ++ rest)) ≡ true
longer max bytes rest long = rw length-append (grind (arith, nat_tests))

pub file_too_long : (told : Option Files) (max : ℕ) (name : List ℕ) (bytes : List ℕ) (note : Vec ℕ Global) → HoldsFront told name bytes → max < length bytes → note.items ≡ (past_limit name max).note
    → GivesOver told bytes_view (Err (halts.Refused 6 note)) (file_in max name)
unfolding file_in
file_too_long None max name bytes note front long is = tt
file_too_long (Some files) max name bytes note front long is = rw (front.1, longer max bytes front.0 long, is) refl

pub ruleset reading = (file_whole, file_absent, file_too_long)

-- a file that can't be taken in hand
pub unheld : (told : Option Files) (name : List ℕ) (note : Vec ℕ Global) → Lacks told name → note.items ≡ (not_found name).note
    → GivesOver told bytes_view (Err (halts.Refused 8 note)) (λ files. held files name)
unheld None name note lacks is = tt
unheld (Some files) name note lacks is = rw (lacks, is) refl

pub ruleset opening = unheld

-- ---- a file that is fed as it comes

pub fed_from_front : (told : Option Files) (name front : List ℕ) (left : Option (List ℕ)) (reader : Reading) → HasRead reader front → IsReadUpTo told name front left → IsFedUpTo told name left reader (length front)
fed_from_front told name front left reader read upto = record { bytes = front; taken = read; count = refl; upto = upto }

-- a file that was read whole isn't too long for its count
pub counted : (told : Option Files) (name bytes : List ℕ) (max count : ℕ) → Holds told name bytes → length bytes ≤ max → max < 2 ^ 64 → IsCount count bytes → HasBytes told name count
counted None name bytes max count holds short fits is = tt
counted (Some files) name bytes max count holds short fits is = (bytes, holds, omega arith)

-- ---- lines, and the tree of them

-- a call that tells a reason, as one of a step that gives it
pub given_as : {A B : Type 0} (view : A → B) (r : Result A Halt) (why : Reason) (step : Result B Reason) → Gives (λ x. x) r (Err why) → step ≡ Err why → Gives view r step
given_as view (Ok x) why step told is = cc
given_as view (Err (halts.Refused status note)) why step told is = is ∙ cc
given_as view (Err halts.ReadFault) why step told is = tt
given_as view (Err halts.Memory) why step told is = tt

abbrev line_reason : List ℕ → TraceError → Reason
line_reason name e = trace_reason name (of_line e)

-- the file's bytes are within the limit
pub held_bytes : (max : ℕ) (files : Files) (name bytes : List ℕ) → files name ≡ Some bytes → length bytes ≤ max → file_in max name files ≡ Ok bytes
unfolding file_in
held_bytes max files name bytes held short = rw held (grind (arith, nat_tests))

lines_are : (files : Files) (delim : ℕ) (name bytes : List ℕ) → files name ≡ Some bytes → length bytes ≤ max_trace → lines_in delim name files ≡ lines_within delim name bytes
unfolding lines_in
lines_are files delim name bytes held short = ap (λ (r : Result (List ℕ) Reason). r >>= lines_within delim name) (held_bytes max_trace files name bytes held short)

pub lines_read : (delim : ℕ) (name bytes : List ℕ) (lines : List Line) → trace_lines delim bytes ≡ Ok lines → lines_within delim name bytes ≡ Ok lines
unfolding lines_within
lines_read delim name bytes lines read = ap (result_map_err (line_reason name)) read

pub lines_refused : (delim : ℕ) (name bytes : List ℕ) (fault : TraceFault) (r : Result (List Line) Halt)
    → GivesUnless errors.Memory (Err (errors.Fault fault)) (trace_lines delim bytes) → Gives (λ x. x) r (Err (trace_reason name (of_line (errors.Fault fault)))) → Gives (λ ls. ls) r (lines_within delim name bytes)
unfolding lines_within
lines_refused delim name bytes fault r read told = given_as (λ ls. ls) r (trace_reason name (of_line (errors.Fault fault))) _ told (ap (result_map_err (line_reason name)) (read (λ e. absurd cc)))

pub lines_ok : (told : Option Files) (delim : ℕ) (name : List ℕ) (reader : Reading) (r : Result (List Line) Halt) → HasReadFile told name reader → reader.delim ≡ delim
    → ((stream : List ℕ) → HasRead reader stream → Gives (λ ls. ls) r (lines_within reader.delim name stream)) → GivesOver told (λ ls. ls) r (lines_in delim name)
lines_ok None delim name reader r file is read = tt
lines_ok (Some files) delim name reader r file is read = rw (lines_are files delim name file.0 file.1 file.2, sym is) (read file.0 file.3)

-- a reason that stays the reason of what follows
pub stays : {A B : Type 0} (e : Halt) (step : Result A Reason) (next : Result B Reason) → Gives {A = A} (λ x. x) (Err e) step → ((why : Reason) → step ≡ Err why → next ≡ Err why) → Gives {A = B} (λ x. x) (Err e) next
stays (halts.Refused status note) step next told goes_on = goes_on _ told
stays halts.ReadFault step next told goes_on = tt
stays halts.Memory step next told goes_on = tt

pub lines_err : (told : Option Files) (delim : ℕ) (name : List ℕ) (e : Halt) → GivesOver told bytes_view (Err e) (file_in max_trace name) → GivesOver {A = List Line} told (λ ls. ls) (Err e) (lines_in delim name)
unfolding lines_in
lines_err None delim name e file = tt
lines_err (Some files) delim name e file = stays e (file_in max_trace name files) _ file (λ why is. rw is refl)

pub ruleset lines = (fed_from_front, lines_ok, lines_err)

-- ---- the tree of a trace in a file

-- what lines and the tree of them come to
abbrev through : List ℕ → Result (List Line) TraceError → (List Line → Result (List Directory) TreeFault) → Result (List Directory) Reason
through name lines tree = result_map_err (trace_reason name) (result_map_err of_line lines >>= λ ls. result_map_err of_tree (tree ls))

abbrev tree_reason : List ℕ → TreeFault → Reason
tree_reason name f = trace_reason name (of_tree f)

mapped_twice : (name : List ℕ) (tree : Result (List Directory) TreeFault) → result_map_err (trace_reason name) (result_map_err of_tree tree) ≡ result_map_err (tree_reason name) tree
mapped_twice name (Ok t) = refl
mapped_twice name (Err f) = refl

through_ok : (name : List ℕ) (lines : Result (List Line) TraceError) (tree : List Line → Result (List Directory) TreeFault) (ls : List Line)
    → result_map_err (line_reason name) lines ≡ Ok ls → through name lines tree ≡ result_map_err (tree_reason name) (tree ls)
through_ok name (Ok ms) tree ls read = let e : ms ≡ ls = cc in rw e (mapped_twice name (tree ls))
through_ok name (Err e) tree ls read = cc

through_err : (name : List ℕ) (lines : Result (List Line) TraceError) (tree : List Line → Result (List Directory) TreeFault) (why : Reason)
    → result_map_err (line_reason name) lines ≡ Err why → through name lines tree ≡ Err why
through_err name (Ok ms) tree why read = cc
through_err name (Err e) tree why read = let q : line_reason name e ≡ why = cc in ap Err q

from_lines : (delim : ℕ) (name : List ℕ) (file : Result (List ℕ) Reason) (ls : List Line) → (file >>= lines_within delim name) ≡ Ok ls → (file >>= tree_within delim name) ≡ result_map_err (tree_reason name) (tree_of ls)
unfolding lines_within tree_within trace_means
from_lines delim name (Ok bytes) ls e = through_ok name (trace_lines delim bytes) tree_of ls e
from_lines delim name (Err why) ls e = cc

from_refusal : (delim : ℕ) (name : List ℕ) (file : Result (List ℕ) Reason) (why : Reason) → (file >>= lines_within delim name) ≡ Err why → (file >>= tree_within delim name) ≡ Err why
unfolding lines_within tree_within trace_means
from_refusal delim name (Ok bytes) why e = through_err name (trace_lines delim bytes) tree_of why e
from_refusal delim name (Err reason) why e = let same : reason ≡ why = cc in ap Err same

pub trace_ok : (told : Option Files) (delim : ℕ) (name : List ℕ) (lines : List Line) (r : Result (List Directory) Halt)
    → GivesOver told (λ ls. ls) (Ok lines) (lines_in delim name) → Gives (λ t. t) r (result_map_err (tree_reason name) (tree_of lines)) → GivesOver told (λ t. t) r (trace_in delim name)
unfolding lines_in trace_in
trace_ok None delim name lines r read tree = tt
trace_ok (Some files) delim name lines r read tree = rw (from_lines delim name (file_in max_trace name files) lines read) tree

pub trace_err : (told : Option Files) (delim : ℕ) (name : List ℕ) (e : Halt)
    → GivesOver {A = List Line} told (λ ls. ls) (Err e) (lines_in delim name) → GivesOver {A = List Directory} told (λ t. t) (Err e) (trace_in delim name)
unfolding lines_in trace_in
trace_err None delim name e read = tt
trace_err (Some files) delim name e read = stays e (lines_in delim name files) _ read (λ why is. from_refusal delim name (file_in max_trace name files) why is)

pub ruleset traces = (trace_ok, trace_err)

pub trace_unopened : (told : Option Files) (delim : ℕ) (name : List ℕ) (e : Halt)
    → GivesOver told bytes_view (Err e) (λ files. held files name) → GivesOver {A = List Directory} told (λ t. t) (Err e) (trace_in delim name)
unfolding trace_in file_in
trace_unopened None delim name e read = tt
trace_unopened (Some files) delim name e read = stays e (held files name) _ read (λ why is. rw is refl)

-- ---- the tree of a trace that comes whole

pub whole_ok : (delim : ℕ) (name bytes : List ℕ) (lines : List Line) (r : Result (List Directory) Halt)
    → GivesUnless errors.Memory (Ok lines) (trace_lines delim bytes) → Gives (λ t. t) r (result_map_err (tree_reason name) (tree_of lines)) → Gives (λ t. t) r (tree_within delim name bytes)
unfolding tree_within trace_means
whole_ok delim name bytes lines r read tree = rw (through_ok name (trace_lines delim bytes) tree_of lines (ap (result_map_err (line_reason name)) read)) tree

pub whole_refused : (delim : ℕ) (name bytes : List ℕ) (fault : TraceFault) (r : Result (List Directory) Halt)
    → GivesUnless errors.Memory (Err (errors.Fault fault)) (trace_lines delim bytes) → Gives (λ x. x) r (Err (trace_reason name (of_line (errors.Fault fault)))) → Gives (λ t. t) r (tree_within delim name bytes)
unfolding tree_within trace_means
whole_refused delim name bytes fault r read told =
    given_as (λ t. t) r (trace_reason name (of_line (errors.Fault fault))) _ told
    (through_err name (trace_lines delim bytes) tree_of _ (ap (result_map_err (line_reason name)) (read (λ e. absurd cc))))

pub ruleset wholes = (whole_ok, whole_refused)
