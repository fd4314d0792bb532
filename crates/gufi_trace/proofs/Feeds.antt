-- What a reader has read, with one piece more and at the end.
use Rattle.std.proofs.Common.{◌≡◌, ℕ, ◌+◌, ◌<◌, not, List, [], ◌∷◌, ◌++◌, length, reverse, get_or, take, drop, refl, sym, ap, subst, ◌∙◌, arith, append_assoc}
use Rattle.std.specs.Prelude.{◌≢◌, Option, Some, None, Result, Ok, Err}
use Rattle.std.proofs.lemmas.List.{drop_more, take-append-drop, append-nil, length-reverse}
use Rattle.std.proofs.lemmas.List.Concat.{flat_map-append}
use Rattle.gufi_base.specs.declared.record.Line.{Line}
use Rattle.gufi_base.specs.Basics.{is_empty, ◌>>◌, refuse, GivesUnless}
use Rattle.gufi_line.specs.declared.fault.TraceKind.TheVariants.{CutLine}
use Rattle.gufi_line.specs.declared.fault.TraceFault.{TraceFault}
use Rattle.gufi_line.specs.declared.fault.TraceError.{TraceError}
use Rattle.gufi_line.specs.declared.fault.TraceError.TheVariants.{Fault, Memory}
use Rattle.gufi_line.specs.LineText.{fault_at}
use Rattle.gufi_trace.specs.TraceText.{whole_lines, cut_line, lines_so_far, trace_lines}
use Rattle.gufi_line.specs.Progress.{lines_from, lines_of, Stops}
use Rattle.gufi_trace.specs.Reader.{Reading, IsGood, HasReadBy, HasRead, answer_of, answer_so_far, GivesLines, stream_of}
use Rattle.gufi_trace.proofs.Streams.{whole_append, cut_append}
use Rattle.gufi_line.proofs.LinesTaken.{progress_of, lines_none}

-- the start
pub good_start : (delim : ℕ) → IsGood (record { delim = delim; root = []; lines = []; rest = []; failed = None }) []
good_start delim = record { lines = λ more. refl; rest = refl }

-- one piece more
whole_more : (stream piece : List ℕ) (more : List (List ℕ)) → whole_lines (stream ++ piece) ++ more ≡ whole_lines stream ++ (whole_lines (cut_line stream ++ piece) ++ more)
whole_more stream piece more = ap (λ (ls : List (List ℕ)). ls ++ more) (whole_append stream piece) ∙ append_assoc (whole_lines stream) (whole_lines (cut_line stream ++ piece)) more

lines_more : (r : Reading) (stream piece : List ℕ) → IsGood r stream → (more : List (List ℕ)) → lines_of r.delim (whole_lines (stream ++ piece) ++ more) ≡ lines_from r.delim (progress_of r.root r.lines) (whole_lines (r.rest ++ piece) ++ more)
lines_more r stream piece h more =
    ap (lines_of r.delim) (whole_more stream piece more) ∙ h.lines (whole_lines (cut_line stream ++ piece) ++ more)
    ∙ ap (λ (rest : List ℕ). lines_from r.delim (progress_of r.root r.lines) (whole_lines (rest ++ piece) ++ more)) h.rest

pub good_more : (r next : Reading) (piece : List ℕ) → next.delim ≡ r.delim
    → ((more : List (List ℕ)) → lines_from r.delim (progress_of r.root r.lines) (whole_lines (r.rest ++ piece) ++ more) ≡ lines_from r.delim (progress_of next.root next.lines) more)
    → next.rest ≡ cut_line (r.rest ++ piece) → (stream : List ℕ) → IsGood r stream → IsGood next (stream ++ piece)
good_more r next piece same lines rest stream h = record {
  lines = λ more. ap (λ d. lines_of d (whole_lines (stream ++ piece) ++ more)) same ∙ lines_more r stream piece h more ∙ lines more ∙ ap (λ d. lines_from d (progress_of next.root next.lines) more) (sym same);
  rest = cut_append stream piece ∙ ap (λ (x : List ℕ). cut_line (x ++ piece)) h.rest ∙ sym rest;
}

pub good_at : (r : Reading) (stream : List ℕ) → r.failed ≡ None → HasRead r stream → IsGood r stream
good_at r stream e h = subst (λ (f : Option TraceError). HasReadBy f r stream) e h

pub feed_ok : (r next : Reading) (piece : List ℕ) → r.failed ≡ None → next.failed ≡ None → next.delim ≡ r.delim
    → ((more : List (List ℕ)) → lines_from r.delim (progress_of r.root r.lines) (whole_lines (r.rest ++ piece) ++ more) ≡ lines_from r.delim (progress_of next.root next.lines) more)
    → next.rest ≡ cut_line (r.rest ++ piece) → (stream : List ℕ) → HasRead r stream → HasRead next (stream ++ piece)
feed_ok r next piece none still same lines rest stream h =
    subst (λ (f : Option TraceError). HasReadBy f next (stream ++ piece)) (sym still) (good_more r next piece same lines rest stream (good_at r stream none h))

stopped : (r after : Reading) (piece : List ℕ) (e : TraceError) → after.delim ≡ r.delim → ((more : List (List ℕ)) → Stops e (lines_from r.delim (progress_of r.root r.lines) (whole_lines (r.rest ++ piece) ++ more)))
    → (stream : List ℕ) → IsGood r stream → HasReadBy (Some e) after (stream ++ piece)
stopped r after piece Memory same stops stream h = tt
stopped r after piece (Fault fault) same stops stream h = λ more. ap (λ d. lines_of d (whole_lines (stream ++ piece) ++ more)) same ∙ lines_more r stream piece h more ∙ stops more

pub feed_err : (r after : Reading) (piece : List ℕ) (e : TraceError) → r.failed ≡ None → after.failed ≡ Some e → after.delim ≡ r.delim
    → ((more : List (List ℕ)) → Stops e (lines_from r.delim (progress_of r.root r.lines) (whole_lines (r.rest ++ piece) ++ more)))
    → (stream : List ℕ) → HasRead r stream → HasRead after (stream ++ piece)
feed_err r after piece e none is same stops stream h =
    subst (λ (f : Option TraceError). HasReadBy f after (stream ++ piece)) (sym is) (stopped r after piece e same stops stream (good_at r stream none h))

failed_stays : (r : Reading) (stream piece : List ℕ) (e : TraceError) → HasReadBy (Some e) r stream → HasReadBy (Some e) r (stream ++ piece)
failed_stays r stream piece Memory h = tt
failed_stays r stream piece (Fault fault) h = λ more. ap (lines_of r.delim) (whole_more stream piece more) ∙ h (whole_lines (cut_line stream ++ piece) ++ more)

pub feed_again : (r : Reading) (piece : List ℕ) (e : TraceError) → r.failed ≡ Some e → (stream : List ℕ) → HasRead r stream → HasRead r (stream ++ piece)
feed_again r piece e is stream h =
    let read = subst (λ (f : Option TraceError). HasReadBy f r stream) is h in
    subst (λ (f : Option TraceError). HasReadBy f r (stream ++ piece)) (sym is) (failed_stays r stream piece e read)

-- what the lines of the stream so far are
pub so_far_good : (r : Reading) (stream : List ℕ) → IsGood r stream → lines_so_far r.delim stream ≡ Ok (reverse r.lines)
so_far_good r stream h =
    ap (lines_of r.delim) (sym (append-nil (whole_lines stream))) ∙ h.lines [] ∙ lines_none r.delim (progress_of r.root r.lines)

so_far_fault : (r : Reading) (stream : List ℕ) (fault : TraceFault) → HasReadBy (Some (Fault fault)) r stream → lines_so_far r.delim stream ≡ Err (Fault fault)
so_far_fault r stream fault h = ap (lines_of r.delim) (sym (append-nil (whole_lines stream))) ∙ h []

-- the answer of a reader is that of the lines so far
pub answered : (r : Reading) (stream : List ℕ) → HasRead r stream → GivesUnless Memory (answer_of r.failed) (answer_so_far r.delim stream)
answered r stream h = by r.failed h
  where
    by : (f : Option TraceError) → HasReadBy f r stream → GivesUnless Memory (answer_of f) (answer_so_far r.delim stream)
    by None h = ap (λ (x : Result (List Line) TraceError). x >> Ok tt) (so_far_good r stream h)
    by (Some Memory) h = λ no_memory. absurd (no_memory refl)
    by (Some (Fault fault)) h = λ other. ap (λ (x : Result (List Line) TraceError). x >> Ok tt) (so_far_fault r stream fault h)

pub answered_err : (r : Reading) (e : TraceError) (stream : List ℕ) → r.failed ≡ Some e → HasRead r stream → e ≢ Memory → answer_so_far r.delim stream ≡ Err e
answered_err r e stream is h = subst (λ (f : Option TraceError). GivesUnless Memory (answer_of f) (answer_so_far r.delim stream)) is (answered r stream h)

pub answered_ok : (r : Reading) (stream : List ℕ) → r.failed ≡ None → HasRead r stream → answer_so_far r.delim stream ≡ Ok tt
answered_ok r stream is h = subst (λ (f : Option TraceError). GivesUnless Memory (answer_of f) (answer_so_far r.delim stream)) is (answered r stream h)

-- the end
pub finish_failed : (r : Reading) (e : TraceError) → r.failed ≡ Some e → (stream : List ℕ) → HasRead r stream → GivesLines (Err e) (trace_lines r.delim stream)
unfolding trace_lines
finish_failed r e is stream h = by e (subst (λ (f : Option TraceError). HasReadBy f r stream) is h)
  where
    by : (e : TraceError) → HasReadBy (Some e) r stream → GivesLines (Err e) (trace_lines r.delim stream)
    by Memory h = λ no_memory. absurd (no_memory refl)
    by (Fault fault) h = λ other. rw (so_far_fault r stream fault h) refl

pub finish_whole : (r : Reading) (stream : List ℕ) → IsGood r stream → length r.rest ≡ 0 → trace_lines r.delim stream ≡ Ok (reverse r.lines)
unfolding trace_lines
finish_whole r stream h none = rw (so_far_good r stream h, h.rest) (by r.rest none)
  where
    by : (rest : List ℕ) → length rest ≡ 0 → (refuse (not (is_empty rest)) (fault_at (length (reverse r.lines) + 1) CutLine) >> Ok (reverse r.lines)) ≡ Ok (reverse r.lines)
    by [] e = refl
    by (b ∷ rest) e = absurd (omega arith)

pub finish_cut : (r : Reading) (stream : List ℕ) → IsGood r stream → (length r.rest ≡ 0 → ⊥) → (n : ℕ) → n ≡ length r.lines → trace_lines r.delim stream ≡ Err (fault_at (n + 1) CutLine)
unfolding trace_lines
finish_cut r stream h some n is = rw (so_far_good r stream h, h.rest, is, ← length-reverse r.lines) (by r.rest some)
  where
    by : (rest : List ℕ) → (length rest ≡ 0 → ⊥) → (refuse (not (is_empty rest)) (fault_at (length (reverse r.lines) + 1) CutLine) >> Ok (reverse r.lines)) ≡ Err (fault_at (length (reverse r.lines) + 1) CutLine)
    by [] some = absurd (some refl)
    by (b ∷ rest) some = refl

-- a stream around one of its pieces
answer_err : (o : Option TraceError) (e : TraceError) → Err e ≡ answer_of o → o ≡ Some e
answer_err None e h = absurd cc
answer_err (Some d) e h = let same : e ≡ d = cc in ap (λ (x : TraceError). Some x) (sym same)

pub failed_at : (r : Reading) (delim : ℕ) (e : TraceError) (stream : List ℕ) → r.delim ≡ delim → Err e ≡ answer_of r.failed → HasRead r stream → GivesLines (Err e) (trace_lines delim stream)
failed_at r delim e stream same answer h = subst (λ d. GivesLines (Err e) (trace_lines d stream)) same (finish_failed r e (answer_err r.failed e answer) stream h)

stream_around : (pieces : List (List ℕ)) (i : ℕ) (x : List ℕ) → i < length pieces → x ≡ get_or pieces i x → (stream_of (take i pieces) ++ x) ++ stream_of (drop (i + 1) pieces) ≡ stream_of pieces
stream_around pieces i x lt is =
    append_assoc (stream_of (take i pieces)) x (stream_of (drop (i + 1) pieces))
    ∙ ap (λ (y : List ℕ). stream_of (take i pieces) ++ (y ++ stream_of (drop (i + 1) pieces))) is
    ∙ ap (λ (ps : List (List ℕ)). stream_of (take i pieces) ++ stream_of ps) (sym (drop_more pieces i x lt))
    ∙ sym (flat_map-append (λ piece. piece) (take i pieces) (drop i pieces))
    ∙ ap stream_of (take-append-drop i pieces)

-- a reader that failed within the pieces
pub failed_within : (r : Reading) (delim : ℕ) (e : TraceError) (pieces : List (List ℕ)) (i : ℕ) (x : List ℕ) → r.delim ≡ delim → Err e ≡ answer_of r.failed → i < length pieces → x ≡ get_or pieces i x → HasRead r (stream_of (take i pieces) ++ x)
    → GivesLines (Err e) (trace_lines delim (stream_of pieces))
failed_within r delim e pieces i x same answer lt is h =
    let failed = answer_err r.failed e answer in
    let whole = feed_again r (stream_of (drop (i + 1) pieces)) e failed (stream_of (take i pieces) ++ x) h in
    let given = finish_failed r e failed ((stream_of (take i pieces) ++ x) ++ stream_of (drop (i + 1) pieces)) whole in
    subst (λ (s : List ℕ). GivesLines (Err e) (trace_lines delim s)) (stream_around pieces i x lt is) (subst (λ d. GivesLines (Err e) (trace_lines d ((stream_of (take i pieces) ++ x) ++ stream_of (drop (i + 1) pieces)))) same given)
