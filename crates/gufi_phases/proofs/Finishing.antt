-- What the rows of a phase come to, where they are those of the lanes from 1 on.
use Rattle.std.proofs.Common.{◌≡◌, ℕ, zero, suc, ◌+◌, ◌-◌, ◌<◌, ◌≤◌, List, [], ◌∷◌, ◌++◌, length, map, drop, refl, sym, ap, ◌∙◌, subst, All, arith}
use Rattle.std.specs.Prelude.{Option, Some, None, slice_index_or}
use Rattle.std.proofs.lemmas.List.{get_or-map, length-map, get_or_past}
use Rattle.std.proofs.lemmas.List.Elements.{All-append, All-map, All-head, All-tail}
use Rattle.gufi_cache.specs.declared.key.CacheKey.{CacheKey}
use Rattle.gufi_phases.specs.declared.act.Act.{Act}
use Rattle.gufi_phases.specs.declared.act.Act.TheVariants.{Publish, Ask}
use Rattle.gufi_phases.specs.declared.answer.Answer.{Answer}
use Rattle.gufi_phases.specs.declared.answer.Row.{Row}
use Rattle.gufi_phases.specs.declared.keeping.Lane.{Lane}
use Rattle.gufi_phases.specs.Phases.{lanes, acts_text, NumbersFit}
use Rattle.gufi_phases.specs.Keeping.{Keeping, keeping_behind, hits_in}
use Rattle.gufi_phases.specs.Lanes.{HasMeant, IsRowWithin, IsKeptRow, IsLaneRow, IsInterleaved, AreNumbered, AreReady, KeepAs, places_of, row_of}
use Rattle.gufi_phases.proofs.Gathered.{at_or, mapped}
use Rattle.gufi_phases.proofs.Rows.{absent}
use Rattle.gufi_phases.proofs.Interleaving.{interleaved_fit}
use Rattle.gufi_phases.proofs.Hits.{first_act, behind_command, at_own, keeps_behind, AllKept, hits_are, text_is}

-- the row of a lane, where lane 0 has none
own_row : List (List (Option Answer)) → ℕ → List (Option Answer)
own_row rows zero = []
own_row rows (suc k) = slice_index_or rows k []

numbered_at : (number : ℕ) (rows : List Row) (k : ℕ) (d : Row) → AreNumbered number rows → k < length rows → (slice_index_or rows k d).lane.number ≡ number + k
unfolding AreNumbered
numbered_at number [] k d are inside = absurd (omega arith)
numbered_at number (row ∷ rows) zero d are inside = let first = are.0 in omega arith
numbered_at number (row ∷ rows) (suc k) d are inside = let later = numbered_at (suc number) rows k d are.1 (omega arith) in omega arith

module _ {T C Q : Type 0} (means : ℕ → T → Type 0) (reply : Q → ℕ → ℕ → Option T → List ℕ) (head : ℕ → ℕ → List ℕ) (key : Q → ℕ → CacheKey) (body : Q → T → List ℕ) where
  -- an ask of lane 0 has no answer
  interleaved_alike : (i : ℕ) (before after : Keeping) (acts : List (Act C Q)) (rows others : ℕ → List (Option Answer)) (lines : List (List ℕ)) (numbers : List ℕ) (hits : ℕ) (text : List ℕ)
      → ((k : ℕ) → rows (suc k) ≡ others (suc k)) → rows 0 ≡ rows 1 → IsKeptRow means reply head key body 1 i before after acts (rows 1) → IsInterleaved rows lines acts numbers hits text → IsInterleaved others lines acts numbers hits text
  unfolding IsInterleaved
  interleaved_alike i before after [] rows others lines numbers hits text same both one is = is
  interleaved_alike i before after (Publish command ∷ acts) rows others lines numbers hits text same both one (front, later, mine, theirs, begin, rest, ns, hs, ts, first, behind) = (
    front,
    later,
    mine,
    theirs,
    begin,
    rest,
    ns,
    hs,
    ts,
    first,
    interleaved_alike (i + 0) before after acts (λ l. drop 1 (rows l)) (λ l. drop 1 (others l)) (drop 1 lines) later theirs rest (λ k. ap (λ l. drop 1 l) (same k)) (ap (λ l. drop 1 l) both)
        (behind_command means reply head key body 1 i before after command acts (rows 1) one) behind,
  )
  interleaved_alike i before after (Ask zero question ∷ acts) rows others lines numbers hits text same both one (front, later, mine, theirs, begin, rest, ns, hs, ts, (answer, found, ns_is, hs_is, ts_is), behind) =
      let none : zero ≡ suc zero = (at_own means reply head key body 1 i 0 before after question acts (rows 1) answer (subst (λ l. slice_index_or l 0 None ≡ Some answer) both found) one).0 in
      absurd (omega arith)
  interleaved_alike i before after (Ask (suc lane) question ∷ acts) rows others lines numbers hits text same both one (front, later, mine, theirs, begin, rest, ns, hs, ts, (answer, found, ns_is, hs_is, ts_is), behind) =
      let first = first_act means reply head key body 1 i before after (Ask (suc lane) question) acts (rows 1) one in (
        front,
        later,
        mine,
        theirs,
        begin,
        rest,
        ns,
        hs,
        ts,
        (answer, subst (λ l. slice_index_or l 0 None ≡ Some answer) (same lane) found, ns_is, hs_is, ts_is),
        interleaved_alike (i + 1) first.0 after acts (λ l. drop 1 (rows l)) (λ l. drop 1 (others l)) (drop 1 lines) later theirs rest (λ k. ap (λ l. drop 1 l) (same k)) (ap (λ l. drop 1 l) both) first.2 behind,
      )

  module _ (before : ℕ → Keeping) (i : ℕ) (acts : List (Act C Q)) where
    numbered_kept : (number : ℕ) (rows : List Row) (k own : ℕ) → AreNumbered number rows → All (IsLaneRow means reply head key body before i acts) rows → own ≡ number + k
        → (after : Keeping) × IsKeptRow means reply head key body own i (before own) after acts (slice_index_or (places_of rows) k [])
    unfolding AreNumbered IsKeptRow
    numbered_kept number [] k own are each at = (before own, refl)
    numbered_kept number (row ∷ rows) zero own are each at =
        let first = are.0 in let this : row.lane.number ≡ own = omega arith in
        (row.lane.kept, subst (λ n. IsKeptRow means reply head key body n i (before n) row.lane.kept acts row.places.items) this (All-head (IsLaneRow means reply head key body before i acts) row rows each))
    numbered_kept number (row ∷ rows) (suc k) own are each at = numbered_kept (suc number) rows k own are.1 (All-tail (IsLaneRow means reply head key body before i acts) row rows each) (omega arith)

    all_kept : (rows : List Row) → AreNumbered 1 rows → All (IsLaneRow means reply head key body before i acts) rows → AllKept means reply head key body i before acts (own_row (places_of rows))
    unfolding IsKeptRow own_row
    all_kept rows are each zero = (before 0, refl)
    all_kept rows are each (suc k) = numbered_kept 1 rows k (suc k) are each (omega arith)

  module _
      (before : ℕ → Keeping) (i low high : ℕ) (acts : List (Act C Q)) (rows : List Row) (lines : List (List ℕ)) (numbers : List ℕ) (hits : ℕ) (text : List ℕ) (ordered : AreNumbered 1 rows)
      (are : All (λ row. IsRowWithin low high acts row.places.items × IsLaneRow means reply head key body before i acts row) rows) (up : low ≤ high) (mixed : IsInterleaved (row_of (places_of rows)) lines acts numbers hits text) where
    -- the numbers of the asks fit
    pub finish_fits : NumbersFit low high (lanes acts) numbers
    finish_fits =
        let P = IsRowWithin {C = C} {Q = Q} low high acts in
        interleaved_fit low high acts (row_of (places_of rows)) lines numbers hits text (λ lane. at_or P (places_of rows) [] (lane - 1) (mapped (λ row. row.places.items) P rows (λ k d below. (are k d below).0)) (absent low high acts up)) mixed

    each : All (IsLaneRow means reply head key body before i acts) rows
    each k d below = (are k d below).1

    mixed_own : IsInterleaved (own_row (places_of rows)) lines acts numbers hits text
    unfolding own_row
    mixed_own =
        let one = all_kept before i acts rows ordered each 1 in
        interleaved_alike i (before 1) one.0 acts (row_of (places_of rows)) (own_row (places_of rows)) lines numbers hits text
        (λ k. let less : suc k - 1 ≡ k = omega arith in ap (λ n. slice_index_or (places_of rows) n []) less)
        refl one.1 mixed

    module _ (all : List T) (has : (n : ℕ) → n ≤ high → HasMeant means all n) where
      pub finish_hits : hits ≡ hits_in key body all before numbers acts
      finish_hits = hits_are means reply head key body all i low high before acts (own_row (places_of rows)) lines numbers hits text has finish_fits (all_kept before i acts rows ordered each) mixed_own

      pub finish_text : ((question : Q) (ask number : ℕ) (item : T) → reply question ask number (Some item) ≡ head ask number ++ body question item) → ((question : Q) (number : ℕ) → (key question number).number ≡ number)
          → (asked : List Q) → AreReady key body all asked before acts → text ≡ acts_text reply all i numbers lines acts
      finish_text parts key_numbers asked ready = text_is means reply head key body all parts key_numbers asked ready.0 i low high before acts (own_row (places_of rows)) lines numbers hits text has finish_fits (all_kept before i acts rows ordered each) ready.1 ready.2 mixed_own

      kept_at : (lane : Lane) (row : List (Option Answer)) → row_of (places_of rows) lane.number ≡ row → IsKeptRow means reply head key body lane.number i (before lane.number) lane.kept acts row
          → lane.kept ≡ keeping_behind key body all before numbers acts lane.number
      kept_at lane row at is = keeps_behind means reply head key body all lane.number i low high before lane.kept acts (row_of (places_of rows)) lines numbers hits text has finish_fits
          (subst (IsKeptRow means reply head key body lane.number i (before lane.number) lane.kept acts) (sym at) is) mixed

      -- what the lanes keep, and those that were idle
      pub finish_kept : (count : ℕ) (idle : List Lane) → length rows ≡ count → All (λ lane. count ≤ lane.number - 1) idle → KeepAs before idle → KeepAs (keeping_behind key body all before numbers acts) (map (λ row. row.lane) rows ++ idle)
      unfolding IsKeptRow
      finish_kept count idle long past same =
          let P = λ (lane : Lane). lane.kept ≡ keeping_behind key body all before numbers acts lane.number in
          All-append P (map (λ row. row.lane) rows) idle
          (All-map P (λ row. row.lane) rows (λ k d below.
          let row : Row = slice_index_or rows k d in
          let number = numbered_at 1 rows k d ordered below in
          let place : row.lane.number - 1 ≡ k = omega arith in
          kept_at row.lane row.places.items (ap (λ n. slice_index_or (places_of rows) n []) place ∙ get_or-map (λ (r : Row). r.places.items) rows k d [] below) (each k d below)))
          (λ k d below.
          let lane : Lane = slice_index_or idle k d in
          let behind = past k d below in
          let none : length (places_of rows) ≤ lane.number - 1 = (let long_places = length-map rows (λ (r : Row). r.places.items) in omega arith) in
          kept_at lane [] (get_or_past (places_of rows) (lane.number - 1) [] none) (same k d below))
