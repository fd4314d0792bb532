-- What rows and lines are interleaved to, an act at a time, and its numbers fit.
use Rattle.std.proofs.Common.{Bor, ◌≡◌, ℕ, suc, ◌+◌, ◌<◌, List, [], ◌∷◌, ◌++◌, length, take, drop, get_or, refl, sym, ap, ◌∙◌, subst, arith, append_assoc}
use Rattle.std.specs.Prelude.{Option, Some, None, slice_index_or}
use Rattle.std.proofs.lemmas.Grind.{flat_map-append}
use Rattle.std.proofs.lemmas.List.{append-nil, take_more, length-take-le}
use Rattle.gufi_phases.specs.declared.act.Act.{Act}
use Rattle.gufi_phases.specs.declared.act.Act.TheVariants.{Publish, Ask}
use Rattle.gufi_phases.specs.declared.answer.Answer.{Answer}
use Rattle.gufi_phases.specs.Phases.{lanes, NoneBelow, NumbersFit}
use Rattle.gufi_phases.specs.Lanes.{IsRowWithin, IsInterleavedAct, IsInterleaved, joined}
use Rattle.gufi_phases.proofs.Rows.{row_rest, row_first}

later_place : (row : List (Option Answer)) (n : ℕ) → slice_index_or row (suc n) None ≡ slice_index_or (drop 1 row) n None
later_place [] n = refl
later_place (place ∷ row) n = refl

later_line : (lines : List (List ℕ)) (n : ℕ) → slice_index_or lines (suc n) [] ≡ slice_index_or (drop 1 lines) n []
later_line [] n = refl
later_line (line ∷ lines) n = refl

module _ {C Q : Type 0} where
  act_later : (n : ℕ) (rows : ℕ → List (Option Answer)) (lines : List (List ℕ)) (act : Act C Q) (numbers : List ℕ) (hits : ℕ) (text : List ℕ) → IsInterleavedAct (suc n) rows (slice_index_or lines (suc n) []) act numbers hits text
      → IsInterleavedAct n (λ lane. drop 1 (rows lane)) (slice_index_or (drop 1 lines) n []) act numbers hits text
  act_later n rows lines (Publish command) numbers hits text is = (is.0, is.1, is.2 ∙ later_line lines n)
  act_later n rows lines (Ask lane question) numbers hits text is = (is.0, sym (later_place (rows lane) n) ∙ is.1, is.2, is.3, is.4)

  -- one act more
  pub interleaved_more : (rows : ℕ → List (Option Answer)) (lines : List (List ℕ)) (acts : List (Act C Q)) (act : Act C Q) (numbers : List ℕ) (hits : ℕ) (text more : List ℕ) (hit : ℕ) (added : List ℕ) → IsInterleaved rows lines acts numbers hits text
      → IsInterleavedAct (length acts) rows (slice_index_or lines (length acts) []) act more hit added → IsInterleaved rows lines (acts ++ act ∷ []) (numbers ++ more) (hits + hit) (text ++ added)
  unfolding IsInterleaved
  interleaved_more rows lines [] act numbers hits text more hit added is at =
      let none = is.1 in let only : hits + hit ≡ hit + 0 = omega arith in
      (more, [], hit, 0, added, [], ap (λ l. l ++ more) is.0 ∙ sym (append-nil more), only, ap (λ l. l ++ added) is.2 ∙ sym (append-nil added), at, (refl, refl, refl))
  interleaved_more rows lines (a ∷ acts) act numbers hits text more hit added (front, later, own, others, begin, rest, n, h, t, first, behind) at =
      let sum : hits + hit ≡ own + (others + hit) = omega arith in (
        front,
        later ++ more,
        own,
        others + hit,
        begin,
        rest ++ added,
        ap (λ l. l ++ more) n ∙ append_assoc front later more,
        sum,
        ap (λ l. l ++ added) t ∙ append_assoc begin rest added,
        first,
        interleaved_more (λ lane. drop 1 (rows lane)) (drop 1 lines) acts act later others rest more hit added behind (act_later (length acts) rows lines act more hit added at),
      )

  none_below : (lane n high : ℕ) (acts : List (Act C Q)) (rows : ℕ → List (Option Answer)) (lines : List (List ℕ)) (numbers : List ℕ) (hits : ℕ) (text : List ℕ) → IsRowWithin n high acts (rows lane)
      → IsInterleaved rows lines acts numbers hits text → NoneBelow lane n (lanes acts) numbers
  unfolding IsInterleaved NoneBelow lanes
  none_below lane n high [] rows lines numbers hits text row is = tt
  none_below lane n high (Publish command ∷ acts) rows lines numbers hits text row (front, later, own, others, begin, rest, ns, hs, ts, first, behind) =
      let same : numbers ≡ later = ns ∙ ap (λ l. l ++ later) first.0 in
      subst (NoneBelow lane n (lanes acts)) (sym same) (none_below lane n high acts (λ l. drop 1 (rows l)) (drop 1 lines) later others rest (row_rest n high (Publish command) acts (rows lane) row) behind)
  none_below lane n high (Ask l question ∷ acts) rows lines numbers hits text row (front, later, own, others, begin, rest, ns, hs, ts, (answer, found, front_is, hits_is, begin_is), behind) =
      let same : numbers ≡ answer.number ∷ later = ns ∙ ap (λ x. x ++ later) front_is in
      subst (NoneBelow lane n (l ∷ lanes acts)) (sym same) (
        λ this. (row_first n high l question acts (rows lane) answer row (subst (λ x. slice_index_or (rows x) 0 None ≡ Some answer) this found)).0,
        none_below lane n high acts (λ x. drop 1 (rows x)) (drop 1 lines) later others rest (row_rest n high (Ask l question) acts (rows lane) row) behind,
      )

  pub interleaved_fit : (low high : ℕ) (acts : List (Act C Q)) (rows : ℕ → List (Option Answer)) (lines : List (List ℕ)) (numbers : List ℕ) (hits : ℕ) (text : List ℕ) → ((lane : ℕ) → IsRowWithin low high acts (rows lane))
      → IsInterleaved rows lines acts numbers hits text → NumbersFit low high (lanes acts) numbers
  unfolding IsInterleaved NumbersFit lanes
  interleaved_fit low high [] rows lines numbers hits text within is = subst (NumbersFit low high []) (sym is.0) tt
  interleaved_fit low high (Publish command ∷ acts) rows lines numbers hits text within (front, later, own, others, begin, rest, ns, hs, ts, first, behind) =
      let same : numbers ≡ later = ns ∙ ap (λ l. l ++ later) first.0 in
      subst (NumbersFit low high (lanes acts)) (sym same) (interleaved_fit low high acts (λ l. drop 1 (rows l)) (drop 1 lines) later others rest (λ lane. row_rest low high (Publish command) acts (rows lane) (within lane)) behind)
  interleaved_fit low high (Ask l question ∷ acts) rows lines numbers hits text within (front, later, own, others, begin, rest, ns, hs, ts, (answer, found, front_is, hits_is, begin_is), behind) =
      let same : numbers ≡ answer.number ∷ later = ns ∙ ap (λ x. x ++ later) front_is in
      let this = row_first low high l question acts (rows l) answer (within l) found in
      subst (NumbersFit low high (l ∷ lanes acts)) (sym same) (
        this.0,
        this.1,
        none_below l answer.number high acts (λ x. drop 1 (rows x)) (drop 1 lines) later others rest this.2 behind,
        interleaved_fit low high acts (λ x. drop 1 (rows x)) (drop 1 lines) later others rest (λ lane. row_rest low high (Ask l question) acts (rows lane) (within lane)) behind,
      )

module _ (C Q : Type 0) where
  pub interleaved_none : (rows : ℕ → List (Option Answer)) (lines : List (List ℕ)) (numbers text : List ℕ) → numbers ≡ [] → text ≡ [] → IsInterleaved {C = C} {Q = Q} rows lines [] numbers 0 text
  unfolding IsInterleaved
  interleaved_none rows lines numbers text n t = (n, refl, t)

module _ {C Q : Type 0} where
  -- one act further in a list of acts
  pub interleaved_step : (rows : ℕ → List (Option Answer)) (lines : List (List ℕ)) (acts : List (Act C Q)) (at : ℕ) (act : Act C Q) → at < length acts → act ≡ get_or acts at act
      → (numbers : List ℕ) (hits : ℕ) (text now then more : List ℕ) (hit : ℕ) (added : List ℕ) → now ≡ numbers ++ more → then ≡ text ++ added → IsInterleaved rows lines (take at acts) numbers hits text
      → IsInterleavedAct at rows (slice_index_or lines at []) act more hit added → IsInterleaved rows lines (take (at + 1) acts) now (hits + hit) then
  interleaved_step rows lines acts at act inside is numbers hits text now then more hit added n t before this =
      let longer : take (at + 1) acts ≡ take at acts ++ act ∷ [] = take_more acts at act inside ∙ ap (λ x. take at acts ++ x ∷ []) (sym is) in
      let long : length (take at acts) ≡ at = length-take-le at acts (let b = inside in omega arith) in
      let here : IsInterleavedAct (length (take at acts)) rows (slice_index_or lines (length (take at acts)) []) act more hit added = subst (λ k. IsInterleavedAct k rows (slice_index_or lines k []) act more hit added) (sym long) this in
      subst (λ x. IsInterleaved rows lines (take (at + 1) acts) x (hits + hit) then) (sym n)
      (subst (λ x. IsInterleaved rows lines (take (at + 1) acts) (numbers ++ more) (hits + hit) x) (sym t)
      (subst (λ x. IsInterleaved rows lines x (numbers ++ more) (hits + hit) (text ++ added)) (sym longer) (interleaved_more rows lines (take at acts) act numbers hits text more hit added before here)))

-- one text more
pub joined_more : (parts then : List (Bor (List ℕ))) (part : Bor (List ℕ)) (text : List ℕ) → then ≡ parts ++ part ∷ [] → part.now ≡ text → joined then ≡ joined parts ++ text
joined_more parts then part text is reads = ap joined is ∙ (flat_map-append (λ (p : Bor (List ℕ)). p.now) parts (part ∷ []) ∙ (ap (λ l. joined parts ++ l) (append-nil part.now) ∙ ap (λ l. joined parts ++ l) reads))
