-- What rows are interleaved to: the hits, what each lane keeps behind the acts, and the text.
use Rattle.std.proofs.Common.{◌≡◌, ℕ, ◌+◌, ◌≤◌, Bool, true, false, List, [], ◌∷◌, ◌++◌, drop, refl, sym, ap, ◌∙◌, subst, All, Contains, arith}
use Rattle.std.specs.Prelude.{Option, Some, None, ◌==◌, if◌then◌else◌, is_some, slice_index_or}
use Rattle.std.proofs.lemmas.Bool.Decides.{Decides-eqb}
use Rattle.std.proofs.lemmas.Bool.{false≢true}
use Rattle.std.proofs.lemmas.List.Elements.{All-head, All-tail}
use Rattle.gufi_cache.specs.declared.key.CacheKey.{CacheKey}
use Rattle.gufi_phases.specs.declared.act.Act.{Act}
use Rattle.gufi_phases.specs.declared.act.Act.TheVariants.{Publish, Ask}
use Rattle.gufi_phases.specs.declared.answer.Answer.{Answer}
use Rattle.gufi_phases.specs.Phases.{lanes, item_at, asks_in, acts_text, NumbersFit}
use Rattle.gufi_phases.specs.Replies.{AreAlike}
use Rattle.gufi_phases.specs.Sessions.{questions_of}
use Rattle.gufi_phases.specs.Keeping.{Keeping, kept_behind, kept_text, keeping_behind, hits_in}
use Rattle.gufi_phases.specs.Lanes.{HasMeant, IsAnswered, IsKeptPlace, IsKeptRow, IsRight, IsInterleaved}
use Rattle.gufi_phases.proofs.Right.{kept_then, right_reply, right_asked}

module _ {T Q : Type 0} (C : Type 0) (means : ℕ → T → Type 0) (reply : Q → ℕ → ℕ → Option T → List ℕ) (head : ℕ → ℕ → List ℕ) (key : Q → ℕ → CacheKey) (body : Q → T → List ℕ) where
  no_acts : (own i : ℕ) (before after : Keeping) (row : List (Option Answer)) → IsKeptRow means reply head key body {C = C} own i before after [] row → after ≡ before
  unfolding IsKeptRow
  no_acts own i before after [] is = is
  no_acts own i before after (place ∷ row) is = absurd is

  at_command : (own i : ℕ) (before mid : Keeping) (command : C) (place : Option Answer) → IsKeptPlace means reply head key body own i before mid (Publish command) place → mid ≡ before
  at_command own i before mid command None is = is
  at_command own i before mid command (Some answer) is = absurd is

  at_other : (own i lane : ℕ) (before mid : Keeping) (question : Q) (place : Option Answer) → (lane ≡ own → ⊥) → IsKeptPlace means reply head key body {C = C} own i before mid (Ask lane question) place → mid ≡ before
  at_other own i lane before mid question None others is = is
  at_other own i lane before mid question (Some answer) others is = absurd (others is.0)

module _ {T C Q : Type 0} (means : ℕ → T → Type 0) (reply : Q → ℕ → ℕ → Option T → List ℕ) (head : ℕ → ℕ → List ℕ) (key : Q → ℕ → CacheKey) (body : Q → T → List ℕ) where
  -- ---- one row, from its first act on

  abbrev Row : ℕ → ℕ → Keeping → Keeping → List (Act C Q) → List (Option Answer) → Type 0
  Row own i before after acts row = IsKeptRow means reply head key body own i before after acts row

  pub first_act : (own i : ℕ) (before after : Keeping) (act : Act C Q) (acts : List (Act C Q)) (row : List (Option Answer)) → Row own i before after (act ∷ acts) row
      → (mid : Keeping) × IsKeptPlace means reply head key body own i before mid act (slice_index_or row 0 None) × Row own (i + asks_in act) mid after acts (drop 1 row)
  unfolding IsKeptRow
  first_act own i before after (Publish command) acts [] is = (before, refl, is)
  first_act own i before after (Ask lane question) acts [] is = (before, refl, is)
  first_act own i before after act acts (place ∷ row) is = is

  pub behind_command : (own i : ℕ) (before after : Keeping) (command : C) (acts : List (Act C Q)) (row : List (Option Answer)) → Row own i before after (Publish command ∷ acts) row → Row own (i + 0) before after acts (drop 1 row)
  behind_command own i before after command acts row is =
      let first = first_act own i before after (Publish command) acts row is in
      subst (λ kept. Row own (i + 0) kept after acts (drop 1 row)) (at_command C means reply head key body own i before first.0 command (slice_index_or row 0 None) first.1) first.2

  behind_other : (own i lane : ℕ) (before after : Keeping) (question : Q) (acts : List (Act C Q)) (row : List (Option Answer)) → (lane ≡ own → ⊥) → Row own i before after (Ask lane question ∷ acts) row → Row own (i + 1) before after acts (drop 1 row)
  behind_other own i lane before after question acts row others is =
      let first = first_act own i before after (Ask lane question) acts row is in
      subst (λ kept. Row own (i + 1) kept after acts (drop 1 row)) (at_other C means reply head key body own i lane before first.0 question (slice_index_or row 0 None) others first.1) first.2

  pub at_own : (own i lane : ℕ) (before after : Keeping) (question : Q) (acts : List (Act C Q)) (row : List (Option Answer)) (answer : Answer) → slice_index_or row 0 None ≡ Some answer → Row own i before after (Ask lane question ∷ acts) row
      → (lane ≡ own) × (mid : Keeping) × IsAnswered means reply head key body question i before mid answer × Row own (i + 1) mid after acts (drop 1 row)
  at_own own i lane before after question acts row answer found is =
      let first = first_act own i before after (Ask lane question) acts row is in
      let place : IsKeptPlace means reply head key body {C = C} own i before first.0 (Ask lane question) (Some answer) = subst (IsKeptPlace means reply head key body {C = C} own i before first.0 (Ask lane question)) found first.1 in
      (place.0, first.0, place.1, first.2)

  -- each lane's row goes on from what the lane keeps
  abbrev pub AllKept : ℕ → (ℕ → Keeping) → List (Act C Q) → (ℕ → List (Option Answer)) → Type 0
  AllKept i before acts rows = (own : ℕ) → (after : Keeping) × IsKeptRow means reply head key body own i (before own) after acts (rows own)

  all_behind_command : (i : ℕ) (before : ℕ → Keeping) (command : C) (acts : List (Act C Q)) (rows : ℕ → List (Option Answer)) → AllKept i before (Publish command ∷ acts) rows → AllKept (i + 0) before acts (λ l. drop 1 (rows l))
  all_behind_command i before command acts rows are own = ((are own).0, behind_command own i (before own) (are own).0 command acts (rows own) (are own).1)

  module _ (all : List T) where
    -- each lane's row goes on behind the ask
    behind_ask : (own i lane : ℕ) (before : ℕ → Keeping) (after : Keeping) (question : Q) (acts : List (Act C Q)) (rows : ℕ → List (Option Answer)) (answer : Answer) → HasMeant means all answer.number → slice_index_or (rows lane) 0 None ≡ Some answer
        → Row own i (before own) after (Ask lane question ∷ acts) (rows own) → Row own (i + 1) (kept_then key body all lane question answer.number before own) after acts (drop 1 (rows own))
    behind_ask own i lane before after question acts rows answer has found is = by_lane (own == lane) refl
      where
        by_lane : (same : Bool) → (own == lane) ≡ same → Row own (i + 1) (if same then kept_behind key body question answer.number (item_at all answer.number) (before lane) else before own) after acts (drop 1 (rows own))
        by_lane true e =
            let one : own ≡ lane = (Decides-eqb own lane).0 e in
            let rest = at_own own i lane (before own) after question acts (rows own) answer (subst (λ l. slice_index_or (rows l) 0 None ≡ Some answer) (sym one) found) is in
            subst (λ kept. Row own (i + 1) kept after acts (drop 1 (rows own))) ((rest.2 all has).2 ∙ ap (λ l. kept_behind key body question answer.number (item_at all answer.number) (before l)) one) rest.3
        by_lane false e = behind_other own i lane (before own) after question acts (rows own) (λ one. false≢true (sym e ∙ (Decides-eqb own lane).1 (sym one))) is

    -- what a lane keeps behind the acts
    pub keeps_behind : (own i low high : ℕ) (before : ℕ → Keeping) (after : Keeping) (acts : List (Act C Q)) (rows : ℕ → List (Option Answer)) (lines : List (List ℕ)) (numbers : List ℕ) (hits : ℕ) (text : List ℕ)
        → ((n : ℕ) → n ≤ high → HasMeant means all n) → NumbersFit low high (lanes acts) numbers → Row own i (before own) after acts (rows own) → IsInterleaved rows lines acts numbers hits text
        → after ≡ keeping_behind key body all before numbers acts own
    unfolding IsInterleaved NumbersFit lanes keeping_behind
    keeps_behind own i low high before after [] rows lines numbers hits text has fit is mixed = no_acts C means reply head key body own i (before own) after (rows own) is
    keeps_behind own i low high before after (Publish command ∷ acts) rows lines numbers hits text has fit is (front, later, mine, others, begin, rest, ns, hs, ts, first, behind) =
        let same : numbers ≡ later = ns ∙ ap (λ l. l ++ later) first.0 in
        subst (λ l. after ≡ keeping_behind key body all before l acts own) (sym same)
        (keeps_behind own (i + 0) low high before after acts (λ l. drop 1 (rows l)) (drop 1 lines) later others rest has (subst (NumbersFit low high (lanes acts)) same fit) (behind_command own i (before own) after command acts (rows own) is) behind)
    keeps_behind own i low high before after (Ask lane question ∷ acts) rows lines numbers hits text has fit is (front, later, mine, others, begin, rest, ns, hs, ts, (answer, found, front_is, hits_is, begin_is), behind) =
        let same : numbers ≡ answer.number ∷ later = ns ∙ ap (λ l. l ++ later) front_is in
        let fits : NumbersFit low high (lane ∷ lanes acts) (answer.number ∷ later) = subst (NumbersFit low high (lane ∷ lanes acts)) same fit in
        subst (λ l. after ≡ keeping_behind key body all before l (Ask lane question ∷ acts) own) (sym same)
        (keeps_behind own (i + 1) low high (kept_then key body all lane question answer.number before) after acts (λ l. drop 1 (rows l)) (drop 1 lines) later others rest has fits.3
        (behind_ask own i lane before after question acts rows answer (has answer.number fits.1) found is) behind)

    all_behind_ask : (i lane : ℕ) (before : ℕ → Keeping) (question : Q) (acts : List (Act C Q)) (rows : ℕ → List (Option Answer)) (answer : Answer) → HasMeant means all answer.number → slice_index_or (rows lane) 0 None ≡ Some answer
        → AllKept i before (Ask lane question ∷ acts) rows → AllKept (i + 1) (kept_then key body all lane question answer.number before) acts (λ l. drop 1 (rows l))
    all_behind_ask i lane before question acts rows answer has found are own = ((are own).0, behind_ask own i lane before (are own).0 question acts rows answer has found (are own).1)

    pub hits_are : (i low high : ℕ) (before : ℕ → Keeping) (acts : List (Act C Q)) (rows : ℕ → List (Option Answer)) (lines : List (List ℕ)) (numbers : List ℕ) (hits : ℕ) (text : List ℕ)
        → ((n : ℕ) → n ≤ high → HasMeant means all n) → NumbersFit low high (lanes acts) numbers → AllKept i before acts rows → IsInterleaved rows lines acts numbers hits text
        → hits ≡ hits_in key body all before numbers acts
    unfolding IsInterleaved NumbersFit lanes hits_in
    hits_are i low high before [] rows lines numbers hits text has fit are mixed = mixed.1
    hits_are i low high before (Publish command ∷ acts) rows lines numbers hits text has fit are (front, later, mine, others, begin, rest, ns, hs, ts, first, behind) =
        let same : numbers ≡ later = ns ∙ ap (λ l. l ++ later) first.0 in
        let none : mine ≡ 0 = first.1 in
        let all_there : hits ≡ others = omega arith in
        subst (λ l. hits ≡ hits_in key body all before l acts) (sym same)
        (all_there ∙ hits_are (i + 0) low high before acts (λ l. drop 1 (rows l)) (drop 1 lines) later others rest has (subst (NumbersFit low high (lanes acts)) same fit) (all_behind_command i before command acts rows are) behind)
    hits_are i low high before (Ask lane question ∷ acts) rows lines numbers hits text has fit are (front, later, mine, others, begin, rest, ns, hs, ts, (answer, found, front_is, hits_is, begin_is), behind) =
        let same : numbers ≡ answer.number ∷ later = ns ∙ ap (λ l. l ++ later) front_is in
        let fits : NumbersFit low high (lane ∷ lanes acts) (answer.number ∷ later) = subst (NumbersFit low high (lane ∷ lanes acts)) same fit in
        let meant = has answer.number fits.1 in
        let here = at_own lane i lane (before lane) (are lane).0 question acts (rows lane) answer found (are lane).1 in
        let hit : answer.hit ≡ is_some (kept_text key body question answer.number (item_at all answer.number) (before lane)) = (here.2 all meant).1 in
        let first : mine ≡ (if is_some (kept_text key body question answer.number (item_at all answer.number) (before lane)) then 1 else 0) = hits_is ∙ ap (λ b. if b then 1 else 0) hit in
        subst (λ l. hits ≡ hits_in key body all before l (Ask lane question ∷ acts)) (sym same)
        (hs ∙ ap (λ n. n + others) first
        ∙ ap (λ n. (if is_some (kept_text key body question answer.number (item_at all answer.number) (before lane)) then 1 else 0) + n)
        (hits_are (i + 1) low high (kept_then key body all lane question answer.number before) acts (λ l. drop 1 (rows l)) (drop 1 lines) later others rest has fits.3 (all_behind_ask i lane before question acts rows answer meant found are) behind))

    module _
        (parts : (question : Q) (ask number : ℕ) (item : T) → reply question ask number (Some item) ≡ head ask number ++ body question item) (key_numbers : (question : Q) (number : ℕ) → (key question number).number ≡ number) (asked : List Q)
        (alike : AreAlike key body asked) where
      pub text_is : (i low high : ℕ) (before : ℕ → Keeping) (acts : List (Act C Q)) (rows : ℕ → List (Option Answer)) (lines : List (List ℕ)) (numbers : List ℕ) (hits : ℕ) (text : List ℕ)
          → ((n : ℕ) → n ≤ high → HasMeant means all n) → NumbersFit low high (lanes acts) numbers → AllKept i before acts rows → All (Contains asked) (questions_of acts) → ((lane : ℕ) → IsRight key body all asked (before lane))
          → IsInterleaved rows lines acts numbers hits text → text ≡ acts_text reply all i numbers lines acts
      unfolding IsInterleaved NumbersFit lanes acts_text
      text_is i low high before [] rows lines numbers hits text has fit are ours right mixed = mixed.2
      text_is i low high before (Publish command ∷ acts) rows lines numbers hits text has fit are ours right (front, later, mine, others, begin, rest, ns, hs, ts, first, behind) =
          let same : numbers ≡ later = ns ∙ ap (λ l. l ++ later) first.0 in
          let line = slice_index_or lines 0 [] in
          ts ∙ ap (λ l. l ++ rest) first.2 ∙ ap (λ l. line ++ l)
          (text_is (i + 0) low high before acts (λ l. drop 1 (rows l)) (drop 1 lines) later others rest has (subst (NumbersFit low high (lanes acts)) same fit) (all_behind_command i before command acts rows are) ours right behind
          ∙ ap (λ l. acts_text reply all (i + 0) l (drop 1 lines) acts) (sym same))
      text_is i low high before (Ask lane question ∷ acts) rows lines numbers hits text has fit are ours right (front, later, mine, others, begin, rest, ns, hs, ts, (answer, found, front_is, hits_is, begin_is), behind) =
          let n = answer.number in
          let same : numbers ≡ n ∷ later = ns ∙ ap (λ l. l ++ later) front_is in
          let fits : NumbersFit low high (lane ∷ lanes acts) (n ∷ later) = subst (NumbersFit low high (lane ∷ lanes acts)) same fit in
          let meant = has n fits.1 in
          let one = All-head (Contains asked) question (questions_of acts) ours in
          let own = at_own lane i lane (before lane) (are lane).0 question acts (rows lane) answer found (are lane).1 in
          let here : begin ≡ reply question i n (item_at all n) = begin_is ∙ (own.2 all meant).0 ∙ right_reply key body key_numbers all asked reply head parts question i n (before lane) one (right lane) (item_at all n) refl in
          subst (λ l. text ≡ acts_text reply all i l lines (Ask lane question ∷ acts)) (sym same)
          (ts ∙ ap (λ x. x ++ rest) here ∙ ap (λ x. reply question i n (item_at all n) ++ x)
          (text_is (i + 1) low high (kept_then key body all lane question n before) acts (λ l. drop 1 (rows l)) (drop 1 lines) later others rest has fits.3 (all_behind_ask i lane before question acts rows answer meant found are)
          (All-tail (Contains asked) question (questions_of acts) ours) (right_asked key body key_numbers all asked alike before lane question n one right) behind))
