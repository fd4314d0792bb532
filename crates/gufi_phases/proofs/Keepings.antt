-- What lanes keep, and the hits, over acts and further acts.
use Rattle.std.proofs.Common.{◌≡◌, ℕ, zero, suc, ◌+◌, Bool, true, false, List, [], ◌∷◌, ◌++◌, length, length-append, refl, sym, ap, ◌∙◌, subst, All, Contains, arith}
use Rattle.std.specs.Prelude.{Some, None, ◌==◌, if◌then◌else◌}
use Rattle.std.proofs.lemmas.Grind.{flat_map-append}
use Rattle.std.proofs.lemmas.List.{append-nil}
use Rattle.std.proofs.lemmas.List.Elements.{All-nil, All-contains_itself, Contains-append_left, Contains-append_right}
use Rattle.gufi_cache.specs.declared.key.CacheKey.{CacheKey}
use Rattle.gufi_cache.specs.Pairs.{kept}
use Rattle.gufi_phases.specs.declared.act.Act.{Act}
use Rattle.gufi_phases.specs.declared.act.Act.TheVariants.{Publish, Ask}
use Rattle.gufi_phases.specs.declared.keeping.Lane.{Lane}
use Rattle.gufi_phases.specs.Phases.{item_at, ask_count, lanes, NumbersFit}
use Rattle.gufi_phases.specs.Replies.{AreAlike}
use Rattle.gufi_phases.specs.Sessions.{acts_of, question_of, questions_of}
use Rattle.gufi_phases.specs.Keeping.{Keeping, keeping_none, keeping_behind, hits_in}
use Rattle.gufi_phases.specs.Lanes.{IsRight, AreReady, KeepAs}
use Rattle.gufi_phases.proofs.Right.{kept_then, right_after}

-- ---- counts

module _ {C Q : Type 0} where
  count_append : (acts more : List (Act C Q)) → ask_count (acts ++ more) ≡ ask_count acts + ask_count more
  unfolding ask_count
  count_append [] more = let same : ask_count more ≡ 0 + ask_count more = omega arith in same
  count_append (Publish command ∷ acts) more = let later = count_append acts more in omega arith
  count_append (Ask lane question ∷ acts) more = let later = count_append acts more in omega arith

  pub fit_long : (low high : ℕ) (acts : List (Act C Q)) (numbers : List ℕ) → NumbersFit low high (lanes acts) numbers → length numbers ≡ ask_count acts
  unfolding NumbersFit lanes ask_count
  fit_long low high [] [] fit = refl
  fit_long low high [] (n ∷ numbers) fit = absurd fit
  fit_long low high (Publish command ∷ acts) numbers fit = let later = fit_long low high acts numbers fit in omega arith
  fit_long low high (Ask lane question ∷ acts) [] fit = absurd fit
  fit_long low high (Ask lane question ∷ acts) (n ∷ numbers) fit = let later = fit_long low high acts numbers fit.3 in omega arith

  acts_more : (done : List (List (Act C Q))) (acts : List (Act C Q)) → acts_of (done ++ acts ∷ []) ≡ acts_of done ++ acts
  acts_more done acts = flat_map-append (λ (a : List (Act C Q)). a) done (acts ∷ []) ∙ ap (λ l. acts_of done ++ l) (append-nil acts)

  -- the questions of a phase, and of those before it, are among those of all
  questions_parts : (done rest : List (List (Act C Q))) (acts : List (Act C Q)) → questions_of (acts_of (done ++ acts ∷ rest)) ≡ questions_of (acts_of done) ++ (questions_of acts ++ questions_of (acts_of rest))
  questions_parts done rest acts =
      ap (λ l. questions_of l) (flat_map-append (λ (a : List (Act C Q)). a) done (acts ∷ rest)) ∙ (flat_map-append (question_of {C = C} {Q = Q}) (acts_of done) (acts ++ acts_of rest)
      ∙ ap (λ l. questions_of (acts_of done) ++ l) (flat_map-append (question_of {C = C} {Q = Q}) acts (acts_of rest)))

  questions_before : (done rest : List (List (Act C Q))) (acts : List (Act C Q)) → All (Contains (questions_of (acts_of (done ++ acts ∷ rest)))) (questions_of (acts_of done))
  questions_before done rest acts =
      subst (λ l. All (Contains l) (questions_of (acts_of done))) (sym (questions_parts done rest acts))
      (λ k d below. Contains-append_left (questions_of (acts_of done)) (questions_of acts ++ questions_of (acts_of rest)) _ (All-contains_itself (questions_of (acts_of done)) k d below))

  questions_here : (done rest : List (List (Act C Q))) (acts : List (Act C Q)) → All (Contains (questions_of (acts_of (done ++ acts ∷ rest)))) (questions_of acts)
  questions_here done rest acts =
      subst (λ l. All (Contains l) (questions_of acts)) (sym (questions_parts done rest acts))
      (λ k d below. Contains-append_right (questions_of (acts_of done)) (questions_of acts ++ questions_of (acts_of rest)) _
      (Contains-append_left (questions_of acts) (questions_of (acts_of rest)) _ (All-contains_itself (questions_of acts) k d below)))

-- ---- a front of the publications

item_front : {T : Type 0} (front back : List T) (n : ℕ) (item : T) → item_at front n ≡ Some item → item_at (front ++ back) n ≡ Some item
item_front front back zero item is = is
item_front [] back (suc n) item is = absurd cc
item_front (x ∷ front) back (suc zero) item is = is
item_front (x ∷ front) back (suc (suc n)) item is = item_front front back (suc n) item is

module _ {T Q : Type 0} (key : Q → ℕ → CacheKey) (body : Q → T → List ℕ) (asked : List Q) where
  right_front : (front back : List T) (keeping : Keeping) → IsRight key body (front ++ back) asked keeping → IsRight key body front asked keeping
  right_front front back None right = right
  right_front front back (Some cache) right = λ k d below question one same item at. right k d below question one same item (item_front front back _ item at)

  right_none : (all : List T) (capacity : ℕ) → IsRight key body all asked (keeping_none capacity)
  right_none all capacity = by_capacity (capacity == 0)
    where
      by_capacity : (none : Bool) → IsRight key body all asked (if none then None else Some (kept [] capacity))
      by_capacity true = tt
      by_capacity false = All-nil _

-- ---- further acts

module _ {T C Q : Type 0} (key : Q → ℕ → CacheKey) (body : Q → T → List ℕ) (all : List T) where
  keeping_more : (before : ℕ → Keeping) (acts more : List (Act C Q)) (numbers later : List ℕ) → length numbers ≡ ask_count acts
      → keeping_behind key body all (keeping_behind key body all before numbers acts) later more ≡ keeping_behind key body all before (numbers ++ later) (acts ++ more)
  unfolding keeping_behind ask_count
  keeping_more before [] more [] later long = refl
  keeping_more before [] more (n ∷ numbers) later long = absurd (omega arith)
  keeping_more before (Publish command ∷ acts) more numbers later long = keeping_more before acts more numbers later (omega arith)
  keeping_more before (Ask lane question ∷ acts) more [] later long = absurd (omega arith)
  keeping_more before (Ask lane question ∷ acts) more (n ∷ numbers) later long = keeping_more (kept_then key body all lane question n before) acts more numbers later (omega arith)

  hits_more : (before : ℕ → Keeping) (acts more : List (Act C Q)) (numbers later : List ℕ) → length numbers ≡ ask_count acts
      → hits_in key body all before (numbers ++ later) (acts ++ more) ≡ hits_in key body all before numbers acts + hits_in key body all (keeping_behind key body all before numbers acts) later more
  unfolding keeping_behind hits_in ask_count
  hits_more before [] more [] later long = let same : hits_in key body all before later more ≡ 0 + hits_in key body all before later more = omega arith in same
  hits_more before [] more (n ∷ numbers) later long = absurd (omega arith)
  hits_more before (Publish command ∷ acts) more numbers later long = hits_more before acts more numbers later (omega arith)
  hits_more before (Ask lane question ∷ acts) more [] later long = absurd (omega arith)
  hits_more before (Ask lane question ∷ acts) more (n ∷ numbers) later long = let rest = hits_more (kept_then key body all lane question n before) acts more numbers later (omega arith) in omega arith

-- ---- a session so far

module _ {T C Q : Type 0} (key : Q → ℕ → CacheKey) (body : Q → T → List ℕ) (capacity : ℕ) where
  -- what lanes keep that kept nothing before acts
  abbrev pub keeping_so_far : List T → List ℕ → List (Act C Q) → ℕ → Keeping
  keeping_so_far all numbers acts = keeping_behind key body all (λ lane. keeping_none capacity) numbers acts

  -- So many asks were hits, and the lanes keep what they keep behind the acts.
  pub record AreKept (all : List T) (acts : List (Act C Q)) (numbers : List ℕ) (hits : ℕ) (kept_by : List Lane) : Type 0 where
    pub hits_are : hits ≡ hits_in key body all (λ lane. keeping_none capacity) numbers acts
    pub lanes_keep : KeepAs (keeping_so_far all numbers acts) kept_by

  pub kept_more : (all : List T) (done : List (List (Act C Q))) (acts : List (Act C Q)) (numbers own : List ℕ) (hits more : ℕ) (old new : List Lane) → length numbers ≡ ask_count (acts_of done) → AreKept all (acts_of done) numbers hits old
      → more ≡ hits_in key body all (keeping_so_far all numbers (acts_of done)) own acts → KeepAs (keeping_behind key body all (keeping_so_far all numbers (acts_of done)) own acts) new → AreKept all (acts_of (done ++ acts ∷ [])) (numbers ++ own) (hits + more) new
  kept_more all done acts numbers own hits more old new long are counted keep =
      let none = λ (lane : ℕ). keeping_none capacity in
      let sum = hits_more key body all none (acts_of done) acts numbers own long in let before = are.hits_are in
      subst (λ l. AreKept all l (numbers ++ own) (hits + more) new) (sym (acts_more done acts))
      (record { hits_are = omega arith; lanes_keep = subst (λ before. KeepAs before new) (keeping_more key body all none (acts_of done) acts numbers own long) keep })

  pub long_more : (done : List (List (Act C Q))) (acts : List (Act C Q)) (numbers own : List ℕ) (low high : ℕ) → length numbers ≡ ask_count (acts_of done) → NumbersFit low high (lanes acts) own → length (numbers ++ own) ≡ ask_count (acts_of (done ++ acts ∷ []))
  long_more done acts numbers own low high long fit =
      let both = length-append numbers own in let here = fit_long low high acts own fit in let count = count_append (acts_of done) acts in
      let sum : length (numbers ++ own) ≡ ask_count (acts_of done ++ acts) = omega arith in sum ∙ ap (λ l. ask_count l) (sym (acts_more done acts))

  -- The next phase may be answered by what the lanes keep, at a front of the publications.
  pub ready_next : ((question : Q) (number : ℕ) → (key question number).number ≡ number) → (front back : List T) (done rest : List (List (Act C Q))) (acts : List (Act C Q)) (numbers : List ℕ)
      → AreAlike key body (questions_of (acts_of (done ++ acts ∷ rest))) → AreReady key body front (questions_of (acts_of (done ++ acts ∷ rest))) (keeping_so_far (front ++ back) numbers (acts_of done)) acts
  ready_next key_numbers front back done rest acts numbers alike =
      let asked = questions_of (acts_of (done ++ acts ∷ rest)) in (
        alike,
        questions_here done rest acts,
        λ lane. right_front key body asked front back (keeping_so_far (front ++ back) numbers (acts_of done) lane)
            (right_after key body key_numbers (front ++ back) asked alike (acts_of done) (λ lane. keeping_none capacity) numbers (questions_before done rest acts) (λ lane. right_none key body asked (front ++ back) capacity) lane),
      )
