-- What a lane's places hold: the numbers of its pins, and the replies by what the lane keeps.
use denote.Ref.{Bor}
use Rattle.std.specs.Prelude.{◌≡◌, ℕ, suc, ◌+◌, ◌-◌, ◌≤◌, List, [], ◌∷◌, ◌++◌, drop, map, flat_map, All, Contains, ⊤, Option, Some, None, Vec, is_some, if◌then◌else◌, slice_index_or}
use Rattle.std.specs.declared.alloc.Global.{Global}
use Rattle.gufi_cache.specs.declared.key.CacheKey.{CacheKey}
use Rattle.gufi_phases.specs.declared.act.Act.{Act}
use Rattle.gufi_phases.specs.declared.act.Act.TheVariants.{Publish, Ask}
use Rattle.gufi_phases.specs.declared.answer.Answer.{Answer}
use Rattle.gufi_phases.specs.declared.answer.Row.{Row}
use Rattle.gufi_phases.specs.declared.answer.Served.{Served}
use Rattle.gufi_phases.specs.declared.keeping.Lane.{Lane}
use Rattle.gufi_phases.specs.Phases.{item_at, asks_in}
use Rattle.gufi_phases.specs.Replies.{AreAlike}
use Rattle.gufi_phases.specs.Sessions.{questions_of}
use Rattle.gufi_phases.specs.Keeping.{Keeping, kept_behind, kept_text}

-- the list has what is meant by a number
abbrev pub HasMeant : {T : Type 0} → (ℕ → T → Type 0) → List T → ℕ → Type 0
HasMeant {T} means all n = (item : T) → means n item → item_at all n ≡ Some item

-- ---- numbers

module _ {C Q : Type 0} where
  -- A place of an act: the visitor had seen `low` before it and `last` behind it.
  abbrev pub IsPlace : ℕ → ℕ → Act C Q → Option Answer → Type 0
  IsPlace low last (Publish command) None = low ≤ last
  IsPlace low last (Publish command) (Some answer) = ⊥
  IsPlace low last (Ask lane question) None = low ≤ last
  IsPlace low last (Ask lane question) (Some answer) = (low ≤ answer.number) × (answer.number ≤ last)

  -- the places of acts, of which there may be fewer
  unfoldable pub IsRow : ℕ → ℕ → List (Act C Q) → List (Option Answer) → Type 0
  IsRow low last acts [] = low ≤ last
  IsRow low last [] (place ∷ row) = ⊥
  IsRow low last (act ∷ acts) (place ∷ row) = (seen : ℕ) × IsPlace low seen act place × IsRow seen last acts row

  -- the same, where the visitor saw no more than `high`
  abbrev pub IsRowWithin : ℕ → ℕ → List (Act C Q) → List (Option Answer) → Type 0
  IsRowWithin low high acts row = (last : ℕ) × IsRow low last acts row × (last ≤ high)

-- ---- replies

module _ {T Q : Type 0} (reply : Q → ℕ → ℕ → Option T → List ℕ) (head : ℕ → ℕ → List ℕ) (key : Q → ℕ → CacheKey) (body : Q → T → List ℕ) where
  -- the reply at the item of a number, or a text that was kept, behind the head
  abbrev pub reply_or : Option (List ℕ) → Q → ℕ → ℕ → Option T → List ℕ
  reply_or None question i n item = reply question i n item
  reply_or (Some text) question i n item = head i n ++ text

module _ {T Q : Type 0} (means : ℕ → T → Type 0) (reply : Q → ℕ → ℕ → Option T → List ℕ) (head : ℕ → ℕ → List ℕ) (key : Q → ℕ → CacheKey) (body : Q → T → List ℕ) where
  -- An answer to ask i, and what its lane keeps before and behind it, whatever list has what is meant by its number.
  abbrev pub IsAnswered : Q → ℕ → Keeping → Keeping → Answer → Type 0
  IsAnswered question i before after answer =
      (all : List T) → HasMeant means all answer.number →
      let n = answer.number in let item = item_at all n in let found = kept_text key body question n item before in
      (answer.text.items ≡ reply_or reply head key body found question i n item) × (answer.hit ≡ is_some found) × (after ≡ kept_behind key body question n item before)

  module _ {C : Type 0} (own : ℕ) where
    -- a place of an act in the row of a lane
    abbrev pub IsKeptPlace : ℕ → Keeping → Keeping → Act C Q → Option Answer → Type 0
    IsKeptPlace i before after (Publish command) None = after ≡ before
    IsKeptPlace i before after (Publish command) (Some answer) = ⊥
    IsKeptPlace i before after (Ask lane question) None = after ≡ before
    IsKeptPlace i before after (Ask lane question) (Some answer) = (lane ≡ own) × IsAnswered question i before after answer

    -- the places of acts, of which there may be fewer, where i is the number of the first ask
    unfoldable pub IsKeptRow : ℕ → Keeping → Keeping → List (Act C Q) → List (Option Answer) → Type 0
    IsKeptRow i before after acts [] = after ≡ before
    IsKeptRow i before after [] (place ∷ row) = ⊥
    IsKeptRow i before after (act ∷ acts) (place ∷ row) = (mid : Keeping) × IsKeptPlace i before mid act place × IsKeptRow (i + asks_in act) mid after acts row

  -- what a lane answered, which kept before what is said of its number
  abbrev pub IsLaneRow : {C : Type 0} → (ℕ → Keeping) → ℕ → List (Act C Q) → Row → Type 0
  IsLaneRow before i acts row = IsKeptRow row.lane.number i (before row.lane.number) row.lane.kept acts row.places.items

  -- All that a visitor's lanes answered, who had seen `low` before.
  abbrev pub IsServed : {C : Type 0} → (ℕ → Keeping) → ℕ → ℕ → List (Act C Q) → Served → Type 0
  IsServed before i low acts served =
      (low ≤ served.seen) × All (λ row. IsRow low served.seen acts row.places.items) served.rows.items × All (IsLaneRow before i acts) served.rows.items

module _ {T Q : Type 0} (key : Q → ℕ → CacheKey) (body : Q → T → List ℕ) where
  -- Each text that is kept is the body of each of these questions with its key, at the item of its number.
  abbrev pub IsRight : List T → List Q → Keeping → Type 0
  IsRight all asked None = ⊤
  IsRight all asked (Some cache) =
      All (λ pair. (question : Q) → Contains asked question → key question pair.0.number ≡ pair.0 → (item : T) → item_at all pair.0.number ≡ Some item → pair.1 ≡ body question item) cache.pairs

  -- Before acts over these publications: what each lane keeps is right for these questions, the acts' among them, and those with one key have one body.
  abbrev pub AreReady : {C : Type 0} → List T → List Q → (ℕ → Keeping) → List (Act C Q) → Type 0
  AreReady all asked before acts = AreAlike key body asked × All (Contains asked) (questions_of acts) × ((lane : ℕ) → IsRight all asked (before lane))

-- what each of these lanes keeps is what is said of its number
abbrev pub KeepAs : (ℕ → Keeping) → List Lane → Type 0
KeepAs before lanes = All (λ lane. lane.kept ≡ before lane.number) lanes

-- Rows of lanes with ascending numbers, from this on without a gap.
unfoldable pub AreNumbered : ℕ → List Row → Type 0
AreNumbered number [] = ⊤
AreNumbered number (row ∷ rows) = (row.lane.number ≡ number) × AreNumbered (suc number) rows

-- the places of each row
abbrev pub places_of : List Row → List (List (Option Answer))
places_of rows = map (λ row. row.places.items) rows

-- the row of a lane, in rows of which the first is lane 1's
abbrev pub row_of : List (List (Option Answer)) → ℕ → List (Option Answer)
row_of rows lane = slice_index_or rows (lane - 1) []

module _ {C Q : Type 0} where
  -- What an act adds to the numbers and the text: a command its line, an ask the answer at this place of its lane's row.
  abbrev pub IsInterleavedAct : ℕ → (ℕ → List (Option Answer)) → List ℕ → Act C Q → List ℕ → ℕ → List ℕ → Type 0
  IsInterleavedAct place rows line (Publish command) numbers hits text = (numbers ≡ []) × (hits ≡ 0) × (text ≡ line)
  IsInterleavedAct place rows line (Ask lane question) numbers hits text =
      (answer : Answer) × (slice_index_or (rows lane) place None ≡ Some answer) × (numbers ≡ answer.number ∷ []) × (hits ≡ (if answer.hit then 1 else 0)) × (text ≡ answer.text.items)

  -- the numbers, the hits and the text of acts
  unfoldable pub IsInterleaved : (ℕ → List (Option Answer)) → List (List ℕ) → List (Act C Q) → List ℕ → ℕ → List ℕ → Type 0
  IsInterleaved rows lines [] numbers hits text = (numbers ≡ []) × (hits ≡ 0) × (text ≡ [])
  IsInterleaved rows lines (act ∷ acts) numbers hits text =
      (front : List ℕ) × (later : List ℕ) × (own : ℕ) × (others : ℕ) × (begin : List ℕ) × (rest : List ℕ) × (numbers ≡ front ++ later) × (hits ≡ own + others) × (text ≡ begin ++ rest)
      × IsInterleavedAct 0 rows (slice_index_or lines 0 []) act front own begin × IsInterleaved (λ lane. drop 1 (rows lane)) (drop 1 lines) acts later others rest

-- The numbers, the hits and the text of acts, by the rows of the lanes from 1 on and a line for each act.
abbrev pub IsTold : {C Q : Type 0} → List Row → List (Vec ℕ Global) → List (Act C Q) → List ℕ → ℕ → List ℕ → Type 0
IsTold rows lines acts numbers hits text = IsInterleaved (row_of (places_of rows)) (map (λ line. line.items) lines) acts numbers hits text

-- texts, one behind the other
abbrev pub joined : List (Bor (List ℕ)) → List ℕ
joined parts = flat_map (λ part. part.now) parts
