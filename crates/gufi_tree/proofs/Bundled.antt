-- Directories by their places in bundles, also when bundles go on.
use Rattle.std.proofs.Common.{◌≡◌, ◌∙◌, ℕ, ◌+◌, ◌<◌, Bool, true, false, ltb, List, [], ◌∷◌, ◌++◌, length, take, drop, map, get_or, Option, Some, None, refl, sym, ap, subst, arith}
use Rattle.std.specs.Prelude.{All}
use Rattle.std.proofs.lemmas.List.{append_assoc, get_or-map, get_or_append_left, get_or_past, get_or_push, length-append, length-map, map-append, take-map, take_more, drop-map}
use Rattle.std.proofs.lemmas.Bool.{ltb-true, ltb-false}
use Rattle.std.proofs.lemmas.Option.{none-some}
use Rattle.std.specs.Option.{unwrap_or}
use Rattle.std.specs.declared.sync.Arc.{Arc}
use Rattle.std.specs.Arc.{arc_value}
use Rattle.std.proofs.lemmas.List.Elements.{All-weaker}
use Rattle.std.specs.List.Sorted.{IsPermutation}
use Rattle.std.proofs.lemmas.List.Sorted.{IsPermutation-map}
use Rattle.gufi_tree.specs.declared.dirs.Place.{Place}
use Rattle.gufi_tree.specs.Tree.{Directory}
use Rattle.gufi_tree.specs.Bundled.{lists_of, directories_at, directory_at, no_directory, renumbered, AreTaken, Keep, Share, Stands}
use Rattle.gufi_tree.proofs.GoingOn.{map-same}

-- the directory at a place of a list
pub directory_found : (lists : List (List Directory)) (places : List Place) (seen bundle : List Directory) (k : ℕ) (p : Place) (found d : Directory) → directories_at lists places ≡ seen → k < length seen
    → p ≡ get_or places k p → bundle ≡ get_or lists p.bundle [] → found ≡ get_or bundle p.head no_directory → found ≡ get_or seen k d
directory_found lists places seen bundle k p found d view lt here of is =
    is ∙ ap (λ (l : List Directory). get_or l p.head no_directory) of ∙ ap (directory_at lists) here
    ∙ sym (get_or-map (directory_at lists) places k p d (omega (arith, lt, ap length view, length-map places (directory_at lists)))) ∙ ap (λ (l : List Directory). get_or l k d) view

-- what keeps each place keeps all
module _ (lists after : List (List Directory)) (keep : Keep lists after) (places : List Place) (all : All (Stands lists) places) where
  pub stand-kept : All (Stands after) places
  stand-kept = All-weaker (Stands lists) (Stands after) keep.stand places all

  pub directories-kept : directories_at after places ≡ directories_at lists places
  directories-kept = map-same (directory_at after) (directory_at lists) places (All-weaker (Stands lists) _ keep.same places all)

  pub directories-push : (p : Place) (d : Directory) → directory_at after p ≡ d → directories_at after (places ++ p ∷ []) ≡ directories_at lists places ++ d ∷ []
  directories-push p d is =
      map-append (directory_at after) places (p ∷ []) ∙ ap (λ (l : List Directory). l ++ directory_at after p ∷ []) directories-kept ∙ ap (λ (x : Directory). directories_at lists places ++ x ∷ []) is

pub Keep-refl : (lists : List (List Directory)) → Keep lists lists
Keep-refl lists = record { stand = λ p h. h; same = λ p h. refl }

pub Keep-trans : (lists mid after : List (List Directory)) → Keep lists mid → Keep mid after → Keep lists after
Keep-trans lists mid after first second = record { stand = λ p h. second.stand p (first.stand p h); same = λ p h. second.same p (first.stand p h) ∙ first.same p h }

-- what moves places moves directories
pub directories-permuted : (lists : List (List Directory)) (places after : List Place) (seen : List Directory) → directories_at lists places ≡ seen → IsPermutation places after
    → IsPermutation seen (directories_at lists after)
directories-permuted lists places after seen view moved = subst (λ ds. IsPermutation ds (directories_at lists after)) view (IsPermutation-map (directory_at lists) places after moved)

-- places put elsewhere put directories there
pub directories-put : (lists : List (List Directory)) (places : List Place) (at from : ℕ)
    → directories_at lists (take at places ++ (drop from places ++ drop at (take from places)))
    ≡ take at (directories_at lists places) ++ (drop from (directories_at lists places) ++ drop at (take from (directories_at lists places)))
directories-put lists places at from =
    let f = directory_at lists in
    map-append f (take at places) (drop from places ++ drop at (take from places))
    ∙ ap (λ (ds : List Directory). ds ++ map f (drop from places ++ drop at (take from places))) (sym (take-map f at places))
    ∙ ap (λ (ds : List Directory). take at (map f places) ++ ds) (map-append f (drop from places) (drop at (take from places))
    ∙ ap (λ (ds : List Directory). ds ++ map f (drop at (take from places))) (sym (drop-map f from places))
    ∙ ap (λ (ds : List Directory). drop from (map f places) ++ ds) (sym (drop-map f at (take from places)) ∙ ap (drop at) (sym (take-map f from places))))

-- one more number, which may be that of one more bundle
module _ (numbers : List (Option ℕ)) (lists after next : List (List Directory)) (k : ℕ) (x : Option ℕ) (len : length numbers ≡ k) (lt : k < length lists) (taken : AreTaken numbers lists after)
    (stay : (m : ℕ) → m < length after → (m < length next) × (get_or next m [] ≡ get_or after m [])) (last : (n : ℕ) → x ≡ Some n → (n < length next) × (get_or next n [] ≡ get_or lists k [])) where
  taken_each : (j n : ℕ) → get_or (numbers ++ x ∷ []) j None ≡ Some n → (j < length lists) × (n < length next) × (get_or next n [] ≡ get_or lists j [])
  taken_each j n is = by (ltb j k) refl where
    at_end : (b : Bool) → ltb k j ≡ b → ltb j k ≡ false → (j < length lists) × (n < length next) × (get_or next n [] ≡ get_or lists j [])
    at_end true e past =
        let more = ltb-true k j e in
        let size = length-append numbers (x ∷ []) in
        absurd (none-some n (sym (get_or_past (numbers ++ x ∷ []) j None (omega arith)) ∙ is))
    at_end false e past =
        let less = ltb-false k j e in
        let more = ltb-false j k past in
        let at : k ≡ j = omega arith in
        let here = last n (sym (get_or_push numbers x None j (len ∙ at)) ∙ is) in
        (omega arith, here.0, here.1 ∙ ap (λ (i : ℕ). get_or lists i []) at)

    by : (b : Bool) → ltb j k ≡ b → (j < length lists) × (n < length next) × (get_or next n [] ≡ get_or lists j [])
    by true e =
        let less = ltb-true j k e in
        let t = taken.each j n (sym (get_or_append_left numbers (x ∷ []) None j (omega arith)) ∙ is) in
        let now = stay n t.1 in
        (t.0, now.0, now.1 ∙ t.2)
    by false e = at_end (ltb k j) refl e

  taken_next : AreTaken (numbers ++ x ∷ []) lists next
  taken_next = record { each = taken_each }

module _ {Z : Type 0} (numbers : List (Option ℕ)) (bundles taken : List (Arc (List Directory) Z)) (k : ℕ) (len : length numbers ≡ k) (lt : k < length bundles)
    (are : AreTaken numbers (map arc_value bundles) (map arc_value taken)) where
  within : k < length (map arc_value bundles)
  within = let same = length-map bundles arc_value in omega arith

  pub taken_none : AreTaken (numbers ++ None ∷ []) (map arc_value bundles) (map arc_value taken)
  taken_none = taken_next numbers (map arc_value bundles) (map arc_value taken) (map arc_value taken) k None len within are (λ m h. (h, refl)) (λ n is. absurd (none-some n is))

  pub taken_more : (bundle again : Arc (List Directory) Z) (n : ℕ) → n ≡ length taken → bundle ≡ get_or bundles k bundle → arc_value again ≡ arc_value bundle
      → AreTaken (numbers ++ Some n ∷ []) (map arc_value bundles) (map arc_value (taken ++ again ∷ []))
  taken_more bundle again n at is same =
      let after = map arc_value taken in
      let size : length after ≡ length taken = length-map taken arc_value in
      let grown = length-append after (arc_value again ∷ []) in
      rw (map-append arc_value taken (again ∷ []))
      (taken_next numbers (map arc_value bundles) after (after ++ arc_value again ∷ []) k (Some n) len within are
      (λ m h. (omega arith, get_or_append_left after (arc_value again ∷ []) [] m h))
      (λ m e. let here : n ≡ m = ap (λ (o : Option ℕ). unwrap_or o 0) e in
      (omega arith, get_or_push after (arc_value again) [] m (omega arith) ∙ same ∙ ap arc_value is ∙ sym (get_or-map arc_value bundles k bundle [] lt))))

-- bundles that are taken over are shared, whatever the last ones are
pub taken_share : (numbers : List (Option ℕ)) (lists after : List (List Directory)) (last more : List Directory) → AreTaken numbers lists after → Share numbers (lists ++ last ∷ []) (after ++ more ∷ [])
taken_share numbers lists after last more taken = record {
  stand = λ place n is here.
      let same : get_or (after ++ more ∷ []) n [] ≡ get_or (lists ++ last ∷ []) place.bundle [] = bundle_same place n is in
      let len = ap (λ (ds : List Directory). length ds) same in
      let within = here.within in
      let t = (taken.each place.bundle n is).1 in
      let size = length-append after (more ∷ []) in
      record { bundle = omega arith; within = omega arith };
  same = λ place n is here. ap (λ (ds : List Directory). get_or ds place.head no_directory) (bundle_same place n is);
} where
  bundle_same : (place : Place) (n : ℕ) → get_or numbers place.bundle None ≡ Some n → get_or (after ++ more ∷ []) n [] ≡ get_or (lists ++ last ∷ []) place.bundle []
  bundle_same place n is =
      let t = taken.each place.bundle n is in
      get_or_append_left after (more ∷ []) [] n t.1 ∙ t.2 ∙ sym (get_or_append_left lists (last ∷ []) [] place.bundle t.0)

pub share-kept : (numbers : List (Option ℕ)) (lists mid after : List (List Directory)) → Share numbers lists mid → Keep mid after → Share numbers lists after
share-kept numbers lists mid after share keep = record {
  stand = λ place n is here. keep.stand (renumbered n place) (share.stand place n is here);
  same = λ place n is here. keep.same (renumbered n place) (share.stand place n is here) ∙ share.same place n is here;
}

-- the next one of some places, wherever its directory stands then
pub place_pushed : (first from now after : List (List Directory)) (start places some : List Place) (k : ℕ) (p q : Place) → k < length some → p ≡ get_or some k p → Keep now after → All (Stands now) places
    → directories_at now places ≡ directories_at first start ++ directories_at from (take k some) → directory_at after q ≡ directory_at from p
    → directories_at after (places ++ q ∷ []) ≡ directories_at first start ++ directories_at from (take (k + 1) some)
place_pushed first from now after start places some k p q lt at keep all so_far is =
    directories-push now after keep places all q (directory_at from p) is
    ∙ ap (λ (ds : List Directory). ds ++ directory_at from p ∷ []) so_far
    ∙ append_assoc (directories_at first start) (directories_at from (take k some)) (directory_at from p ∷ [])
    ∙ ap (λ (ds : List Directory). directories_at first start ++ ds)
    (sym (map-append (directory_at from) (take k some) (p ∷ [])) ∙ ap (directories_at from) (ap (λ (e : Place). take k some ++ e ∷ []) at ∙ sym (take_more some k p lt)))
