-- The least width of some, found one after the other.
use Rattle.std.proofs.Common.{◌≡◌, ℕ, ◌+◌, ◌<◌, ◌≤◌, Bool, true, false, ◌||◌, List, length, take, drop, get_or, refl, sym, ap, ◌∙◌}
use Rattle.std.specs.List.{list_any}
use Rattle.std.proofs.lemmas.List.{take_all, take-append-drop}
use Rattle.std.proofs.lemmas.List.Folds.{list_any-append, list_any_more}
use Rattle.gufi_image.specs.declared.width.Width.{Width}
use Rattle.gufi_image.specs.Widths.{has_acls, least, wider}

pub least_wider : (a b c d : Bool) → wider (least a b) (least c d) ≡ least (a || c) (b || d)
least_wider true b c d = refl
least_wider false true true d = refl
least_wider false true false true = refl
least_wider false true false false = refl
least_wider false false true d = refl
least_wider false false false true = refl
least_wider false false false false = refl

-- only lists need the widest
lists_need : (a b : Bool) → has_acls (least a b) ≡ true → a ≡ true
lists_need true b h = refl
lists_need false true h = absurd cc
lists_need false false h = absurd cc

module _ {X : Type 0} (acls names : X → Bool) (xs : List X) where
  abbrev widest : List X → Width
  widest some = least (list_any acls some) (list_any names some)

  -- one more
  pub wider_more : (k : ℕ) (x : X) (was own : Width) → k < length xs → ((d : X) → x ≡ get_or xs k d) → was ≡ widest (take k xs) → own ≡ least (acls x) (names x) → wider was own ≡ widest (take (k + 1) xs)
  wider_more k x was own lt is before here =
      let next : (test : X → Bool) → (list_any test (take k xs) || test x) ≡ list_any test (take (k + 1) xs) = λ (test : X → Bool).
      ap (λ b. list_any test (take k xs) || b) (ap test (is x)) ∙ sym (list_any_more test xs k x lt) in
      ap (λ w. wider w own) before ∙ ap (wider (widest (take k xs))) here
      ∙ least_wider (list_any acls (take k xs)) (list_any names (take k xs)) (acls x) (names x)
      ∙ ap (λ a. least a (list_any names (take k xs) || names x)) (next acls) ∙ ap (least (list_any acls (take (k + 1) xs))) (next names)

  -- nothing is wider than lists
  pub wide_enough : (k : ℕ) (was : Width) → was ≡ widest (take k xs) → has_acls was ≡ true → was ≡ widest xs
  wide_enough k was before wide =
      let some : list_any acls (take k xs) ≡ true = lists_need (list_any acls (take k xs)) (list_any names (take k xs)) (ap has_acls (sym before) ∙ wide) in
      let all : list_any acls xs ≡ true = ap (list_any acls) (sym (take-append-drop k xs)) ∙ list_any-append acls (take k xs) (drop k xs) ∙ ap (λ b. b || list_any acls (drop k xs)) some in
      before ∙ ap (λ a. least a (list_any names (take k xs))) some ∙ sym (ap (λ a. least a (list_any names xs)) all)

  pub widest_all : (k : ℕ) (was : Width) → length xs ≤ k → was ≡ widest (take k xs) → was ≡ widest xs
  widest_all k was enough before = before ∙ ap widest (take_all k xs enough)
