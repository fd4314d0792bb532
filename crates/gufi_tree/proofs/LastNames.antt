-- Where the last name of a path begins in its text.
use Rattle.std.proofs.Common.{◌≡◌, ◌≢◌, ℕ, ◌-◌, ◌<◌, ◌≤◌, List, [], ◌∷◌, ◌++◌, take, drop, length, refl, sym, ap, ◌∙◌, arith, length-append}
use Rattle.gufi_base.specs.Paths.{Components, base_name, parent_path, stem}
use Rattle.gufi_base.specs.PathTexts.{closed_names, kept_text, names, IsText}
use Rattle.gufi_base.proofs.Texts.{LastName-text, take-last, base-last}

none : (path : Components) → length (kept_text path) ≤ 1 → path ≡ []
none [] short = refl
none (name ∷ path) short = absurd (omega (arith, length-append (name ++ 47 ∷ []) (closed_names path), length-append name (47 ∷ [])))

pub no_name : (text : List ℕ) → IsText text → length text ≤ 1 → names text ≡ []
no_name text is short = none (names text) (omega (arith, ap length is.whole))

module _ (text : List ℕ) (at : ℕ) (is : IsText text) (some : 1 < length text) (there : at ≡ length (kept_text (parent_path (names text)))) where
  pub last_within : at < length text
  last_within =
      let name = LastName-text text is some in
      omega (arith, there, ap length name.whole, length-append (kept_text (parent_path (names text))) (base_name (names text) ++ 47 ∷ []), length-append (base_name (names text)) (47 ∷ []))

  pub front_there : take at text ≡ kept_text (parent_path (names text))
  front_there = take-last text (names text) at (LastName-text text is some) there

  pub some_name : names text ≢ []
  some_name = (LastName-text text is some).some

  pub stem_there : take at text ≡ stem (names text)
  stem_there = let name = LastName-text text is some in take-last text (names text) at name there ∙ sym name.stem

  pub base_there : take (length text - 1 - at) (drop at text) ≡ base_name (names text)
  base_there = base-last text (names text) at (LastName-text text is some) there
