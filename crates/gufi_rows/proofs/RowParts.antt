-- The depth of a path by its stem.
use Rattle.std.proofs.Common.{◌≡◌, ℕ, ◌+◌, ◌<◌, ◌≤◌, eqb, List, [], ◌∷◌, length, refl, sym, ap, ◌∙◌, subst, arith, length-append}
use Rattle.std.specs.Prelude.{not}
use Rattle.std.proofs.lemmas.List.Filters.{length-filter_both}
use Rattle.gufi_base.specs.Basics.{last_of}
use Rattle.gufi_base.specs.Paths.{Components, parent_path}
use Rattle.gufi_base.specs.PathParts.{ArePartsOf}
use Rattle.gufi_base.specs.PathTexts.{IsText, kept_text, names}
use Rattle.gufi_base.proofs.Below.{slashes-text}
use Rattle.gufi_base.proofs.Cuts.{all_but_last_and_last}
use Rattle.gufi_base.proofs.Names.{IsText-kept_text, names-kept_text}
use Rattle.gufi_base.proofs.Texts.{parent_named, slashed_text-closed}

-- a stem spells the directory that the path lies in
stem_text : (front last : List ℕ) (path : Components) → ArePartsOf front last path → 0 < length front → IsText front × (length path ≡ length (names front) + 1)
stem_text front last [] parts some = absurd (omega (arith, some, ap length parts.stem))
stem_text front last (name ∷ path) parts some =
    let parent : Components = parent_path (name ∷ path) in
    let each = parent_named (name ∷ path) parts.names in
    let whole : front ≡ kept_text parent = parts.stem ∙ slashed_text-closed parent in
    let size : length (name ∷ path) ≡ length parent + 1 =
    ap length (sym (all_but_last_and_last (47 ∷ []) name path)) ∙ length-append parent (last_of (47 ∷ []) (name ∷ path) ∷ []) in
    (subst IsText (sym whole) (IsText-kept_text parent each), size ∙ ap (λ n. n + 1) (sym (ap (λ t. length (names t)) whole ∙ ap length (names-kept_text parent each))))

pub record IsStemOf (front : List ℕ) (path : Components) : Type 0 where
  pub text : IsText front
  pub depth : length path ≡ length (names front) + 1
  pub few : length path ≤ length front

pub IsStemOf-parts : (front last : List ℕ) (path : Components) → ArePartsOf front last path → 0 < length front → IsStemOf front path
IsStemOf-parts front last path parts some =
    let is = stem_text front last path parts some in
    record {
      text = is.0;
      depth = is.1;
      few = omega (arith, is.1, slashes-text front is.0, length-filter_both (λ b. eqb b 47) (λ b. not (eqb b 47)) (λ b. refl) front);
    }

pub depth_without_stem : (front last : List ℕ) (path : Components) → ArePartsOf front last path → length front ≡ 0 → 0 ≡ length path
depth_without_stem front last [] parts none = refl
depth_without_stem front last (name ∷ path) parts none =
    absurd (omega (arith, none, ap length (parts.stem ∙ slashed_text-closed (parent_path (name ∷ path)))))
