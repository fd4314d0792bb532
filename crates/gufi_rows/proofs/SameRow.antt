-- The path of a row is found again from the text before its base name, and the base name.
use Rattle.std.proofs.Common.{◌≡◌, ℕ, List, [], ◌∷◌, ◌++◌, true, refl, ◌∙◌, ap}
use Rattle.std.specs.List.{list_all}
use Rattle.gufi_base.specs.Names.{is_name}
use Rattle.gufi_base.specs.Paths.{Components, parent_path, base_name, stem}
use Rattle.gufi_base.specs.PathTexts.{kept_text}
use Rattle.gufi_base.specs.PathParts.{path_of_parts}
use Rattle.gufi_base.proofs.Cuts.{all_but_last_and_last}
use Rattle.gufi_base.proofs.Names.{names-kept_text}
use Rattle.gufi_base.proofs.Texts.{slashed_text-closed, parent_named}

kept_again : (parent : Components) (base text : List ℕ) → list_all is_name parent ≡ true → text ≡ kept_text parent → path_of_parts text base ≡ parent ++ base ∷ []
kept_again parent base text named e = ap (λ (t : List ℕ). path_of_parts t base) e ∙ ap (λ (p : Components). p ++ base ∷ []) (names-kept_text parent named)

pub parts_again : (path : Components) → list_all is_name path ≡ true → path_of_parts (stem path) (base_name path) ≡ path
parts_again [] named = refl
parts_again (name ∷ path) named =
    kept_again (parent_path (name ∷ path)) (base_name (name ∷ path)) (stem (name ∷ path)) (parent_named (name ∷ path) named) (slashed_text-closed (parent_path (name ∷ path)))
    ∙ all_but_last_and_last (47 ∷ []) name path
