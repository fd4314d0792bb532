-- How many slashes stand before the last name of a path.
use Rattle.std.proofs.Common.{◌≡◌, ℕ, ◌∷◌, [], List, length, eqb, true, refl, ap, ◌∙◌, suc}
use Rattle.std.specs.List.{filter, list_all}
use Rattle.gufi_base.specs.Names.{is_name}
use Rattle.gufi_base.specs.Paths.{Components, parent_path, stem}
use Rattle.gufi_base.specs.PathTexts.{kept_text}
use Rattle.gufi_base.proofs.Below.{slashes-text}
use Rattle.gufi_base.proofs.Names.{names-kept_text, IsText-kept_text}
use Rattle.gufi_base.proofs.Texts.{slashed_text-closed, parent_named}

one_less : (name : List ℕ) (path : Components) → suc (length (parent_path (name ∷ path))) ≡ length (name ∷ path)
one_less name [] = refl
one_less name (next ∷ path) = ap suc (one_less next path)

-- as many as the path has names
pub stem-slashes : (path : Components) → list_all is_name path ≡ true → length (filter (λ b. eqb b 47) (stem path)) ≡ length path
stem-slashes [] named = refl
stem-slashes (name ∷ path) named =
    let parent = parent_path (name ∷ path) in
    let each : list_all is_name parent ≡ true = parent_named (name ∷ path) named in
    ap (λ (t : List ℕ). length (filter (λ b. eqb b 47) t)) (slashed_text-closed parent)
    ∙ slashes-text (kept_text parent) (IsText-kept_text parent each)
    ∙ ap (λ (p : Components). suc (length p)) (names-kept_text parent each)
    ∙ one_less name path
