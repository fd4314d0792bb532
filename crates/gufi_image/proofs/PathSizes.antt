-- How long a path is with one name more.
use Rattle.std.proofs.Common.{◌≡◌, ℕ, ◌+◌, ◌||◌, ltb, List, [], ◌∷◌, ◌++◌, length, refl, sym, ap, ◌∙◌, arith, append_assoc}
use Rattle.std.proofs.lemmas.List.{append-nil, length-append}
use Rattle.std.proofs.lemmas.List.Concat.{flat_map-append}
use Rattle.gufi_base.specs.Limits.{max_components, max_path}
use Rattle.gufi_base.specs.Paths.{Components, path_text, slashed_text, is_too_long}
use Rattle.gufi_base.specs.PathTexts.{kept_text}
use Rattle.gufi_base.proofs.Texts.{slashed_text-closed}
use Rattle.gufi_image.specs.Measured.{IsMeasured}

some_text : (path : Components) (name : List ℕ) → path_text (path ++ name ∷ []) ≡ slashed_text (path ++ name ∷ [])
some_text [] name = refl
some_text (n ∷ path) name = refl

text_with : (path : Components) (name : List ℕ) → path_text (path ++ name ∷ []) ≡ kept_text path ++ name
text_with path name =
    some_text path name
    ∙ flat_map-append (λ (n : List ℕ). 47 ∷ n) path (name ∷ [])
    ∙ ap (λ (t : List ℕ). slashed_text path ++ 47 ∷ t) (append-nil name)
    ∙ sym (append_assoc (slashed_text path) (47 ∷ []) name)
    ∙ ap (λ (t : List ℕ). t ++ name) (slashed_text-closed path)

pub too_long_with : (path : Components) (name : List ℕ) (depth bytes : ℕ) → IsMeasured path depth bytes
    → (ltb max_components (depth + 1) || ltb max_path (bytes + length name)) ≡ is_too_long (path ++ name ∷ [])
too_long_with path name depth bytes m =
    let names : depth + 1 ≡ length (path ++ name ∷ []) = omega (arith, m.names, length-append path (name ∷ [])) in
    let text : bytes + length name ≡ length (path_text (path ++ name ∷ [])) = omega (arith, m.text, ap length (text_with path name), length-append (kept_text path) name) in
    ap (λ n. ltb max_components n || ltb max_path (bytes + length name)) names ∙ ap (λ n. ltb max_components (length (path ++ name ∷ [])) || ltb max_path n) text
