-- Paths behind a prefix, by the parts of a row.
use Rattle.std.proofs.Common.{◌≡◌, ℕ, List, [], ◌∷◌, ◌++◌, length, refl, sym, ap, ◌∙◌, append-nil, append_assoc, arith}
use Rattle.std.proofs.lemmas.List.{length-append}
use Rattle.gufi_base.specs.declared.record.Row.{Row}
use Rattle.gufi_base.specs.declared.record.RowRef.{RowRef}
use Rattle.gufi_base.specs.Paths.{Components, slashed_text, parent_path, base_name, stem}
use Rattle.gufi_base.specs.Rows.{Stands}
use Rattle.gufi_base.proofs.CutParts.{path_text-parts}

slashed_root : (path : Components) → length (stem path) ≡ 0 → slashed_text path ≡ []
slashed_root [] none = refl
slashed_root (name ∷ path) none = absurd (omega (arith, none, length-append (slashed_text (parent_path (name ∷ path))) (47 ∷ [])))

slashed_below : (path : Components) → ¬ (length (stem path) ≡ 0) → slashed_text path ≡ stem path ++ base_name path
slashed_below [] some = absurd (some refl)
slashed_below (name ∷ path) some = path_text-parts (name ∷ path)

-- the root has no stem
pub nothing_put : (ref : RowRef) (row : Row) (old : List ℕ) → Stands ref row → length ref.stem.now ≡ 0 → old ≡ old ++ slashed_text row.path
nothing_put ref row old stands none = sym (ap (λ l. old ++ l) (slashed_root row.path (ap length (sym stands.stem) ∙ none)) ∙ append-nil old)

-- any other path is its stem and its base name
pub parts_put : (ref : RowRef) (row : Row) (old now new : List ℕ) → Stands ref row → ¬ (length ref.stem.now ≡ 0) → now ≡ old ++ ref.stem.now → new ≡ now ++ ref.base.now
    → new ≡ old ++ slashed_text row.path
parts_put ref row old now new stands some first next =
    next ∙ ap (λ l. l ++ ref.base.now) first ∙ append_assoc old ref.stem.now ref.base.now
    ∙ ap (λ l. old ++ l) (ap (λ l. l ++ ref.base.now) stands.stem ∙ ap (λ l. stem row.path ++ l) stands.base ∙ sym (slashed_below row.path (λ none. some (ap length stands.stem ∙ none))))
