-- The text of a path, cut before its base name.
use Rattle.std.proofs.Common.{◌≡◌, ℕ, ◌<◌, true, List, [], ◌∷◌, ◌++◌, length, refl, sym, ap, ◌∙◌, subst, arith, append_assoc}
use Rattle.std.specs.List.{list_all}
use Rattle.std.proofs.lemmas.Grind.{flat_map-append}
use Rattle.std.proofs.lemmas.List.{append-nil}
use Rattle.gufi_base.specs.Names.{is_name}
use Rattle.gufi_base.specs.Paths.{Components, path_text, slashed_text, parent_path, base_name, stem}
use Rattle.gufi_base.specs.PathTexts.{kept_text, names, IsText}
use Rattle.gufi_base.specs.PathParts.{ArePartsOf}
use Rattle.gufi_base.proofs.Parts.{has_no}
use Rattle.gufi_base.proofs.Names.{name_has_no, IsText-kept_text, names-kept_text}
use Rattle.gufi_base.proofs.Cuts.{all_but_last_and_last}
use Rattle.gufi_base.proofs.Texts.{slashed_text-closed, kept_text_push, last_named}

abbrev pub EndsWithSlash : List ℕ → Type 0
EndsWithSlash text = (front : List ℕ) × (text ≡ front ++ 47 ∷ [])

-- the kept text of a path that isn't the root, cut before its base name
pub record IsCut (front last : List ℕ) (path : Components) : Type 0 where
  pub names : list_all is_name path ≡ true
  pub whole : front ++ (last ++ 47 ∷ []) ≡ kept_text path
  pub ends : EndsWithSlash front
  pub clear : has_no 47 last ≡ true

pub IsCut-parts : (front last : List ℕ) (path : Components) → ArePartsOf front last path → 0 < length front → IsCut front last path
IsCut-parts front last [] parts some = absurd (omega (arith, ap length parts.stem))
IsCut-parts front last (name ∷ path) parts some =
    let parent : Components = parent_path (name ∷ path) in
    record {
      names = parts.names;
      whole =
          ap (λ (t : List ℕ). t ++ (last ++ 47 ∷ [])) (parts.stem ∙ slashed_text-closed parent) ∙ ap (λ (t : List ℕ). kept_text parent ++ (t ++ 47 ∷ [])) parts.base
          ∙ sym (kept_text_push parent (base_name (name ∷ path))) ∙ ap kept_text (all_but_last_and_last (47 ∷ []) name path);
      ends = (slashed_text parent, parts.stem);
      clear = ap (has_no 47) parts.base ∙ name_has_no (base_name (name ∷ path)) (last_named (47 ∷ []) name path parts.names);
    }

-- the text that parts make
pub IsText-parts : (front last text : List ℕ) (path : Components) → ArePartsOf front last path → 0 < length front → text ≡ front ++ (last ++ 47 ∷ []) → IsText text × (names text ≡ path)
IsText-parts front last text path parts some e =
    let whole : text ≡ kept_text path = e ∙ (IsCut-parts front last path parts some).whole in
    (subst IsText (sym whole) (IsText-kept_text path parts.names), ap names whole ∙ names-kept_text path parts.names)

-- the printed text of a path is its two parts
pub path_text-parts : (path : Components) → path_text path ≡ stem path ++ base_name path
path_text-parts [] = refl
path_text-parts (name ∷ path) =
    let parent : Components = parent_path (name ∷ path) in
    let base : List ℕ = base_name (name ∷ path) in
    ap slashed_text (sym (all_but_last_and_last (47 ∷ []) name path)) ∙ flat_map-append (λ (n : List ℕ). 47 ∷ n) parent (base ∷ [])
    ∙ ap (λ (t : List ℕ). slashed_text parent ++ (47 ∷ t)) (append-nil base) ∙ sym (append_assoc (slashed_text parent) (47 ∷ []) base)
