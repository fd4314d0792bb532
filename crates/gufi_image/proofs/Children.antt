-- The path of a directory, from its parent's path and its name.
use Rattle.std.proofs.Common.{◌≡◌, ℕ, true, List, [], ◌∷◌, ◌++◌, Result, Ok, Err, refl, sym, ap, ◌∙◌}
use Rattle.std.specs.Prelude.{IfOk}
use Rattle.std.specs.List.{list_all}
use Rattle.std.proofs.lemmas.Bool.{and_from}
use Rattle.std.proofs.lemmas.List.Folds.{list_all-append}
use Rattle.gufi_base.specs.Names.{is_name}
use Rattle.gufi_base.specs.Paths.{Components, slashed_text, stem}
use Rattle.gufi_base.specs.PathTexts.{kept_text}
use Rattle.gufi_base.specs.PathParts.{ArePartsOf}
use Rattle.gufi_base.proofs.Parts.{last_of_push}
use Rattle.gufi_base.proofs.Texts.{slashed_text-closed}
use Rattle.gufi_tree.proofs.Built.{parent_path-child}

child_stem : (parent : Components) (name : List ℕ) → kept_text parent ≡ stem (parent ++ name ∷ [])
child_stem [] name = refl
child_stem (first ∷ rest) name = sym (ap (λ (path : Components). slashed_text path ++ 47 ∷ []) (parent_path-child (first ∷ rest) name) ∙ slashed_text-closed (first ∷ rest))

pub child_parts : (parent : Components) (name front last : List ℕ) → list_all is_name parent ≡ true → is_name name ≡ true → front ≡ kept_text parent → last ≡ name → ArePartsOf front last (parent ++ name ∷ [])
child_parts parent name front last named own text same = record {
  names = list_all-append is_name parent (name ∷ []) ∙ and_from _ _ named (and_from _ _ own refl);
  stem = text ∙ child_stem parent name;
  base = same ∙ sym (last_of_push (47 ∷ []) parent name);
}

pub made_child : {E : Type 0} (parent : Components) (name front last : List ℕ) (r : Result Components E) → ArePartsOf front last (parent ++ name ∷ []) → IfOk r (λ made. (path : Components) → ArePartsOf front last path → made ≡ path)
    → IfOk r (λ made. made ≡ parent ++ name ∷ [])
made_child parent name front last (Ok made) parts h = h (parent ++ name ∷ []) parts
made_child parent name front last (Err e) parts h = tt
