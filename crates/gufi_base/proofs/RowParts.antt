-- The parts of a row in a directory: the stem is the directory's kept text, the base is the row's name.
use Rattle.std.proofs.Common.{◌≡◌, ℕ, true, List, [], ◌∷◌, ◌++◌, refl, ap, ◌∙◌}
use Rattle.std.specs.List.{list_all}
use Rattle.std.proofs.lemmas.Bool.{and_parts, and_from}
use Rattle.std.proofs.lemmas.List.{append-nil}
use Rattle.gufi_base.specs.Names.{is_name}
use Rattle.gufi_base.specs.Paths.{Components, slashed_text, base_name, stem}
use Rattle.gufi_base.specs.PathTexts.{kept_text}
use Rattle.gufi_base.proofs.Cuts.{all_but_last-append, last_of-append}
use Rattle.gufi_base.proofs.Texts.{slashed_text-closed}

pub stem_push : (path : Components) (name : List ℕ) → stem (path ++ name ∷ []) ≡ kept_text path
stem_push [] name = refl
stem_push (first ∷ path) name =
    ap (λ (p : Components). slashed_text p ++ 47 ∷ []) (all_but_last-append (first ∷ path) name [] ∙ append-nil (first ∷ path)) ∙ slashed_text-closed (first ∷ path)

pub base_name_push : (path : Components) (name : List ℕ) → base_name (path ++ name ∷ []) ≡ name
base_name_push path name = last_of-append (47 ∷ []) path name []

pub named_push : (path : Components) (name : List ℕ) → list_all is_name path ≡ true → is_name name ≡ true → list_all is_name (path ++ name ∷ []) ≡ true
named_push [] name h n = and_from _ _ n refl
named_push (first ∷ path) name h n = let both = and_parts _ _ h in and_from _ _ both.0 (named_push path name both.1 n)
