-- Texts that begin with names of another path.
use Rattle.std.proofs.Common.{◌≡◌, ℕ, zero, suc, ◌-◌, ◌<◌, ◌≤◌, true, List, [], ◌∷◌, ◌++◌, length, take, drop, get_or, refl, sym, ap, ◌∙◌, arith}
use Rattle.std.specs.List.{list_all}
use Rattle.std.proofs.lemmas.Bool.{and_parts}
use Rattle.std.proofs.lemmas.List.{take-append-drop, take-take}
use Rattle.std.proofs.lemmas.List.Folds.{list_all-append}
use Rattle.std.proofs.Math.Seq.{take-suc}
use Rattle.gufi_base.specs.Basics.{split, all_but_last, last_of}
use Rattle.gufi_base.specs.Names.{is_name}
use Rattle.gufi_base.specs.PathTexts.{IsText}
use Rattle.gufi_base.proofs.Parts.{all_but_last_push, last_of_push}
use Rattle.gufi_base.proofs.Cuts.{split_append, split_some, all_but_last-append}
use Rattle.gufi_base.proofs.TextLines.{split_ended}
use Rattle.gufi_base.proofs.Children.{all_named}

-- the parts on both sides of a slash
split_both : (front rest : List ℕ) → split 47 ((front ++ 47 ∷ []) ++ rest) ≡ split 47 front ++ split 47 rest
split_both front rest =
    let ended : split 47 (front ++ 47 ∷ []) ≡ split 47 front ++ [] ∷ [] = split_ended 47 front in
    split_append 47 (front ++ 47 ∷ []) rest ∙ ap (λ (ps : List (List ℕ)). all_but_last ps ++ split 47 (last_of [] ps ++ rest)) ended
    ∙ rw (all_but_last_push (split 47 front) [], last_of_push [] (split 47 front) []) refl

named_before : (parts more : List (List ℕ)) → (more ≡ [] → ⊥) → list_all is_name (all_but_last (parts ++ more)) ≡ true → list_all is_name parts ≡ true
named_before parts [] some h = absurd (some refl)
named_before parts (part ∷ more) some h =
    (and_parts _ _ (sym (list_all-append is_name parts (all_but_last (part ∷ more))) ∙ ap (list_all is_name) (sym (all_but_last-append parts part more)) ∙ h)).0

-- the front of a path's text up to behind a slash, and names behind it
named_behind : (text front left rest : List ℕ) → IsText text → drop 1 text ≡ (front ++ 47 ∷ []) ++ left → list_all is_name (split 47 rest) ≡ true → list_all is_name (split 47 ((front ++ 47 ∷ []) ++ rest)) ≡ true
named_behind text front left rest is e h =
    let each : list_all is_name (all_but_last (split 47 front ++ split 47 left)) ≡ true = ap (λ (ps : List (List ℕ)). list_all is_name (all_but_last ps)) (sym (ap (split 47) e ∙ split_both front left)) ∙ is.each in
    ap (list_all is_name) (split_both front rest) ∙ all_named (split 47 front) (split 47 rest) (named_before (split 47 front) (split 47 left) (split_some 47 left) each) h

-- Bytes are names where those behind a slash are, and those before it are another path's.
pub named_beside : (bytes known : List ℕ) (same cut : ℕ) → IsText known → take same bytes ≡ take same (drop 1 known) → same ≤ length bytes → cut ≤ same → (0 < cut → get_or bytes (cut - 1) 0 ≡ 47) → list_all is_name (split 47 (drop cut bytes)) ≡ true
    → list_all is_name (split 47 bytes) ≡ true
named_beside bytes known same zero is front within le slash h = h
named_beside bytes known same (suc n) is front within le slash h =
    let cut : ℕ = suc n in
    let at : cut - 1 ≡ n = omega arith in
    let ends : take cut bytes ≡ take n bytes ++ 47 ∷ [] = take-suc bytes n 0 (omega arith) ∙ ap (λ (b : ℕ). take n bytes ++ b ∷ []) (ap (λ k. get_or bytes k 0) (sym at) ∙ slash (omega arith)) in
    let shared : take cut (drop 1 known) ≡ take n bytes ++ 47 ∷ [] = sym (take-take cut same (drop 1 known) le) ∙ ap (take cut) (sym front) ∙ take-take cut same bytes le ∙ ends in
    let whole : drop 1 known ≡ (take n bytes ++ 47 ∷ []) ++ drop cut (drop 1 known) = sym (take-append-drop cut (drop 1 known)) ∙ ap (λ (t : List ℕ). t ++ drop cut (drop 1 known)) shared in
    ap (λ (t : List ℕ). list_all is_name (split 47 t)) (sym (take-append-drop cut bytes) ∙ ap (λ (t : List ℕ). t ++ drop cut bytes) ends)
    ∙ named_behind known (take n bytes) (drop cut (drop 1 known)) (drop cut bytes) is whole h
