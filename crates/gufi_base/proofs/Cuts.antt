-- A text cut at a byte: its parts, and those of two texts one after the other.
use Rattle.std.proofs.Common.{◌≡◌, ℕ, Bool, true, false, cond, eqb, List, [], ◌∷◌, ◌++◌, refl, sym, ap, ◌∙◌}
use Rattle.std.specs.List.{onto_first}
use Rattle.std.proofs.lemmas.Bool.{cond-false, and_parts, and_from, not-true, not_from_false, eqb-true}
use Rattle.gufi_base.specs.Basics.{split, all_but_last, last_of}
use Rattle.gufi_base.proofs.Parts.{closed_by, has_no}

pub split_behind : (s : ℕ) (rest bytes p : List ℕ) (ps : List (List ℕ)) → has_no s rest ≡ true → split s bytes ≡ p ∷ ps → split s (rest ++ bytes) ≡ (rest ++ p) ∷ ps
split_behind s [] bytes p ps h e = e
split_behind s (b ∷ rest) bytes p ps h e =
    let both = and_parts _ _ h in
    cond-false (eqb b s) ([] ∷ split s (rest ++ bytes)) (onto_first b (split s (rest ++ bytes))) (not-true _ both.0) ∙ ap (onto_first b) (split_behind s rest bytes p ps both.1 e)

some_cond : (t : Bool) (b : ℕ) (ps : List (List ℕ)) → cond t ([] ∷ ps) (onto_first b ps) ≡ [] → ⊥
some_cond true b ps e = cc
some_cond false b [] e = cc
some_cond false b (p ∷ ps) e = cc

pub split_some : (s : ℕ) (bytes : List ℕ) → split s bytes ≡ [] → ⊥
split_some s [] e = cc
split_some s (b ∷ bytes) e = some_cond (eqb b s) b (split s bytes) e

last_cond : (s b : ℕ) (t : Bool) (ps : List (List ℕ)) → eqb b s ≡ t → has_no s (last_of [] ps) ≡ true → has_no s (last_of [] (cond t ([] ∷ ps) (onto_first b ps))) ≡ true
last_cond s b true [] e h = refl
last_cond s b true (p ∷ ps) e h = h
last_cond s b false [] e h = and_from _ _ (not_from_false _ e) refl
last_cond s b false (p ∷ []) e h = and_from _ _ (not_from_false _ e) h
last_cond s b false (p ∷ q ∷ ps) e h = h

pub last_has_no : (s : ℕ) (bytes : List ℕ) → has_no s (last_of [] (split s bytes)) ≡ true
last_has_no s [] = refl
last_has_no s (b ∷ bytes) = last_cond s b (eqb b s) (split s bytes) refl (last_has_no s bytes)

-- the parts of two texts one after the other
append_cond : (s x : ℕ) (b : List ℕ) (ps qs : List (List ℕ)) (t : Bool) → eqb x s ≡ t → (ps ≡ [] → ⊥) → qs ≡ all_but_last ps ++ split s (last_of [] ps ++ b)
    → cond t ([] ∷ qs) (onto_first x qs) ≡ all_but_last (cond t ([] ∷ ps) (onto_first x ps)) ++ split s (last_of [] (cond t ([] ∷ ps) (onto_first x ps)) ++ b)
append_cond s x b [] qs t e some h = absurd (some refl)
append_cond s x b (p ∷ ps) qs true e some h = ap (λ (y : List (List ℕ)). [] ∷ y) h
append_cond s x b (p ∷ []) qs false e some h = ap (onto_first x) h ∙ sym (cond-false (eqb x s) ([] ∷ split s (p ++ b)) (onto_first x (split s (p ++ b))) e)
append_cond s x b (p ∷ q ∷ ps) qs false e some h = ap (onto_first x) h

pub split_append : (s : ℕ) (a b : List ℕ) → split s (a ++ b) ≡ all_but_last (split s a) ++ split s (last_of [] (split s a) ++ b)
split_append s [] b = refl
split_append s (x ∷ a) b = append_cond s x b (split s a) (split s (a ++ b)) (eqb x s) refl (split_some s a) (split_append s a b)

pub all_but_last-append : {A : Type 0} (xs : List A) (q : A) (qs : List A) → all_but_last (xs ++ q ∷ qs) ≡ xs ++ all_but_last (q ∷ qs)
all_but_last-append [] q qs = refl
all_but_last-append (x ∷ []) q qs = refl
all_but_last-append (x ∷ y ∷ xs) q qs = ap (λ z. x ∷ z) (all_but_last-append (y ∷ xs) q qs)

pub last_of-append : {A : Type 0} (d : A) (xs : List A) (q : A) (qs : List A) → last_of d (xs ++ q ∷ qs) ≡ last_of q qs
last_of-append d [] q qs = refl
last_of-append d (x ∷ xs) q qs = last_of-append x xs q qs

pub all_but_last_and_last : {A : Type 0} (d x : A) (xs : List A) → all_but_last (x ∷ xs) ++ last_of d (x ∷ xs) ∷ [] ≡ x ∷ xs
all_but_last_and_last d x [] = refl
all_but_last_and_last d x (next ∷ xs) = ap (λ rest. x ∷ rest) (all_but_last_and_last x next xs)

close_cond : (s b : ℕ) (bytes : List ℕ) (t : Bool) (ps : List (List ℕ)) → eqb b s ≡ t → (ps ≡ [] → ⊥) → closed_by s (all_but_last ps) ++ last_of [] ps ≡ bytes
    → closed_by s (all_but_last (cond t ([] ∷ ps) (onto_first b ps))) ++ last_of [] (cond t ([] ∷ ps) (onto_first b ps)) ≡ b ∷ bytes
close_cond s b bytes t [] e some h = absurd (some refl)
close_cond s b bytes true (p ∷ ps) e some h = ap (λ (x : ℕ). x ∷ (closed_by s (all_but_last (p ∷ ps)) ++ last_of [] (p ∷ ps))) (sym (eqb-true b s e)) ∙ ap (λ (x : List ℕ). b ∷ x) h
close_cond s b bytes false (p ∷ []) e some h = ap (λ (x : List ℕ). b ∷ x) h
close_cond s b bytes false (p ∷ q ∷ ps) e some h = ap (λ (x : List ℕ). b ∷ x) h

-- the parts, closed_by again
pub close_split : (s : ℕ) (bytes : List ℕ) → closed_by s (all_but_last (split s bytes)) ++ last_of [] (split s bytes) ≡ bytes
close_split s [] = refl
close_split s (b ∷ bytes) = close_cond s b bytes (eqb b s) (split s bytes) refl (split_some s bytes) (close_split s bytes)
