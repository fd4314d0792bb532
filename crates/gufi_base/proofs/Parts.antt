-- The parts of a text, and the text that is made of parts.
use Rattle.std.proofs.Common.{◌≡◌, ℕ, Bool, true, not, eqb, List, [], ◌∷◌, ◌++◌, refl, ap, ◌∙◌, append_assoc}
use Rattle.std.specs.List.{onto_first, list_all, flat_map}
use Rattle.std.proofs.lemmas.Bool.{eq-eqb, cond-true, cond-false, and_parts, not-true}
use Rattle.gufi_base.specs.Basics.{split, all_but_last, last_of}

-- each part with the byte behind it; at 47 these are closed names, at 10 lines
abbrev pub closed_by : ℕ → List (List ℕ) → List ℕ
closed_by s parts = flat_map (λ part. part ++ s ∷ []) parts

-- the byte stands nowhere
abbrev pub has_no : ℕ → List ℕ → Bool
has_no s part = list_all (λ b. not (eqb b s)) part

pub split_first : (s : ℕ) (part rest : List ℕ) → has_no s part ≡ true → split s (part ++ s ∷ rest) ≡ part ∷ split s rest
split_first s [] rest h = cond-true (eqb s s) ([] ∷ split s rest) (onto_first s (split s rest)) (eq-eqb s s refl)
split_first s (b ∷ part) rest h =
    let both = and_parts _ _ h in
    cond-false (eqb b s) ([] ∷ split s (part ++ s ∷ rest)) (onto_first b (split s (part ++ s ∷ rest))) (not-true _ both.0) ∙ ap (onto_first b) (split_first s part rest both.1)

pub split_one : (s : ℕ) (part : List ℕ) → has_no s part ≡ true → split s part ≡ part ∷ []
split_one s [] h = refl
split_one s (b ∷ part) h =
    let both = and_parts _ _ h in
    cond-false (eqb b s) ([] ∷ split s part) (onto_first b (split s part)) (not-true _ both.0) ∙ ap (onto_first b) (split_one s part both.1)

pub closed_cons : (s : ℕ) (part : List ℕ) (parts : List (List ℕ)) (rest : List ℕ) → closed_by s (part ∷ parts) ++ rest ≡ part ++ s ∷ (closed_by s parts ++ rest)
closed_cons s part parts rest = append_assoc (part ++ s ∷ []) (closed_by s parts) rest ∙ append_assoc part (s ∷ []) (closed_by s parts ++ rest)

pub split_closed : (s : ℕ) (parts : List (List ℕ)) (rest : List ℕ) → list_all (has_no s) parts ≡ true → has_no s rest ≡ true → split s (closed_by s parts ++ rest) ≡ parts ++ rest ∷ []
split_closed s [] rest each last = split_one s rest last
split_closed s (part ∷ parts) rest each last =
    let both = and_parts _ _ each in
    ap (split s) (closed_cons s part parts rest) ∙ split_first s part (closed_by s parts ++ rest) both.0 ∙ ap (λ (ps : List (List ℕ)). part ∷ ps) (split_closed s parts rest both.1 last)

pub all_but_last_push : {A : Type 0} (xs : List A) (y : A) → all_but_last (xs ++ y ∷ []) ≡ xs
all_but_last_push [] y = refl
all_but_last_push (x ∷ []) y = refl
all_but_last_push (x ∷ z ∷ zs) y = ap (λ ps. x ∷ ps) (all_but_last_push (z ∷ zs) y)

pub last_of_push : {A : Type 0} (d : A) (xs : List A) (y : A) → last_of d (xs ++ y ∷ []) ≡ y
last_of_push d [] y = refl
last_of_push d (x ∷ xs) y = last_of_push x xs y

-- the parts before each place of the byte, of parts that were closed
pub front_closed : (s : ℕ) (parts : List (List ℕ)) (rest : List ℕ) → list_all (has_no s) parts ≡ true → has_no s rest ≡ true → all_but_last (split s (closed_by s parts ++ rest)) ≡ parts
front_closed s parts rest each last = ap all_but_last (split_closed s parts rest each last) ∙ all_but_last_push parts rest

pub last_closed : (s : ℕ) (parts : List (List ℕ)) (rest : List ℕ) → list_all (has_no s) parts ≡ true → has_no s rest ≡ true → last_of [] (split s (closed_by s parts ++ rest)) ≡ rest
last_closed s parts rest each last = ap (last_of []) (split_closed s parts rest each last) ∙ last_of_push [] parts rest
