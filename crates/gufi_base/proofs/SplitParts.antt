-- The parts that a split at one byte gives.
use Rattle.std.proofs.Common.{get_or-drop, ⊎_elim, ◌≡◌, ℕ, zero, suc, ◌+◌, ◌-◌, ◌<◌, ◌≤◌, Bool, true, false, cond, eqb, List, [], ◌∷◌, ◌++◌, length, get_or, take, drop, refl, sym, ap, ◌∙◌, arith, length-drop}
use Rattle.std.specs.List.{onto_first}
use Rattle.std.proofs.lemmas.Bool.{cases_Bool, cases_lt, eq-eqb, ne_eqb, cond-true, cond-false, false≢true}
use Rattle.std.proofs.lemmas.List.{append-nil, append_assoc, drop_all, drop_more, take_all, take_more}
use Rattle.memchr.specs.Find.{occurs_at, match_len, matches_from, matches}
use Rattle.memchr.proofs.lemmas.MatchLemmas.{OccursAt-true, occurs_at-true}
use Rattle.memchr.proofs.lemmas.FindLemmas.{OccursAt-byte, byte-OccursAt}
use Rattle.bstr.specs.Text.{split_at, part}
use Rattle.gufi_base.specs.Basics.{split}

-- the parts with bytes before the first
abbrev behind : List ℕ → List (List ℕ) → List (List ℕ)
behind front [] = front ∷ []
behind front (x ∷ xs) = (front ++ x) ∷ xs

behind_onto : (front : List ℕ) (b : ℕ) (xs : List (List ℕ)) → behind front (onto_first b xs) ≡ behind (front ++ b ∷ []) xs
behind_onto front b [] = refl
behind_onto front b (x ∷ xs) = ap (λ (y : List ℕ). y ∷ xs) (sym (append_assoc front (b ∷ []) x))

at_onto : (b : ℕ) (xs : List (List ℕ)) → behind [] (onto_first b xs) ≡ onto_first b xs
at_onto b [] = refl
at_onto b (x ∷ xs) = refl

at_cond : (t : Bool) (b : ℕ) (xs : List (List ℕ)) → behind [] (cond t ([] ∷ xs) (onto_first b xs)) ≡ cond t ([] ∷ xs) (onto_first b xs)
at_cond true b xs = refl
at_cond false b xs = at_onto b xs

behind_none : (s : ℕ) (bs : List ℕ) → behind [] (split s bs) ≡ split s bs
behind_none s [] = refl
behind_none s (b ∷ bs) = at_cond (eqb b s) b (split s bs)

seam_hit : (s h : ℕ) (front rest : List ℕ) → eqb h s ≡ true → front ∷ split s rest ≡ behind front (split s (h ∷ rest))
seam_hit s h front rest e = ap (λ (y : List ℕ). y ∷ split s rest) (sym (append-nil front)) ∙ ap (behind front) (sym (cond-true (eqb h s) ([] ∷ split s rest) (onto_first h (split s rest)) e))

seam_miss : (s h : ℕ) (front rest : List ℕ) → eqb h s ≡ false → behind (front ++ h ∷ []) (split s rest) ≡ behind front (split s (h ∷ rest))
seam_miss s h front rest e = sym (behind_onto front h (split s rest)) ∙ ap (behind front) (sym (cond-false (eqb h s) ([] ∷ split s rest) (onto_first h (split s rest)) e))

part_more : (hay : List ℕ) (last i : ℕ) → last ≤ i → i < length hay → part last (i + 1) hay ≡ part last i hay ++ get_or hay i 0 ∷ []
part_more hay last i le lt =
    let count : i + 1 - last ≡ i - last + 1 = omega arith in
    let place : last + (i - last) ≡ i = omega arith in
    ap (λ k. take k (drop last hay)) count ∙ take_more (drop last hay) (i - last) 0 (omega (arith, length-drop last hay))
    ∙ ap (λ (h : ℕ). part last i hay ++ h ∷ []) (get_or-drop last hay (i - last) 0 ∙ ap (λ k. get_or hay k 0) place)

part_past : (hay : List ℕ) (last i : ℕ) → last ≤ i → length hay ≤ i → part last i hay ≡ drop last hay
part_past hay last i le past = take_all (i - last) (drop last hay) (omega (arith, length-drop last hay))

-- the split from place i on, where a part began at place last
split_from : (hay needle : List ℕ) → length needle ≡ 1 → (n i last : ℕ) → last ≤ i → i + n ≡ length hay + 1 → split_at hay 1 last (matches_from hay needle 0 i n) ≡ behind (part last i hay) (split (get_or needle 0 0) (drop i hay))
unfolding split_at matches_from
split_from hay needle one zero i last le count =
    let none : drop i hay ≡ [] = drop_all i hay (omega arith) in
    let all : part last i hay ≡ drop last hay = part_past hay last i le (omega arith) in
    rw (none, all) (ap (λ (y : List ℕ). y ∷ []) (sym (append-nil (drop last hay))))
split_from hay needle one (suc n) i last le count =
    let s = get_or needle 0 0 in
    ⊎_elim (λ (hit : occurs_at hay needle i ≡ true).
    let at = OccursAt-true hay needle i hit in
    let fits : i < length hay = omega (arith, at.fits) in
    let here : eqb (get_or hay i 0) s ≡ true = byte-OccursAt hay needle one i at in
    let width : match_len needle - 1 ≡ 0 = rw one refl in
    let found : matches_from hay needle 0 i (suc n) ≡ i ∷ matches_from hay needle 0 (i + 1) n = cond-true _ _ _ hit ∙ ap (λ k. i ∷ matches_from hay needle k (i + 1) n) width in
    let nothing : i + 1 - (i + 1) ≡ 0 = omega arith in
    let empty : part (i + 1) (i + 1) hay ≡ [] = ap (λ k. take k (drop (i + 1) hay)) nothing in
    let rest = split_from hay needle one n (i + 1) (i + 1) (omega arith) (omega arith) ∙ ap (λ (f : List ℕ). behind f (split s (drop (i + 1) hay))) empty ∙ behind_none s (drop (i + 1) hay) in
    ap (split_at hay 1 last) found ∙ ap (λ (ps : List (List ℕ)). part last i hay ∷ ps) rest ∙ seam_hit s (get_or hay i 0) (part last i hay) (drop (i + 1) hay) here
    ∙ ap (λ (x : List ℕ). behind (part last i hay) (split s x)) (sym (drop_more hay i 0 fits)))
    (λ (miss : occurs_at hay needle i ≡ false).
    let found : matches_from hay needle 0 i (suc n) ≡ matches_from hay needle 0 (i + 1) n = cond-false _ _ _ miss in
    let rest = split_from hay needle one n (i + 1) last (omega arith) (omega arith) in
    ap (split_at hay 1 last) found ∙ rest ∙ ⊎_elim (λ (lt : i < length hay).
    let here : eqb (get_or hay i 0) s ≡ false = ne_eqb _ _ (λ e. false≢true (sym miss ∙ occurs_at-true hay needle i (OccursAt-byte hay needle one i lt (eq-eqb _ _ e)))) in
    ap (λ (f : List ℕ). behind f (split s (drop (i + 1) hay))) (part_more hay last i le lt) ∙ seam_miss s (get_or hay i 0) (part last i hay) (drop (i + 1) hay) here
    ∙ ap (λ (x : List ℕ). behind (part last i hay) (split s x)) (sym (drop_more hay i 0 lt)))
    (λ (past : length hay ≤ i).
    let front : part last (i + 1) hay ≡ part last i hay = part_past hay last (i + 1) (omega arith) (omega arith) ∙ sym (part_past hay last i le past) in
    let tail : drop (i + 1) hay ≡ drop i hay = drop_all (i + 1) hay (omega arith) ∙ sym (drop_all i hay past) in
    ap (λ (f : List ℕ). behind f (split s (drop (i + 1) hay))) front ∙ ap (λ (x : List ℕ). behind (part last i hay) (split s x)) tail)
    (cases_lt i (length hay)))
    (cases_Bool (occurs_at hay needle i))

pub split_is : (hay needle : List ℕ) → length needle ≡ 1 → split_at hay (length needle) 0 (matches hay needle 0) ≡ split (get_or needle 0 0) hay
split_is hay needle one =
    let empty : part 0 0 hay ≡ [] = refl in
    ap (λ k. split_at hay k 0 (matches hay needle 0)) one ∙ split_from hay needle one (length hay + 1 - 0) 0 0 (omega arith) (omega arith) ∙ behind_none (get_or needle 0 0) hay
