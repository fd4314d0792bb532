-- Kept texts: how they end, their last names, and what is left of them below a root.
use Rattle.std.proofs.Common.{◌≡◌, ◌≢◌, ℕ, zero, suc, ◌+◌, ◌-◌, ◌<◌, ◌≤◌, true, List, [], ◌∷◌, ◌++◌, length, take, drop, get_or, refl, sym, ap, ◌∙◌, arith, append_assoc, ⊎_elim}
use Rattle.std.specs.List.{list_all}
use Rattle.std.proofs.lemmas.Bool.{and_parts, and_from, not-true, eq-eqb, cases_lt, false≢true}
use Rattle.std.proofs.lemmas.List.{append-nil, length-append, length-drop, get_or-append-add, get_or_append_left}
use Rattle.std.proofs.lemmas.Grind.{flat_map-append}
use Rattle.std.proofs.Math.Seq.{take-append_seam, drop-append_seam, get_or-append_seam}
use Rattle.gufi_base.specs.Basics.{last_of}
use Rattle.gufi_base.specs.Names.{is_name}
use Rattle.gufi_base.specs.Paths.{Components, slashed_text, path_text, parent_path, base_name, stem}
use Rattle.gufi_base.specs.PathTexts.{closed_names, kept_text, names, IsText}
use Rattle.gufi_base.proofs.Parts.{has_no}
use Rattle.gufi_base.proofs.Cuts.{all_but_last_and_last}
use Rattle.gufi_base.proofs.Names.{name_has_no}

-- a path's text with a slash behind it is its kept text
pub slashed_text-closed : (path : Components) → slashed_text path ++ 47 ∷ [] ≡ kept_text path
slashed_text-closed [] = refl
slashed_text-closed (name ∷ path) =
    append_assoc (47 ∷ name) (slashed_text path) (47 ∷ []) ∙ ap (λ (t : List ℕ). 47 ∷ (name ++ t)) (slashed_text-closed path) ∙ ap (λ (t : List ℕ). 47 ∷ t) (sym (append_assoc name (47 ∷ []) (closed_names path)))

pub kept_text_push : (path : Components) (name : List ℕ) → kept_text (path ++ name ∷ []) ≡ kept_text path ++ (name ++ 47 ∷ [])
kept_text_push path name =
    ap (λ (t : List ℕ). 47 ∷ t) (flat_map-append (λ part. part ++ 47 ∷ []) path (name ∷ []) ∙ ap (λ (t : List ℕ). closed_names path ++ t) (append-nil (name ++ 47 ∷ [])))

pub last_named : (d name : List ℕ) (path : Components) → list_all is_name (name ∷ path) ≡ true → is_name (last_of d (name ∷ path)) ≡ true
last_named d name [] h = (and_parts _ _ h).0
last_named d name (next ∷ path) h = last_named name next path (and_parts _ _ h).1

pub parent_named : (path : Components) → list_all is_name path ≡ true → list_all is_name (parent_path path) ≡ true
parent_named [] h = refl
parent_named (name ∷ []) h = refl
parent_named (name ∷ next ∷ path) h =
    let both = and_parts _ _ h in
    and_from _ _ both.0 (parent_named (next ∷ path) both.1)

-- the text of a path that isn't the root, cut before its last name
pub record LastName (text : List ℕ) (path : Components) : Type 0 where
  pub some : path ≢ []
  pub whole : text ≡ kept_text (parent_path path) ++ (base_name path ++ 47 ∷ [])
  pub name : is_name (base_name path) ≡ true
  pub printed : path_text path ≡ slashed_text path
  pub stem : stem path ≡ kept_text (parent_path path)

last_name : (path : Components) (text : List ℕ) → kept_text path ≡ text → list_all is_name path ≡ true → 1 < length text → LastName text path
last_name [] text e h long = absurd (omega (arith, ap length e))
last_name (name ∷ path) text e h long =
    record {
      some = λ e. cc;
      whole = sym e ∙ ap kept_text (sym (all_but_last_and_last (47 ∷ []) name path)) ∙ kept_text_push (parent_path (name ∷ path)) (base_name (name ∷ path));
      name = last_named (47 ∷ []) name path h;
      printed = refl;
      stem = slashed_text-closed (parent_path (name ∷ path));
    }

pub LastName-text : (text : List ℕ) → IsText text → 1 < length text → LastName text (names text)
LastName-text text is long = last_name (names text) text is.whole is.each long

-- where the last name begins: behind the last slash before it
no_slash_at : (name : List ℕ) (i : ℕ) → has_no 47 name ≡ true → i < length name → get_or name i 0 ≡ 47 → ⊥
no_slash_at [] i h lt e = absurd (omega arith)
no_slash_at (b ∷ name) zero h lt e = false≢true (sym (not-true _ (and_parts _ _ h).0) ∙ eq-eqb b 47 e)
no_slash_at (b ∷ name) (suc i) h lt e = no_slash_at name i (and_parts _ _ h).1 (omega arith) e

slash_before : (path : Components) (rest : List ℕ) → get_or (kept_text path ++ rest) (length (kept_text path) - 1) 0 ≡ 47
slash_before path rest =
    let front = slashed_text path in
    let is : kept_text path ≡ front ++ 47 ∷ [] = sym (slashed_text-closed path) in
    let n : length (kept_text path) - 1 ≡ length front = omega (arith, ap length is, length-append front (47 ∷ [])) in
    ap (λ (t : List ℕ). get_or (t ++ rest) (length (kept_text path) - 1) 0) is ∙ ap (λ k. get_or ((front ++ 47 ∷ []) ++ rest) k 0) n
    ∙ ap (λ (t : List ℕ). get_or t (length front) 0) (append_assoc front (47 ∷ []) rest) ∙ get_or-append_seam front 47 rest 0

pub last_at : (text : List ℕ) (path : Components) (at : ℕ) → LastName text path → length (kept_text (parent_path path)) ≤ at → at < length text → get_or text (at - 1) 0 ≡ 47 → at ≡ length (kept_text (parent_path path))
last_at text path at last le lt slash =
    let front = kept_text (parent_path path) in
    let name = base_name path in
    let n : length text ≡ length front + (length name + 1) = ap length last.whole ∙ length-append front (name ++ 47 ∷ []) ∙ ap (λ k. length front + k) (length-append name (47 ∷ [])) in
    ⊎_elim (λ (more : length front < at).
    let i = at - 1 - length front in
    let place : length front + i ≡ at - 1 = omega arith in
    let within : i < length name = omega arith in
    let here : get_or text (at - 1) 0 ≡ get_or name i 0 =
    ap (λ (t : List ℕ). get_or t (at - 1) 0) last.whole ∙ ap (λ k. get_or (front ++ (name ++ 47 ∷ [])) k 0) (sym place) ∙ get_or-append-add front (name ++ 47 ∷ []) i 0 ∙ get_or_append_left name (47 ∷ []) 0 i within in
    absurd (no_slash_at name i (name_has_no name last.name) within (sym here ∙ slash)))
    (λ (less : at ≤ length front). omega arith)
    (cases_lt (length front) at)

pub last_slash : (text : List ℕ) (path : Components) → LastName text path → get_or text (length (kept_text (parent_path path)) - 1) 0 ≡ 47
last_slash text path last =
    ap (λ (t : List ℕ). get_or t (length (kept_text (parent_path path)) - 1) 0) last.whole ∙ slash_before (parent_path path) (base_name path ++ 47 ∷ [])

pub take-last : (text : List ℕ) (path : Components) (at : ℕ) → LastName text path → at ≡ length (kept_text (parent_path path)) → take at text ≡ kept_text (parent_path path)
take-last text path at last is = ap (λ k. take k text) is ∙ ap (take (length (kept_text (parent_path path)))) last.whole ∙ take-append_seam (kept_text (parent_path path)) (base_name path ++ 47 ∷ [])

pub drop-last : (text : List ℕ) (path : Components) (at : ℕ) → LastName text path → at ≡ length (kept_text (parent_path path)) → drop at text ≡ base_name path ++ 47 ∷ []
drop-last text path at last is = ap (λ k. drop k text) is ∙ ap (drop (length (kept_text (parent_path path)))) last.whole ∙ drop-append_seam (kept_text (parent_path path)) (base_name path ++ 47 ∷ [])

pub base-last : (text : List ℕ) (path : Components) (at : ℕ) → LastName text path → at ≡ length (kept_text (parent_path path)) → take (length text - 1 - at) (drop at text) ≡ base_name path
base-last text path at last is =
    let rest = drop-last text path at last is in
    let n : length text - 1 - at ≡ length (base_name path) = omega (arith, ap length rest, length-drop at text, length-append (base_name path) (47 ∷ [])) in
    ap (λ k. take k (drop at text)) n ∙ ap (take (length (base_name path))) rest ∙ take-append_seam (base_name path) (47 ∷ [])

-- the printed text is the kept text without its last slash
pub printed-text : (text : List ℕ) → IsText text → 1 < length text → take (length text - 1) text ≡ path_text (names text)
printed-text text is long =
    let last = LastName-text text is long in
    let front = slashed_text (names text) in
    let whole : text ≡ front ++ 47 ∷ [] = sym is.whole ∙ sym (slashed_text-closed (names text)) in
    let n : length text - 1 ≡ length front = omega (arith, ap length whole, length-append front (47 ∷ [])) in
    ap (λ k. take k text) n ∙ ap (take (length front)) whole ∙ take-append_seam front (47 ∷ []) ∙ sym last.printed

pub last_init : (text : List ℕ) → IsText text → 1 < length text → length (kept_text (parent_path (names text))) ≤ length text - 1
last_init text is long =
    let last = LastName-text text is long in
    omega (arith, ap length last.whole, length-append (kept_text (parent_path (names text))) (base_name (names text) ++ 47 ∷ []), length-append (base_name (names text)) (47 ∷ []))

-- the last name of a text, where all before it and its last byte are gone
pub base-bytes : (text given rest bytes : List ℕ) (at count : ℕ) → IsText text → 1 < length text → given ≡ text → at ≡ length (kept_text (parent_path (names given))) → rest ≡ drop at text → length rest ≡ count → bytes ≡ take (count - 1) rest → bytes ≡ base_name (names text)
base-bytes text given rest bytes at count is long e place r c b =
    let last = LastName-text text is long in
    let whole : rest ≡ base_name (names text) ++ 47 ∷ [] = r ∙ drop-last text (names text) at last (place ∙ ap (λ (t : List ℕ). length (kept_text (parent_path (names t)))) e) in
    let n : count - 1 ≡ length (base_name (names text)) = omega (arith, c, ap length whole, length-append (base_name (names text)) (47 ∷ [])) in
    b ∙ ap (λ k. take k rest) n ∙ ap (take (length (base_name (names text)))) whole ∙ take-append_seam (base_name (names text)) (47 ∷ [])

pub base_named : (text bytes : List ℕ) → IsText text → 1 < length text → bytes ≡ base_name (names text) → is_name bytes ≡ true
base_named text bytes is long e = ap is_name e ∙ (LastName-text text is long).name
