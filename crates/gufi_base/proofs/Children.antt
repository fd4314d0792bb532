-- Paths below a root, from bytes that go on behind its text.
use Rattle.std.proofs.Common.{◌≡◌, ℕ, ◌-◌, ◌≤◌, true, false, List, [], ◌∷◌, ◌++◌, length, take, Ok, inr, refl, sym, ap, ◌∙◌, arith, append_assoc}
use Rattle.std.specs.Prelude.{not, bytes_eq}
use Rattle.std.specs.List.{list_all}
use Rattle.std.proofs.lemmas.Bool.{and_parts, and_from, false≢true}
use Rattle.std.proofs.lemmas.List.{length-append}
use Rattle.std.proofs.lemmas.List.Folds.{list_all-append}
use Rattle.std.proofs.lemmas.Grind.{flat_map-append}
use Rattle.std.proofs.lemmas.Slice.Eq.{bytes_eq-Decides, slice_eq-Decides}
use Rattle.std.proofs.Math.Seq.{take-append_seam}
use Rattle.gufi_base.specs.Basics.{split, is_empty}
use Rattle.gufi_base.specs.Names.{is_name}
use Rattle.gufi_base.specs.Paths.{Components, kept_parts, slashed_text, read_path, parent_path, path_eq, is_child_of}
use Rattle.gufi_base.specs.PathTexts.{closed_names, kept_text, names, IsText}
use Rattle.gufi_base.proofs.Parts.{all_but_last_push, closed_by, has_no, split_first, split_one, closed_cons}
use Rattle.gufi_base.proofs.Names.{no_slashes, name_has_no, IsText-kept_text, names-kept_text}
use Rattle.gufi_base.proofs.Texts.{slashed_text-closed, kept_text_push}
use Rattle.gufi_base.proofs.PlainTexts.{read_path-plain}

pub no_front : (text front start : List ℕ) → start ≡ take (length front) text → bytes_eq start front ≡ false → (rest : List ℕ) → text ≡ front ++ rest → ⊥
no_front text front start e other rest is =
    let same : start ≡ front = e ∙ ap (take (length front)) is ∙ take-append_seam front rest in
    false≢true (sym other ∙ (bytes_eq-Decides start front).1 same)

split_behind_closed : (s : ℕ) (parts : List (List ℕ)) (rest : List ℕ) → list_all (has_no s) parts ≡ true → split s (closed_by s parts ++ rest) ≡ parts ++ split s rest
split_behind_closed s [] rest each = refl
split_behind_closed s (part ∷ parts) rest each =
    let both = and_parts _ _ each in
    ap (split s) (closed_cons s part parts rest) ∙ split_first s part (closed_by s parts ++ rest) both.0 ∙ ap (λ (ps : List (List ℕ)). part ∷ ps) (split_behind_closed s parts rest both.1)

pub all_named : (front rest : Components) → list_all is_name front ≡ true → list_all is_name rest ≡ true → list_all is_name (front ++ rest) ≡ true
all_named front rest h k = list_all-append is_name front rest ∙ and_from _ _ h k

-- what bytes spell that are a path's kept text and names with single slashes between them
behind_names : (path : Components) (bytes rest : List ℕ) → list_all is_name path ≡ true → list_all is_name (split 47 rest) ≡ true → bytes ≡ kept_text path ++ rest → length bytes ≤ 4096 → length (kept_parts bytes) ≤ 256 → read_path bytes ≡ Ok (path ++ split 47 rest)
behind_names path bytes rest h k e short few =
    let is : split 47 (closed_names path ++ rest) ≡ path ++ split 47 rest = split_behind_closed 47 path rest (no_slashes path h) in
    read_path-plain (closed_names path ++ rest) bytes (inr e) short few (ap (list_all is_name) is ∙ all_named path (split 47 rest) h k) ∙ ap (λ (p : Components). Ok p) is

pub read_behind : (root bytes rest : List ℕ) → IsText root → list_all is_name (split 47 rest) ≡ true → bytes ≡ root ++ rest → length bytes ≤ 4096 → length (kept_parts bytes) ≤ 256 → read_path bytes ≡ Ok (names root ++ split 47 rest)
read_behind root bytes rest is h e short few = behind_names (names root) bytes rest is.each h (e ∙ ap (λ (t : List ℕ). t ++ rest) (sym is.whole)) short few

kept_text_append : (front path : Components) → slashed_text front ++ kept_text path ≡ kept_text (front ++ path)
kept_text_append front path =
    sym (append_assoc (slashed_text front) (47 ∷ []) (closed_names path)) ∙ ap (λ (t : List ℕ). t ++ closed_names path) (slashed_text-closed front)
    ∙ ap (λ (t : List ℕ). 47 ∷ t) (sym (flat_map-append (λ part. part ++ 47 ∷ []) front path))

-- a kept text without its last slash
without_slash : (root : List ℕ) → IsText root → take (length root - 1) root ≡ slashed_text (names root)
without_slash root is =
    let front = slashed_text (names root) in
    let whole : root ≡ front ++ 47 ∷ [] = sym is.whole ∙ sym (slashed_text-closed (names root)) in
    let n : length root - 1 ≡ length front = omega (arith, ap length whole, length-append front (47 ∷ [])) in
    ap (λ k. take k root) n ∙ ap (take (length front)) whole ∙ take-append_seam front (47 ∷ [])

pub read_child : (root parent bytes front below name : List ℕ) → IsText root → IsText parent → front ≡ take (length root - 1) root → bytes ≡ front ++ below → below ≡ parent ++ name → is_name name ≡ true → length bytes ≤ 4096 → length (kept_parts bytes) ≤ 256
    → read_path bytes ≡ Ok (names root ++ (names parent ++ name ∷ []))
read_child root parent bytes front below name is p f e b h short few =
    let path = names root ++ names parent in
    let whole : bytes ≡ kept_text path ++ name =
    e ∙ ap (λ (t : List ℕ). t ++ below) (f ∙ without_slash root is) ∙ ap (λ (t : List ℕ). slashed_text (names root) ++ t) (b ∙ ap (λ (t : List ℕ). t ++ name) (sym p.whole))
    ∙ sym (append_assoc (slashed_text (names root)) (kept_text (names parent)) name) ∙ ap (λ (t : List ℕ). t ++ name) (kept_text_append (names root) (names parent)) in
    let one : split 47 name ≡ name ∷ [] = split_one 47 name (name_has_no name h) in
    behind_names path bytes name (all_named (names root) (names parent) is.each p.each) (ap (list_all is_name) one ∙ and_from _ _ h refl) whole short few
    ∙ ap (λ (p : Components). Ok p) (ap (λ (ps : Components). path ++ ps) one ∙ append_assoc (names root) (names parent) (name ∷ []))

-- the text of a path followed by a name
child_is : (parent name text : List ℕ) → IsText parent → text ≡ parent ++ (name ++ 47 ∷ []) → text ≡ kept_text (names parent ++ name ∷ [])
child_is parent name text p e = e ∙ ap (λ (t : List ℕ). t ++ (name ++ 47 ∷ [])) (sym p.whole) ∙ sym (kept_text_push (names parent) name)

child_named : (parent name : List ℕ) → IsText parent → is_name name ≡ true → list_all is_name (names parent ++ name ∷ []) ≡ true
child_named parent name p h = all_named (names parent) (name ∷ []) p.each (and_from _ _ h refl)

pub IsText-child : (parent name text : List ℕ) → IsText parent → is_name name ≡ true → text ≡ parent ++ (name ++ 47 ∷ []) → IsText text
IsText-child parent name text p h e = rw (child_is parent name text p e) (IsText-kept_text _ (child_named parent name p h))

pub names-child : (parent name text : List ℕ) → IsText parent → is_name name ≡ true → text ≡ parent ++ (name ++ 47 ∷ []) → names text ≡ names parent ++ name ∷ []
names-child parent name text p h e = ap names (child_is parent name text p e) ∙ names-kept_text _ (child_named parent name p h)

-- it is the parent's child
pub child_of : (parent : Components) (name : List ℕ) → is_child_of parent (parent ++ name ∷ []) ≡ true
child_of parent name =
    and_from _ _ (some parent) ((slice_eq-Decides bytes_eq-Decides parent (parent_path (parent ++ name ∷ [])) (path_eq parent (parent_path (parent ++ name ∷ []))) refl).1 (sym (all_but_last_push parent name)))
  where
    some : (path : Components) → not (is_empty (path ++ name ∷ [])) ≡ true
    some [] = refl
    some (x ∷ path) = refl
