-- Directories put below a path, one after the other.
use Rattle.std.proofs.Common.{◌≡◌, ◌∙◌, ℕ, ◌+◌, ◌≤◌, ◌<◌, true, List, [], ◌∷◌, ◌++◌, length, take, drop, map, flat_map, get_or, sym, ap, arith}
use Rattle.std.proofs.Math.Seq.{take-append_seam, drop-append_seam}
use Rattle.std.proofs.lemmas.Bool.{and_from}
use Rattle.std.proofs.lemmas.List.{append_assoc, length-append, length-take-le, map-append, take-append-le, take_more}
use Rattle.std.proofs.lemmas.List.Folds.{list_all-append}
use Rattle.std.specs.List.{list_all}
use Rattle.gufi_base.specs.Names.{is_name}
use Rattle.gufi_base.specs.Paths.{Components}
use Rattle.gufi_tree.specs.declared.tree.Entry.{Entry}
use Rattle.gufi_tree.specs.Packs.{Placed, entries_of}
use Rattle.gufi_tree.specs.Tree.{Directory, own_rows}
use Rattle.gufi_tree.specs.Graft.{put_below}

pub joined_names : (p q : Components) → list_all is_name p ≡ true → list_all is_name q ≡ true → list_all is_name (p ++ q) ≡ true
joined_names p q h k = list_all-append is_name p q ∙ and_from _ _ h k

-- one element more
module _ {X : Type 0} where
  one_more : (done : List X) (xs : List X) (k : ℕ) (x : X) → k < length xs → x ≡ get_or xs k x → (done ++ take k xs) ++ x ∷ [] ≡ done ++ take (k + 1) xs
  one_more done xs k x lt is = append_assoc done (take k xs) (x ∷ []) ∙ ap (λ (ys : List X). done ++ ys) (ap (λ (y : X). take k xs ++ y ∷ []) is ∙ sym (take_more xs k x lt))

pub next_entry : (before now after : List Placed) (es : List Entry) (k : ℕ) (e : Entry) (place : ℕ) → k < length es → e ≡ get_or es k e → entries_of now ≡ entries_of before ++ take k es
    → after ≡ now ++ record { entry = e; place = place } ∷ [] → entries_of after ≡ entries_of before ++ take (k + 1) es
next_entry before now after es k e place lt is so_far push =
    ap entries_of push ∙ map-append (λ (p : Placed). p.entry) now (record { entry = e; place = place } ∷ [])
    ∙ ap (λ (done : List Entry). done ++ e ∷ []) so_far ∙ one_more (entries_of before) es k e lt is

pub next_below : (p : Components) (before now after part : List Directory) (k : ℕ) (d : Directory) → k < length part → d ≡ get_or part k d → now ≡ before ++ map (put_below p) (take k part)
    → after ≡ now ++ put_below p d ∷ [] → after ≡ before ++ map (put_below p) (take (k + 1) part)
next_below p before now after part k d lt is so_far push =
    push ∙ ap (λ (done : List Directory). done ++ put_below p d ∷ []) so_far
    ∙ append_assoc before (map (put_below p) (take k part)) (put_below p d ∷ [])
    ∙ ap (λ (ds : List Directory). before ++ ds) (sym (map-append (put_below p) (take k part) (d ∷ [])) ∙ ap (map (put_below p)) (ap (λ (e : Directory). take k part ++ e ∷ []) is ∙ sym (take_more part k d lt)))

-- what was pushed behind is put in its place
pub put_back : (ds more : List Directory) (at end : ℕ) → at ≤ length ds
    → take at (ds ++ more) ++ (drop (length ds) (ds ++ more) ++ drop end (take (length ds) (ds ++ more))) ≡ take at ds ++ (more ++ drop end ds)
put_back ds more at end within =
    ap (λ (xs : List Directory). xs ++ (drop (length ds) (ds ++ more) ++ drop end (take (length ds) (ds ++ more)))) (take-append-le at ds more within)
    ∙ ap (λ (xs : List Directory). take at ds ++ (xs ++ drop end (take (length ds) (ds ++ more)))) (drop-append_seam ds more)
    ∙ ap (λ (xs : List Directory). take at ds ++ (more ++ drop end xs)) (take-append_seam ds more)

-- the same, where what it replaces was left out before
pub put_between : (ds more : List Directory) (at end : ℕ) → at ≤ length ds → let rest = take at ds ++ drop end ds in
    take at (rest ++ more) ++ (drop (length rest) (rest ++ more) ++ drop at (take (length rest) (rest ++ more))) ≡ take at ds ++ (more ++ drop end ds)
put_between ds more at end within =
    let rest = take at ds ++ drop end ds in
    let size : length (take at ds) ≡ at = length-take-le at ds within in
    let both = length-append (take at ds) (drop end ds) in
    put_back rest more at at (omega arith)
    ∙ ap (λ (xs : List Directory). xs ++ (more ++ drop at rest)) (ap (λ (n : ℕ). take n rest) (sym size) ∙ take-append_seam (take at ds) (drop end ds))
    ∙ ap (λ (xs : List Directory). take at ds ++ (more ++ xs)) (ap (λ (n : ℕ). drop n rest) (sym size) ∙ drop-append_seam (take at ds) (drop end ds))

-- a directory has a row at least
pub no_more_dirs : (ds : List Directory) → length ds ≤ length (flat_map own_rows ds)
no_more_dirs [] = omega arith
no_more_dirs (d ∷ ds) =
    let rest = no_more_dirs ds in
    let both = length-append (own_rows d) (flat_map own_rows ds) in
    omega arith
