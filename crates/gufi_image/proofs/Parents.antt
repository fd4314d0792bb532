-- The places of parents, as they are read.
use Rattle.std.proofs.Common.{◌≡◌, ℕ, ◌<◌, true, List, [], ◌∷◌, ◌++◌, length, get_or, Some, sym, ap, subst, ◌∙◌, ◌⊎◌, inl, inr, arith, length-append}
use Rattle.std.specs.Prelude.{slice_get}
use Rattle.std.proofs.lemmas.Bool.{cases_eq}
use Rattle.std.proofs.lemmas.List.{get_or_append_left}
use Rattle.std.proofs.lemmas.Option.{slice_get_within, get_or_from_slice_get}
use Rattle.std.proofs.Math.Seq.{get_or-append_seam}
use Rattle.gufi_base.specs.Basics.{ascends}
use Rattle.gufi_base.specs.Paths.{Components, parent_path}
use Rattle.gufi_tree.specs.Tree.{Directory, dir_cmp}
use Rattle.gufi_tree.specs.Places.{path_at}
use Rattle.gufi_tree.specs.Kept.{HasParents}
use Rattle.gufi_tree.proofs.Built.{parent_path-child}
use Rattle.gufi_tree.proofs.Linked.{path_at-get}
use Rattle.gufi_tree.proofs.Searched.{place_of-at}
use Rattle.gufi_image.specs.Placed.{IsBelow, IsPlaced, IsAbove, LiesIn, AreParents}

-- the directory at a place is above the paths right below it
pub above_below : (dirs : List Directory) (number : ℕ) (parent : Directory) (path : Components) → slice_get dirs number ≡ Some parent → IsBelow parent path → IsAbove dirs number path
above_below dirs number parent path there below =
    let lt = slice_get_within dirs number parent there in (
      lt,
      path_at-get dirs number parent lt ∙ ap (λ (d : Directory). d.path) (get_or_from_slice_get dirs number parent parent there)
          ∙ sym (ap parent_path below.is ∙ parent_path-child parent.path below.name),
    )

path_at-front : (dirs : List Directory) (dir : Directory) (k : ℕ) → k < length dirs → path_at (dirs ++ dir ∷ []) k ≡ path_at dirs k
path_at-front dirs dir k lt =
    path_at-get (dirs ++ dir ∷ []) k dir (omega (arith, lt, length-append dirs (dir ∷ []))) ∙ ap (λ (d : Directory). d.path) (get_or_append_left dirs (dir ∷ []) dir k lt) ∙ sym (path_at-get dirs k dir lt)

path_at-last : (dirs : List Directory) (dir : Directory) → path_at (dirs ++ dir ∷ []) (length dirs) ≡ dir.path
path_at-last dirs dir =
    path_at-get (dirs ++ dir ∷ []) (length dirs) dir (omega (arith, length-append dirs (dir ∷ []))) ∙ ap (λ (d : Directory). d.path) (get_or-append_seam dirs dir [] dir)

-- what is above a path stays so behind one directory more
above_more : (dirs : List Directory) (dir : Directory) (number : ℕ) (path : Components) → IsAbove dirs number path → IsAbove (dirs ++ dir ∷ []) number path
above_more dirs dir number path h = (omega (arith, h.0, length-append dirs (dir ∷ [])), path_at-front dirs dir number h.0 ∙ h.1)

above_last : (dirs : List Directory) (dir : Directory) (number : ℕ) → IsPlaced dirs dir.path → LiesIn dirs dir.path number → IsAbove (dirs ++ dir ∷ []) number dir.path
above_last [] dir number placed lies = (omega (arith, lies), ap (path_at (dir ∷ [])) lies ∙ placed ∙ sym (ap parent_path placed))
above_last (d ∷ ds) dir number placed lies = above_more (d ∷ ds) dir number dir.path lies

parents_more : (dirs : List Directory) (numbers : List ℕ) (dir : Directory) (number : ℕ) → AreParents dirs numbers → IsPlaced dirs dir.path → LiesIn dirs dir.path number → AreParents (dirs ++ dir ∷ []) (numbers ++ number ∷ [])
parents_more dirs numbers dir number h placed lies = record {
  len = omega (arith, length-append dirs (dir ∷ []), length-append numbers (number ∷ []), h.len);
  each = λ k lt. by k lt (cases_eq k (length dirs));
} where
  by : (k : ℕ) → k < length (dirs ++ dir ∷ []) → (k ≡ length dirs) ⊎ (k ≡ length dirs → ⊥) → IsAbove (dirs ++ dir ∷ []) (get_or (numbers ++ number ∷ []) k 0) (path_at (dirs ++ dir ∷ []) k)
  by k within (inr other) =
      let lt : k < length dirs = omega (arith, within, length-append dirs (dir ∷ []), other) in
      let own : get_or (numbers ++ number ∷ []) k 0 ≡ get_or numbers k 0 = get_or_append_left numbers (number ∷ []) 0 k (omega (arith, lt, h.len)) in
      subst (λ n. IsAbove (dirs ++ dir ∷ []) n (path_at (dirs ++ dir ∷ []) k)) (sym own)
      (subst (λ p. IsAbove (dirs ++ dir ∷ []) (get_or numbers k 0) p) (sym (path_at-front dirs dir k lt)) (above_more dirs dir (get_or numbers k 0) (path_at dirs k) (h.each k lt)))
  by k within (inl is) =
      let own : get_or (numbers ++ number ∷ []) k 0 ≡ number = ap (λ j. get_or (numbers ++ number ∷ []) j 0) (is ∙ sym h.len) ∙ get_or-append_seam numbers number [] 0 in
      subst (λ n. IsAbove (dirs ++ dir ∷ []) n (path_at (dirs ++ dir ∷ []) k)) (sym own)
      (subst (λ p. IsAbove (dirs ++ dir ∷ []) number p) (sym (ap (path_at (dirs ++ dir ∷ [])) is ∙ path_at-last dirs dir)) (above_last dirs dir number placed lies))

-- one directory more
pub parents_push : (dirs pushed : List Directory) (numbers more : List ℕ) (dir : Directory) (number : ℕ) → pushed ≡ dirs ++ dir ∷ [] → more ≡ numbers ++ number ∷ []
    → AreParents dirs numbers → IsPlaced dirs dir.path → LiesIn dirs dir.path number → AreParents pushed more
parents_push dirs pushed numbers more dir number push grown h placed lies =
    subst (λ ns. AreParents pushed ns) (sym grown) (subst (λ (ds : List Directory). AreParents ds (numbers ++ number ∷ [])) (sym push) (parents_more dirs numbers dir number h placed lies))

-- these are the places of a tree's parents
pub parents_of_tree : (dirs : List Directory) (numbers : List ℕ) → ascends dir_cmp dirs ≡ true → AreParents dirs numbers → HasParents dirs numbers
parents_of_tree [] numbers up h = record { len = h.len; each = λ k lt. absurd (omega (arith, lt)) }
parents_of_tree (d ∷ ds) numbers up h = record {
  len = h.len;
  each = λ k lt.
      let above = h.each k lt in
      place_of-at (d ∷ ds) (parent_path (path_at (d ∷ ds) k)) (get_or numbers k 0) d up above.0 (sym (path_at-get (d ∷ ds) (get_or numbers k 0) d above.0) ∙ above.1);
}
