-- The laws of folds.
use Rattle.std.specs.Prelude.{not, ◌&&◌}
use Rattle.std.proofs.Common.{◌≡◌, ℕ, zero, suc, ◌+◌, ◌≤◌, true, List, ◌∷◌, length, map, ap, subst, arith}
use Rattle.std.specs.List.{flat_map}
use Rattle.std.specs.List.Sorted.{IsPermutation}
use Rattle.std.proofs.lemmas.List.{length-map}
use Rattle.std.proofs.lemmas.List.Sorted.{IsPermutation-sym, IsPermutation-trans, IsPermutation-cons, length_permutation}
use Rattle.gufi_base.specs.Paths.{Components}
use Rattle.gufi_base.proofs.Permutations.{empty_from_length}
use Rattle.gufi_access.specs.declared.class.Principal.{Principal}
use Rattle.gufi_tree.specs.Tree.{Directory, may_list, HasTreeShape}
use Rattle.gufi_tree.specs.Listed.{is_listed}
use Rattle.gufi_tree.proofs.Built.{Has}
use Rattle.gufi_tree.proofs.FoundStart.{found_place_of_start}
use Rattle.gufi_roll.specs.CanRoll.{is_under_fold}
use Rattle.gufi_snap.specs.Pieces.{front, kids}
use Rattle.gufi_walk.specs.Folds.{reached, FoldsHoldTheRows, KidsReachTheFront}
use Rattle.gufi_walk.proofs.Pieces.{front-step, kid_there, flat_map-moved, part_of_flat_map}
use Rattle.gufi_walk.proofs.Walked.{filtered_fewer, shown_at_top}

module _ (tree : List Directory) (limit : ℕ) (who : Principal) (shape : HasTreeShape tree) where
  -- as many steps as the front has further members reach all of it
  reached-front : (steps : ℕ) (d : Directory) → Has tree d → may_list who d ≡ true → length (front tree who d.path limit) ≤ steps + 1
      → IsPermutation (front tree who d.path limit) (reached tree who limit steps d.path)
  reached-front zero d there on few =
      let step = front-step tree limit who shape d there on in
      let none = empty_from_length (flat_map (λ path. front tree who path limit) (kids tree who d.path limit)) (omega (arith, few, length_permutation _ _ step)) in
      subst (λ l. IsPermutation (front tree who d.path limit) (d.path ∷ l)) none step
  reached-front (suc steps) d there on few =
      let step = front-step tree limit who shape d there on in
      let next : List Components = kids tree who d.path limit in
      IsPermutation-trans _ _ _ step (IsPermutation-cons _ _ _
      (flat_map-moved (λ path. front tree who path limit) (reached tree who limit steps) next (λ kid h.
      let w = kid_there tree limit who shape d.path kid h in
      let fewer : length (front tree who (w.0).path limit) ≤ steps + 1 =
      omega (arith, few, length_permutation _ _ step, part_of_flat_map (λ path. front tree who path limit) next kid h, ap (λ p. length (front tree who p limit)) w.3) in
      subst (λ p. IsPermutation (front tree who p limit) (reached tree who limit steps p)) w.3 (reached-front steps w.0 w.1 w.2 fewer))))

front-few : (tree : List Directory) (who : Principal) (start : Components) (limit : ℕ) → length (front tree who start limit) ≤ length tree
front-few tree who start limit =
    let paths : List Components = map (λ dir. dir.path) tree in
    let fewer = filtered_fewer (λ path. is_listed tree who start path && not (is_under_fold tree start limit path)) paths in
    omega (arith, length-map tree (λ (dir : Directory). dir.path))

pub folds_hold : FoldsHoldTheRows
folds_hold tree who start id limit shape found =
    let f = found_place_of_start tree who start id shape found in
    IsPermutation-sym _ _ (shown_at_top tree who shape limit start (record { dir = f.dir; there = f.there; on = f.on; path = f.at }))

pub kids_reach : KidsReachTheFront
kids_reach tree who start id limit steps shape found enough =
    let f = found_place_of_start tree who start id shape found in
    let P : Components → Type 0 = λ p. IsPermutation (reached tree who limit steps p) (front tree who p limit) in
    subst P f.at (IsPermutation-sym _ _ (reached-front tree limit who shape steps f.dir f.there f.on (omega (arith, enough, front-few tree who f.dir.path limit))))
