-- Under limit 0 nothing is rolled up, since each directory has a row of its own.
use Rattle.std.proofs.Common.{◌≡◌, ℕ, ◌≤◌, inl, inr, Bool, true, false, not, ◌&&◌, ◌||◌, List, [], ◌∷◌, length, map, replicate, refl, sym, ap, ◌∙◌, arith, length-append}
use Rattle.std.specs.Prelude.{nat_le}
use Rattle.std.specs.List.{flat_map, list_all}
use Rattle.std.proofs.lemmas.Bool.Decides.{nat_tests}
use Rattle.std.proofs.lemmas.List.Sorted.{length_permutation}
use Rattle.gufi_base.specs.Paths.{is_proper_prefix}
use Rattle.gufi_base.proofs.Permutations.{IsPermutation-flat_map}
use Rattle.gufi_tree.specs.Tree.{Directory, own_rows, subdirs, HasTreeShape}
use Rattle.gufi_tree.proofs.Built.{Has}
use Rattle.gufi_tree.proofs.Below.{below_dirs, below_dirs-step}
use Rattle.gufi_roll.specs.CanRoll.{rows_below, is_covered, can_roll, roll_flags}
use Rattle.gufi_roll.proofs.Laws.{rows_below-under}

and_false : (b : Bool) → (b && false) ≡ false
and_false true = refl
and_false false = refl

map-same : {X : Type 0} (f : X → Bool) (xs : List X) → ((x : X) → Has xs x → f x ≡ false) → replicate (length xs) false ≡ map f xs
map-same f [] h = refl
map-same f (x ∷ xs) h = ap (λ l. false ∷ l) (map-same f xs (λ y k. h y (inr k))) ∙ ap (λ b. b ∷ map f xs) (sym (h x (inl refl)))

module _ (tree : List Directory) (shape : HasTreeShape tree) where
  some_below : (d : Directory) → Has tree d → 1 ≤ rows_below tree d.path
  some_below d there =
      let moved = length_permutation _ _ (IsPermutation-flat_map own_rows _ _ (below_dirs-step tree shape d there)) in
      let parts = length-append (own_rows d) (flat_map own_rows (flat_map (λ k. below_dirs tree k.path) (subdirs tree d.path))) in
      omega (arith, rows_below-under tree shape d.path)

  not_rolled : (d : Directory) → Has tree d → can_roll tree 0 d.path ≡ false
  not_rolled d there =
      ap (λ b. list_all (λ dir. not (is_proper_prefix d.path dir.path) || is_covered tree dir) tree && b) (over (rows_below tree d.path) (some_below d there))
      ∙ and_false (list_all (λ dir. not (is_proper_prefix d.path dir.path) || is_covered tree dir) tree) where
        over : (n : ℕ) → 1 ≤ n → nat_le n 0 ≡ false
        over n h = grind (arith, nat_tests)

  pub nothing_rolled : replicate (length tree) false ≡ roll_flags tree 0
  nothing_rolled = map-same (λ dir. can_roll tree 0 dir.path) tree not_rolled
