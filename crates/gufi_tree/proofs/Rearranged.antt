-- Directories whose entries are put in another order.
use Rattle.std.proofs.Common.{◌≡◌, ℕ, suc, ◌<◌, not, List, [], ◌∷◌, map, length, get_or, set, refl, sym, ap, ◌∙◌, arith, subst, ◌+◌, ◌⊎◌, inl, inr}
use Rattle.std.proofs.lemmas.Bool.{cases_eq}
use Rattle.std.proofs.lemmas.List.{get_or-set_same, get_or-set_other, get_or_default}
use Rattle.std.specs.List.{list_all}
use Rattle.std.specs.List.Sorted.{IsPermutation}
use Rattle.std.proofs.lemmas.List.Sorted.{IsPermutation-refl, IsPermutation-trans, IsPermutation-cons, IsPermutation-map, IsPermutation-append}
use Rattle.gufi_base.specs.Kinds.{is_dir}
use Rattle.gufi_base.specs.Paths.{Components}
use Rattle.gufi_tree.specs.declared.tree.Entry.{Entry}
use Rattle.gufi_tree.specs.declared.tree.Stored.{Stored}
use Rattle.gufi_tree.specs.Tree.{dir_row, entry_row, own_rows, is_kinded}
use Rattle.gufi_tree.specs.Stored.{directories_of}
use Rattle.gufi_tree.specs.Gathered.{rows_of, paths_of}
use Rattle.gufi_tree.proofs.Placed.{list_all-IsPermutation}

pub record IsRearranged (old new : Stored) : Type 0 where
  pub path : new.path ≡ old.path
  pub rec : new.rec ≡ old.rec
  pub entries : IsPermutation old.entries.items new.entries.items

own_rearranged : (old new : Stored) → IsRearranged old new
    → IsPermutation (own_rows (record { path = old.path; rec = old.rec; entries = old.entries.items })) (own_rows (record { path = new.path; rec = new.rec; entries = new.entries.items }))
own_rearranged old new h =
    rw (h.path, h.rec)
    (IsPermutation-cons (dir_row (record { path = old.path; rec = old.rec; entries = old.entries.items })) (map (entry_row old.path) old.entries.items) (map (entry_row old.path) new.entries.items)
    (IsPermutation-map (entry_row old.path) old.entries.items new.entries.items h.entries))

abbrev pub AreRearranged : List Stored → List Stored → Type 0
AreRearranged xs ys = (k : ℕ) (d : Stored) → k < length xs → IsRearranged (get_or xs k d) (get_or ys k d)

tail_rearranged : (x y : Stored) (xs ys : List Stored) → AreRearranged (x ∷ xs) (y ∷ ys) → AreRearranged xs ys
tail_rearranged x y xs ys h = λ k d lt. h (suc k) d (omega arith)

pub rows_rearranged : (xs ys : List Stored) → length ys ≡ length xs → AreRearranged xs ys → IsPermutation (rows_of xs) (rows_of ys)
rows_rearranged [] [] e h = IsPermutation-refl []
rows_rearranged [] (y ∷ ys) e h = absurd (omega (arith, e))
rows_rearranged (x ∷ xs) [] e h = absurd (omega (arith, e))
rows_rearranged (x ∷ xs) (y ∷ ys) e h =
    IsPermutation-append _ _ _ _ (own_rearranged x y (h 0 x (omega arith))) (rows_rearranged xs ys (omega (arith, e)) (tail_rearranged x y xs ys h))

pub kinds_rearranged : (xs ys : List Stored) → length ys ≡ length xs → AreRearranged xs ys → list_all is_kinded (directories_of ys) ≡ list_all is_kinded (directories_of xs)
kinds_rearranged [] [] e h = refl
kinds_rearranged [] (y ∷ ys) e h = absurd (omega (arith, e))
kinds_rearranged (x ∷ xs) [] e h = absurd (omega (arith, e))
kinds_rearranged (x ∷ xs) (y ∷ ys) e h =
    let first = h 0 x (omega arith) in
    rw (first.rec, sym (list_all-IsPermutation (λ (v : Entry). not (is_dir v.rec.meta.kind)) x.entries.items y.entries.items first.entries), kinds_rearranged xs ys (omega (arith, e)) (tail_rearranged x y xs ys h)) refl

pub paths_rearranged : (xs ys : List Stored) → length ys ≡ length xs → AreRearranged xs ys → paths_of ys ≡ paths_of xs
paths_rearranged [] [] e h = refl
paths_rearranged [] (y ∷ ys) e h = absurd (omega (arith, e))
paths_rearranged (x ∷ xs) [] e h = absurd (omega (arith, e))
paths_rearranged (x ∷ xs) (y ∷ ys) e h =
    ap (λ (p : Components). p ∷ paths_of ys) (h 0 x (omega arith)).path ∙ ap (λ (ps : List Components). x.path ∷ ps) (paths_rearranged xs ys (omega (arith, e)) (tail_rearranged x y xs ys h))

IsRearranged-trans : (a b c : Stored) → IsRearranged a b → IsRearranged b c → IsRearranged a c
IsRearranged-trans a b c h k =
    record { path = k.path ∙ h.path; rec = k.rec ∙ h.rec; entries = IsPermutation-trans a.entries.items b.entries.items c.entries.items h.entries k.entries }

-- a loop's step: the directory at i
pub rearranged_set : (xs ys : List Stored) (i : ℕ) (old new : Stored) → length ys ≡ length xs → i < length ys → old ≡ get_or ys i old → IsRearranged old new → AreRearranged xs ys → AreRearranged xs (set ys i new)
rearranged_set xs ys i old new e lt is one h = λ k d within. by k d within (cases_eq k i) where
  by : (k : ℕ) (d : Stored) → k < length xs → (k ≡ i) ⊎ (k ≡ i → ⊥) → IsRearranged (get_or xs k d) (get_or (set ys i new) k d)
  by k d within (inl same) =
      let there : get_or (set ys i new) k d ≡ new = ap (λ n. get_or (set ys i new) n d) same ∙ get_or-set_same ys i new d lt in
      let was : get_or ys k d ≡ old = ap (λ n. get_or ys n d) same ∙ get_or_default ys i d old lt ∙ sym is in
      let P : Stored → Type 0 = λ s. IsRearranged (get_or xs k d) s in
      let first : P old = subst P was (h k d within) in
      subst P (sym there) (IsRearranged-trans (get_or xs k d) old new first one)
  by k d within (inr other) =
      let P : Stored → Type 0 = λ s. IsRearranged (get_or xs k d) s in
      subst P (sym (get_or-set_other ys i k new d other)) (h k d within)

pub holds_set : (P : Stored → Type 0) (ys : List Stored) (i : ℕ) (new : Stored) → i < length ys → ((k : ℕ) (d : Stored) → k < i → P (get_or ys k d)) → P new → (k : ℕ) (d : Stored) → k < i + 1 → P (get_or (set ys i new) k d)
holds_set P ys i new lt h one k d within = by (cases_eq k i) where
  by : (k ≡ i) ⊎ (k ≡ i → ⊥) → P (get_or (set ys i new) k d)
  by (inl same) =
      let there : get_or (set ys i new) k d ≡ new = ap (λ n. get_or (set ys i new) n d) same ∙ get_or-set_same ys i new d lt in
      subst P (sym there) one
  by (inr other) = subst P (sym (get_or-set_other ys i k new d other)) (h k d (omega arith))
