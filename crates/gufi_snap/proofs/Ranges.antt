-- A sum of the rows at and below a path counts the directories there, which are at least as deep.
use Rattle.std.proofs.Common.{◌≡◌, ◌+◌, ◌≤◌, Bool, true, false, not, cond, List, [], ◌∷◌, length, map, refl, ap, ◌∙◌, arith, length-append}
use Rattle.std.specs.Prelude.{All}
use Rattle.std.specs.List.{filter, flat_map, list_all}
use Rattle.std.proofs.lemmas.Bool.{false≢true, and_parts, and_from}
use Rattle.std.proofs.lemmas.List.Elements.{All-nil, All-cons}
use Rattle.gufi_base.specs.Kinds.{is_dir}
use Rattle.gufi_base.specs.Paths.{Components, is_prefix}
use Rattle.gufi_tree.specs.declared.tree.Entry.{Entry}
use Rattle.gufi_tree.specs.Tree.{Directory, dir_row, own_rows, entry_row, is_kinded, subtree_rows, HasTreeShape}
use Rattle.gufi_tree.proofs.Below.{below_dirs}
use Rattle.gufi_tree.proofs.Flat.{is_prefix-rest}
use Rattle.gufi_tree.proofs.Kids.{subtree_rows-under}
use Rattle.gufi_sums.specs.declared.summary.Summary.{Summary}
use Rattle.gufi_sums.specs.Total.{total, IsTotal}
use Rattle.gufi_sums.specs.Laws.{total-append, total-IsPermutation}

-- ---- how many they are

entries_none : (path : Components) (es : List Entry) → list_all (λ (e : Entry). not (is_dir e.rec.meta.kind)) es ≡ true → (total (map (entry_row path) es)).dirs ≡ 0
unfolding total
entries_none path [] h = refl
entries_none path (e ∷ es) h =
    let both = and_parts _ _ h in
    let joined : (total (map (entry_row path) (e ∷ es))).dirs ≡ 0 + cond (is_dir e.rec.meta.kind) 1 0 + (total (map (entry_row path) es)).dirs =
    ap (λ (s : Summary). s.dirs) (total-append (entry_row path e ∷ []) (map (entry_row path) es)) in
    joined ∙ by (is_dir e.rec.meta.kind) both.0 (entries_none path es both.1) where
      by : (b : Bool) → not b ≡ true → (total (map (entry_row path) es)).dirs ≡ 0 → 0 + cond b 1 0 + (total (map (entry_row path) es)).dirs ≡ 0
      by true n h = absurd (false≢true n)
      by false n h = omega arith

-- a directory's own rows have one directory, itself
pub own_one : (d : Directory) → is_kinded d ≡ true → (total (own_rows d)).dirs ≡ 1
unfolding total
own_one d h =
    let both = and_parts _ _ h in
    let joined : (total (own_rows d)).dirs ≡ 0 + cond (is_dir d.rec.meta.kind) 1 0 + (total (map (entry_row d.path) d.entries)).dirs =
    ap (λ (s : Summary). s.dirs) (total-append (dir_row d ∷ []) (map (entry_row d.path) d.entries)) in
    joined ∙ by (is_dir d.rec.meta.kind) both.0 (entries_none d.path d.entries both.1) where
      by : (b : Bool) → b ≡ true → (total (map (entry_row d.path) d.entries)).dirs ≡ 0 → 0 + cond b 1 0 + (total (map (entry_row d.path) d.entries)).dirs ≡ 1
      by true n h = omega arith
      by false n h = absurd (false≢true n)

counted : (ds : List Directory) → list_all is_kinded ds ≡ true → (total (flat_map own_rows ds)).dirs ≡ length ds
unfolding total
counted [] h = refl
counted (d ∷ ds) h =
    let both = and_parts _ _ h in
    let joined = ap (λ (s : Summary). s.dirs) (total-append (own_rows d) (flat_map own_rows ds)) in
    let one = own_one d both.0 in
    let rest = counted ds both.1 in
    omega arith

kinded_kept : (p : Directory → Bool) (ds : List Directory) → list_all is_kinded ds ≡ true → list_all is_kinded (filter p ds) ≡ true
kinded_kept p [] h = refl
kinded_kept p (d ∷ ds) h = let both = and_parts _ _ h in by (p d) both.0 (kinded_kept p ds both.1) where
  by : (b : Bool) → is_kinded d ≡ true → list_all is_kinded (filter p ds) ≡ true → list_all is_kinded (cond b (d ∷ filter p ds) (filter p ds)) ≡ true
  by true e h = and_from _ _ e h
  by false e h = h

-- the sum of what is at and below a path says how many directories there are
pub total_counted : (tree : List Directory) (path : Components) → HasTreeShape tree → (total (subtree_rows tree path)).dirs ≡ length (below_dirs tree path)
total_counted tree path shape =
    ap (λ (s : Summary). s.dirs) (total-IsPermutation _ _ (subtree_rows-under tree shape path)) ∙ counted (below_dirs tree path) (kinded_kept (λ dir. is_prefix path dir.path) tree shape.kinds)

pub dirs_counted : (tree : List Directory) (path : Components) (sum : Summary) → HasTreeShape tree → IsTotal sum (subtree_rows tree path) → sum.dirs ≡ length (below_dirs tree path)
dirs_counted tree path sum shape is = ap (λ (s : Summary). s.dirs) is.is ∙ total_counted tree path shape

-- what lies below a path is at least as deep
pub below_deep : (path : Components) (ds : List Directory) → All (λ (dir : Directory). length path ≤ length dir.path) (below_dirs ds path)
below_deep path [] = All-nil _
below_deep path (d ∷ ds) = by (is_prefix path d.path) refl (below_deep path ds) where
  by : (b : Bool) → is_prefix path d.path ≡ b → All (λ (dir : Directory). length path ≤ length dir.path) (below_dirs ds path) → All (λ (dir : Directory). length path ≤ length dir.path) (cond b (d ∷ below_dirs ds path) (below_dirs ds path))
  by true e h =
      let w = is_prefix-rest path d.path e in
      let deep : length path ≤ length d.path = omega (arith, ap length w.1, length-append path w.0) in
      All-cons (λ (dir : Directory). length path ≤ length dir.path) d (below_dirs ds path) deep h
  by false e h = h
