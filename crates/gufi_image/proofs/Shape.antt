-- Directories read one after the other have a tree's shape.
use Rattle.std.proofs.Common.{◌≡◌, ℕ, ◌+◌, ◌<◌, ◌≤◌, Bool, true, false, not, ◌||◌, List, [], ◌∷◌, ◌++◌, length, get_or, Some, refl, sym, ap, subst, ◌∙◌, arith, length-append}
use Rattle.std.specs.Prelude.{bytes_eq, slice_get}
use Rattle.std.specs.declared.cmp.Ordering.TheVariants.{Less, Equal, Greater}
use Rattle.std.specs.List.{list_all, flat_map}
use Rattle.std.proofs.lemmas.Bool.{and_from}
use Rattle.std.proofs.lemmas.Cmp.{tied_itself}
use Rattle.std.proofs.lemmas.List.Folds.{Any-from_list_any}
use Rattle.std.proofs.Math.Seq.{get_or-append_seam}
use Rattle.std.proofs.lemmas.List.Sums.{sum_by-append, sum_by-cons}
use Rattle.std.proofs.lemmas.List.{get_or_append_left, length-map}
use Rattle.std.proofs.lemmas.Slice.Eq.{bytes_eq-Decides}
use Rattle.gufi_base.specs.Basics.{is_empty, ascends}
use Rattle.gufi_base.specs.Kinds.{is_dir}
use Rattle.gufi_base.specs.Paths.{Components, path_cmp, path_eq, parent_path, base_name}
use Rattle.gufi_tree.specs.declared.tree.Entry.{Entry}
use Rattle.gufi_tree.specs.Tree.{Directory, dir_cmp, entry_cmp, entry_count, entry_row, own_rows, has_dir, has_entry_named, is_at, is_kinded, HasTreeShape}
use Rattle.gufi_tree.proofs.Built.{path_cmp-total, dir_cmp-total, path_eq-Decides, parent_path-child, base_name-child}
use Rattle.gufi_image.specs.Placed.{IsPlaced, IsNext, IsFront, AreDirectories, IsWholeTree}
use Rattle.gufi_image.proofs.Searches.{in_order, false_from}
use Rattle.gufi_image.proofs.Fronts.{push_up, all_push, all_weaken, any_there, path_more, has_more, has_neither, not_true, one_path}

placed_parent : (dirs : List Directory) (dir : Directory) → IsPlaced dirs dir.path → has_dir (dirs ++ dir ∷ []) (parent_path dir.path) ≡ true
placed_parent [] dir placed =
    let own : path_eq (parent_path dir.path) dir.path ≡ true = (path_eq-Decides (parent_path dir.path) dir.path).1 (ap parent_path placed ∙ sym placed) in
    ap (λ b. b || false) own
placed_parent (d ∷ ds) dir placed =
    let p = placed.parent in
    let same : parent_path dir.path ≡ p.path = ap parent_path placed.below.is ∙ parent_path-child p.path placed.below.name in
    has_more (d ∷ ds) dir (parent_path dir.path) (any_there (is_at (parent_path dir.path)) (d ∷ ds) placed.number p placed.there ((path_eq-Decides (parent_path dir.path) p.path).1 same))

pub placed_order : (dirs : List Directory) (dir : Directory) → ascends dir_cmp dirs ≡ true → IsPlaced dirs dir.path → ascends dir_cmp (dirs ++ dir ∷ []) ≡ true
placed_order [] dir up placed = refl
placed_order (d ∷ ds) dir up placed = push_up dir_cmp d ds dir up placed.above

-- an entry before has another path
entry_apart : (dirs : List Directory) (dir : Directory) → ascends dir_cmp dirs ≡ true → IsPlaced dirs dir.path → (i : ℕ) (old : Directory) → slice_get dirs i ≡ Some old
    → (j : ℕ) (entry : Entry) → slice_get old.entries j ≡ Some entry → path_eq (old.path ++ entry.name ∷ []) dir.path ≡ false
entry_apart [] dir up placed i old there j entry within = absurd cc
entry_apart (d ∷ ds) dir up placed i old there j entry within = false_from (path_eq (old.path ++ entry.name ∷ []) dir.path) (λ e.
    let p = placed.parent in
    let below = placed.below in
    let same : old.path ++ entry.name ∷ [] ≡ p.path ++ below.name ∷ [] = (path_eq-Decides (old.path ++ entry.name ∷ []) dir.path).0 e ∙ below.is in
    let paths : old.path ≡ p.path = sym (parent_path-child old.path entry.name) ∙ ap parent_path same ∙ parent_path-child p.path below.name in
    let names : entry.name ≡ below.name = sym (base_name-child old.path entry.name) ∙ ap base_name same ∙ base_name-child p.path below.name in
    let one : old ≡ p = one_path (d ∷ ds) i placed.number old p up there placed.there paths in
    let own : slice_get p.entries j ≡ Some entry = ap (λ (v : Directory). slice_get v.entries j) (sym one) ∙ within in
    let taken : has_entry_named below.name p ≡ true = any_there (λ (x : Entry). bytes_eq below.name x.name) p.entries j entry own ((bytes_eq-Decides below.name entry.name).1 (sym names)) in
    let clash : true ≡ false = sym taken ∙ below.free in
    absurd cc)

-- no directory up to this one lies below it
none_below : (dirs : List Directory) (dir : Directory) (name : List ℕ) → ascends dir_cmp (dirs ++ dir ∷ []) ≡ true → has_dir (dirs ++ dir ∷ []) (dir.path ++ name ∷ []) ≡ false
none_below dirs dir name up = has_neither dirs dir path (false_from (has_dir dirs path) before) (false_from (path_eq path dir.path) own) where
  path : Components
  path = dir.path ++ name ∷ []

  own : path_eq path dir.path ≡ true → ⊥
  own e =
      let same : path ≡ dir.path = (path_eq-Decides path dir.path).0 e in
      let clash : Greater ≡ Equal = sym (path_more dir.path name) ∙ ap (λ (p : Components). path_cmp p dir.path) same ∙ tied_itself path_cmp-total dir.path in
      absurd cc

  before : has_dir dirs path ≡ true → ⊥
  before e =
      let w = Any-from_list_any (is_at path) dirs e in
      let x = w.1 in
      let all = dirs ++ dir ∷ [] in
      let len : length all ≡ length dirs + 1 = length-append dirs (dir ∷ []) in
      let less : path_cmp (get_or all w.0 x).path (get_or all (length dirs) x).path ≡ Less = in_order dir_cmp dir_cmp-total all up w.0 (length dirs) x w.2 (omega (arith, len)) in
      let there : get_or all w.0 x ≡ x = get_or_append_left dirs (dir ∷ []) x w.0 w.2 ∙ w.3 in
      let last : get_or all (length dirs) x ≡ dir = get_or-append_seam dirs dir [] x in
      let same : path ≡ x.path = (path_eq-Decides path x.path).0 w.4 in
      let lower : path_cmp path dir.path ≡ Less =
      ap (λ (p : Components). path_cmp p dir.path) same
      ∙ sym (ap (λ (v : Directory). path_cmp v.path dir.path) there)
      ∙ sym (ap (λ (v : Directory). path_cmp (get_or all w.0 x).path v.path) last)
      ∙ less
      in
      let clash : Greater ≡ Less = sym (path_more dir.path name) ∙ lower in
      absurd cc

all_each : {X : Type 0} (q : X → Bool) (xs : List X) → ((x : X) → q x ≡ true) → list_all q xs ≡ true
all_each q [] h = refl
all_each q (x ∷ xs) h = and_from (q x) (list_all q xs) (h x) (all_each q xs h)

-- no entry of the directory has the path of a directory
abbrev apart_in : List Directory → Directory → Bool
apart_in dirs dir = list_all (λ (entry : Entry). not (has_dir dirs (dir.path ++ entry.name ∷ []))) dir.entries

placed_root : (dirs : List Directory) (dir : Directory) → (is_empty dirs || has_dir dirs []) ≡ true → IsPlaced dirs dir.path → (is_empty (dirs ++ dir ∷ []) || has_dir (dirs ++ dir ∷ []) []) ≡ true
placed_root [] dir h placed = ap (λ b. b || false) ((path_eq-Decides [] dir.path).1 (sym placed))
placed_root (d ∷ ds) dir h placed = has_more (d ∷ ds) dir [] h

pub front_push : (total : ℕ) (dirs : List Directory) (dir : Directory) → IsFront dirs → IsNext total dirs dir → IsFront (dirs ++ dir ∷ [])
front_push total dirs dir h n = record {
  order = up;
  parents = all_push (λ (d : Directory). has_dir more (parent_path d.path)) dirs dir
      (all_weaken (λ (d : Directory). has_dir dirs (parent_path d.path)) (λ (d : Directory). has_dir more (parent_path d.path)) dirs (λ i x e q. has_more dirs dir (parent_path x.path) q) h.parents)
      (placed_parent dirs dir n.placed);
  entries = all_push (λ (d : Directory). ascends entry_cmp d.entries) dirs dir h.entries n.entries.order;
  kinds = all_push is_kinded dirs dir h.kinds (and_from (is_dir dir.rec.meta.kind) (list_all (λ (e : Entry). not (is_dir e.rec.meta.kind)) dir.entries) n.kind n.entries.kinds);
  apart = all_push (apart_in more) dirs dir (all_weaken (apart_in dirs) (apart_in more) dirs old_apart h.apart) (all_each (λ (entry : Entry). not (has_dir more (dir.path ++ entry.name ∷ []))) dir.entries (λ entry. ap not (none_below dirs dir entry.name up)));
  root = placed_root dirs dir h.root n.placed;
} where
  more : List Directory
  more = dirs ++ dir ∷ []

  up : ascends dir_cmp (dirs ++ dir ∷ []) ≡ true
  up = placed_order dirs dir h.order n.placed

  old_apart : (i : ℕ) (old : Directory) → slice_get dirs i ≡ Some old → apart_in dirs old ≡ true → apart_in (dirs ++ dir ∷ []) old ≡ true
  old_apart i old there all =
      all_weaken (λ (entry : Entry). not (has_dir dirs (old.path ++ entry.name ∷ []))) (λ (entry : Entry). not (has_dir more (old.path ++ entry.name ∷ []))) old.entries
      (λ j entry within free.
      ap not
      (has_neither dirs dir (old.path ++ entry.name ∷ []) (not_true (has_dir dirs (old.path ++ entry.name ∷ [])) free)
      (entry_apart dirs dir h.order n.placed i old there j entry within)))
      all

pub count_push : (dirs : List Directory) (dir : Directory) → entry_count (dirs ++ dir ∷ []) ≡ entry_count dirs + length dir.entries
count_push dirs dir = let h = sum_by-append (λ (d : Directory). length d.entries) dirs (dir ∷ []) in omega (arith, h)

pub directories_none : (total : ℕ) → AreDirectories 0 total []
directories_none total = record {
  front = record { order = refl; parents = refl; entries = refl; kinds = refl; apart = refl; root = refl };
  count = refl;
  few = omega arith;
}

pub directories_push : (number total : ℕ) (dirs more : List Directory) (dir : Directory) → more ≡ dirs ++ dir ∷ [] → AreDirectories number total dirs → IsNext total dirs dir → AreDirectories (number + 1) total more
directories_push number total dirs more dir push h n = subst (AreDirectories (number + 1) total) (sym push) (record {
  front = front_push total dirs dir h.front n;
  count = omega (arith, length-append dirs (dir ∷ []), h.count);
  few = omega (arith, count_push dirs dir, n.few);
})

-- the shape of a tree, and how many rows it has
pub shape_from : (dirs : List Directory) → IsFront dirs → 0 < length dirs → HasTreeShape dirs
shape_from [] h some = absurd (omega (arith, some))
shape_from (d ∷ ds) h some = record { root = h.root; order = h.order; parents = h.parents; entries = h.entries; kinds = h.kinds; apart = h.apart }

pub rows_count : (dirs : List Directory) → length (flat_map own_rows dirs) ≡ length dirs + entry_count dirs
rows_count [] = refl
rows_count (d ∷ ds) =
    omega (arith, rows_count ds, length-append (own_rows d) (flat_map own_rows ds), length-map d.entries (entry_row d.path), sum_by-cons (λ (x : Directory). length x.entries) d ds)

pub whole_from : (number total : ℕ) (dirs : List Directory) → AreDirectories number total dirs → 0 < number → number ≤ 262144 → total ≤ 1048576 → IsWholeTree dirs
whole_from number total dirs h some few entries = record {
  shape = shape_from dirs h.front (omega (arith, h.count, some));
  dirs_fit = omega (arith, h.count, few);
  rows_fit = omega (arith, rows_count dirs, h.count, h.few, few, entries);
}
