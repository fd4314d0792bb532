-- How many directories and entries there are below a path, and where a subtree is replaced.
use Rattle.std.proofs.Common.{◌≡◌, ℕ, ◌+◌, ◌-◌, ◌<◌, ◌≤◌, ◌^◌, false, ltb, List, [], ◌∷◌, ◌++◌, length, take, drop, map, refl, sym, ap, ◌∙◌, arith}
use Rattle.std.specs.List.{flat_map}
use Rattle.std.proofs.Math.Seq.{drop-append-add}
use Rattle.std.proofs.lemmas.Bool.{or_parts, ltb-false}
use Rattle.std.proofs.lemmas.List.{length-append, length-map, length-take, take-append-drop}
use Rattle.std.proofs.lemmas.List.Sums.{sum_by-cons, sum_by-append, sum_by-take-drop}
use Rattle.gufi_base.specs.Paths.{Components}
use Rattle.gufi_base.specs.Limits.{max_dirs, max_entries}
use Rattle.gufi_tree.specs.Tree.{Directory, own_rows, entry_row, entry_count, subtree_rows, is_too_large, HasTreeShape}
use Rattle.gufi_tree.specs.Places.{path_at}
use Rattle.gufi_tree.specs.Graft.{put_below, graft}
use Rattle.gufi_tree.proofs.Below.{below_dirs}
use Rattle.gufi_tree.proofs.GraftBelow.{graft_length}
use Rattle.gufi_tree.proofs.Grafted.{grafted}
use Rattle.gufi_tree.proofs.Kids.{rows_under-few}
use Rattle.gufi_tree.proofs.Ranges.{below_range, below_within}
use Rattle.gufi_sums.specs.declared.summary.Summary.{Summary}
use Rattle.gufi_sums.specs.Total.{rows_in, IsTotal}
use Rattle.gufi_sums.specs.Laws.{IsTotal-counted}
use Rattle.gufi_snap.proofs.Pieces.{under-length}
use Rattle.gufi_snap.proofs.Ranges.{dirs_counted}

-- a row for each directory, and one for each entry
pub rows_counted : (ds : List Directory) → length (flat_map own_rows ds) ≡ length ds + entry_count ds
rows_counted [] = refl
rows_counted (d ∷ ds) =
    omega (arith, rows_counted ds, length-append (own_rows d) (flat_map own_rows ds), length-map d.entries (entry_row d.path), sum_by-cons (λ (x : Directory). length x.entries) d ds)

pub all_below : (ds : List Directory) → below_dirs ds [] ≡ ds
all_below [] = refl
all_below (d ∷ ds) = ap (λ l. d ∷ l) (all_below ds)

-- what a sum counts but directories are entries
pub entries_counted : (tree : List Directory) (path : Components) (sum : Summary) → HasTreeShape tree → IsTotal sum (subtree_rows tree path) → sum.files + sum.links + sum.others ≡ entry_count (below_dirs tree path)
entries_counted tree path sum shape is =
    omega (arith, IsTotal-counted sum (subtree_rows tree path) is, under-length tree shape path, rows_counted (below_dirs tree path), dirs_counted tree path sum shape is)

pub rows_few : (tree : List Directory) (path : Components) (sum : Summary) → HasTreeShape tree → length (flat_map own_rows tree) < 2 ^ 32 → IsTotal sum (subtree_rows tree path) → rows_in sum < 2 ^ 32
rows_few tree path sum shape few is = omega (arith, IsTotal-counted sum (subtree_rows tree path) is, under-length tree shape path, rows_under-few tree path)

moved_entries : (path : Components) (ds : List Directory) → entry_count (map (put_below path) ds) ≡ entry_count ds
moved_entries path [] = refl
moved_entries path (d ∷ ds) =
    omega (arith, moved_entries path ds, sum_by-cons (λ (x : Directory). length x.entries) d ds, sum_by-cons (λ (x : Directory). length x.entries) (put_below path d) (map (put_below path) ds))

module _ (tree part : List Directory) (k : ℕ) (shape : HasTreeShape tree) (own : HasTreeShape part) (within : k < length tree) where
  abbrev gone : ℕ
  gone = length (below_dirs tree (path_at tree k))

  rest_after : drop gone (drop k tree) ≡ drop (k + gone) tree
  rest_after =
      let front : length (take k tree) ≡ k = omega (arith, length-take k tree) in
      sym (drop-append-add (take k tree) (drop k tree) gone)
      ∙ ap (λ (i : ℕ). drop (i + gone) (take k tree ++ drop k tree)) front ∙ ap (drop (k + gone)) (take-append-drop k tree)

  -- as many entries as before, without those replaced, and with those of the part
  pub graft_entries : entry_count (graft tree (path_at tree k) part) + entry_count (below_dirs tree (path_at tree k)) ≡ entry_count tree + entry_count part
  graft_entries =
      let f : Directory → ℕ = λ dir. length dir.entries in
      let rest = drop (k + gone) tree in
      let moved = map (put_below (path_at tree k)) part in
      let whole : entry_count (graft tree (path_at tree k) part) ≡ entry_count (take k tree ++ (moved ++ rest)) = ap (λ (ds : List Directory). entry_count ds) (grafted tree part k shape.order own.order within) in
      let a : entry_count (take k tree ++ (moved ++ rest)) ≡ entry_count (take k tree) + entry_count (moved ++ rest) = sum_by-append f (take k tree) (moved ++ rest) in
      let b : entry_count (moved ++ rest) ≡ entry_count moved + entry_count rest = sum_by-append f moved rest in
      let c : entry_count (take k tree) + entry_count (drop k tree) ≡ entry_count tree = sum_by-take-drop f tree k in
      let d : entry_count (take gone (drop k tree)) + entry_count (drop gone (drop k tree)) ≡ entry_count (drop k tree) = sum_by-take-drop f (drop k tree) gone in
      let e : entry_count (drop gone (drop k tree)) ≡ entry_count rest = ap (λ (ds : List Directory). entry_count ds) rest_after in
      let g : entry_count (below_dirs tree (path_at tree k)) ≡ entry_count (take gone (drop k tree)) = ap (λ (ds : List Directory). entry_count ds) (below_range tree k shape.order within) in
      omega (arith, whole, a, b, c, d, e, g, moved_entries (path_at tree k) part)

  pub entries_within : entry_count (below_dirs tree (path_at tree k)) ≤ entry_count tree
  entries_within =
      let f : Directory → ℕ = λ dir. length dir.entries in
      let c : entry_count (take k tree) + entry_count (drop k tree) ≡ entry_count tree = sum_by-take-drop f tree k in
      let d : entry_count (take gone (drop k tree)) + entry_count (drop gone (drop k tree)) ≡ entry_count (drop k tree) = sum_by-take-drop f (drop k tree) gone in
      let g : entry_count (below_dirs tree (path_at tree k)) ≡ entry_count (take gone (drop k tree)) = ap (λ (ds : List Directory). entry_count ds) (below_range tree k shape.order within) in
      omega (arith, c, d, g)

  -- how many directories and entries there are then
  pub sizes_after : (length tree - length (below_dirs tree (path_at tree k)) + length part ≡ length (graft tree (path_at tree k) part)) × (entry_count tree - entry_count (below_dirs tree (path_at tree k)) + entry_count part ≡ entry_count (graft tree (path_at tree k) part))
  sizes_after = (omega (arith, graft_length tree part k shape own within, below_within tree k shape.order within), omega (arith, graft_entries, entries_within))

pub entries_few : (tree : List Directory) → length (flat_map own_rows tree) < 2 ^ 32 → entry_count tree < 2 ^ 32
entries_few tree few = omega (arith, rows_counted tree)

-- a tree that isn't too large has few rows
pub rows_fit : (ds : List Directory) → is_too_large ds ≡ false → length (flat_map own_rows ds) < 2 ^ 32
rows_fit ds h =
    let both = or_parts (ltb max_dirs (length ds)) (ltb max_entries (entry_count ds)) h in
    omega (arith, rows_counted ds, ltb-false max_dirs (length ds) both.0, ltb-false max_entries (entry_count ds) both.1)
