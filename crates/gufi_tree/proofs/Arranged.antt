-- From gathered lines to the tree of the lines.
use Rattle.std.proofs.Common.{◌≡◌, ℕ, suc, ◌+◌, ◌<◌, ◌≤◌, Bool, true, false, not, ◌&&◌, ◌||◌, cond, List, [], ◌∷◌, ◌++◌, map, length, get_or, refl, sym, ap, ◌∙◌, arith}
use Rattle.std.specs.Ordering.{is_lt, is_eq}
use Rattle.std.specs.List.{AllByRecursion, list_any, list_all}
use Rattle.std.specs.List.Sorted.{IsPermutation, IsSortedBy}
use Rattle.std.proofs.lemmas.Bool.{and_parts, and_from, not-true, not-false}
use Rattle.std.proofs.lemmas.List.{get_or-map, length-map}
use Rattle.std.proofs.lemmas.List.Folds.{list_any-append, list_all-append, list_all-map}
use Rattle.std.proofs.lemmas.List.Sorted.{IsPermutation-trans, IsPermutation-map, IsPermutation-append_left, list_any-IsPermutation, length_permutation}
use Rattle.gufi_base.specs.declared.record.Line.{Line}
use Rattle.gufi_base.specs.declared.record.Row.{Row}
use Rattle.gufi_base.specs.Basics.{is_empty, ascends}
use Rattle.gufi_base.specs.Paths.{Components, path_cmp, parent_path}
use Rattle.gufi_base.specs.Rows.{row_cmp}
use Rattle.gufi_base.proofs.Permutations.{IsPermutation-flat_map}
use Rattle.gufi_base.proofs.SortedOnce.{times, Once, Once-IsPermutation, ascends-from_sorted}
use Rattle.gufi_tree.specs.declared.tree.Stored.{Stored}
use Rattle.gufi_tree.specs.Tree.{Directory, dir_cmp, entry_cmp, dir_row, own_rows, has_dir, is_kinded}
use Rattle.gufi_tree.specs.Stored.{directory_of, directories_of, AreInOrder}
use Rattle.gufi_tree.specs.Build.{is_dir_line, names_dir, is_orphan}
use Rattle.gufi_tree.specs.Gathered.{row_of_line, rows_of, has_home, IsGathered, IsArranged}
use Rattle.gufi_tree.proofs.Apart.{entries_apart}
use Rattle.gufi_tree.proofs.Built.{dir_cmp-total, directories_are}
use Rattle.gufi_tree.proofs.Faultless.{IsFaultless, alike}
use Rattle.gufi_tree.proofs.Placed.{is_dir_row_at, is_orphan_row, names_dir-rows, has_dir-rows, times_dirs, times-append, list_all-IsPermutation, list_all-agree, list_all-Has, list_all-from_Has, rooted, parents_there, entries_ascend}

pub gathered_sorted : (lines loose : List Line) (xs ys : List Stored) → IsPermutation xs ys → IsGathered lines xs loose → IsGathered lines ys loose
gathered_sorted lines loose xs ys h g =
    let dirs : IsPermutation (directories_of xs) (directories_of ys) = IsPermutation-map directory_of xs ys h in
    record {
      rows = IsPermutation-trans _ _ _ g.rows (IsPermutation-append_left (map row_of_line loose) (rows_of xs) (rows_of ys) (IsPermutation-flat_map own_rows (directories_of xs) (directories_of ys) dirs));
      kinds = sym (list_all-IsPermutation is_kinded (directories_of xs) (directories_of ys) dirs) ∙ g.kinds;
      entries = g.entries;
    }

-- the order of directories, from that of stored ones
dirs_sorted : (stored : List Stored) → IsSortedBy (λ (x y : Stored). is_lt (path_cmp x.path y.path)) stored → IsSortedBy (λ x y. is_lt (dir_cmp x y)) (directories_of stored)
dirs_sorted [] up = λ k d low high. absurd (omega arith)
dirs_sorted (s ∷ stored) up = λ k d low high.
    let within : k + 1 < length (s ∷ stored) = omega (arith, length-map (s ∷ stored) directory_of) in
    let h = up k s low within in
    let e = get_or-map directory_of (s ∷ stored) (k + 1) s d within in
    let f = get_or-map directory_of (s ∷ stored) k s d (omega arith) in
    ap (λ (x : Directory). is_lt (path_cmp x.path (get_or (directories_of (s ∷ stored)) k d).path)) e ∙ ap (λ (y : Directory). is_lt (path_cmp (get_or (s ∷ stored) (k + 1) s).path y.path)) f ∙ h

module _ (lines loose : List Line) (stored : List Stored) (sound : IsFaultless lines) (g : IsGathered lines stored loose) where
  once_stored : Once row_cmp (rows_of stored)
  once_stored = λ z.
      let all : times (alike z) (rows_of stored ++ map row_of_line loose) ≤ 1 = Once-IsPermutation row_cmp (map row_of_line lines) (rows_of stored ++ map row_of_line loose) g.rows sound.once z in
      let e : times (alike z) (rows_of stored ++ map row_of_line loose) ≡ times (alike z) (rows_of stored) + times (alike z) (map row_of_line loose) = times-append (alike z) (rows_of stored) (map row_of_line loose) in
      omega arith

  pub gathered_order : IsSortedBy (λ (x y : Stored). is_lt (path_cmp x.path y.path)) stored → AreInOrder stored
  gathered_order up =
      ascends-from_sorted dir_cmp dir_cmp-total (directories_of stored) (dirs_sorted stored up) (λ z.
      let few : times (alike (dir_row z)) (rows_of stored) ≤ 1 = once_stored (dir_row z) in
      let part : times (λ (v : Directory). is_eq (dir_cmp z v)) (directories_of stored) ≤ times (alike (dir_row z)) (rows_of stored) = times_dirs z (directories_of stored) in
      omega arith)

  none_left : (p : Components) (ls : List Line) → list_all (λ (line : Line). not (is_dir_line line)) ls ≡ true → list_any (is_dir_row_at p) (map row_of_line ls) ≡ false
  none_left p [] h = refl
  none_left p (line ∷ ls) h =
      let both = and_parts (not (is_dir_line line)) (list_all (λ (v : Line). not (is_dir_line v)) ls) h in
      rw (not-true (is_dir_line line) both.0) (none_left p ls both.1)

  or_false : (b : Bool) → (b || false) ≡ b
  or_false true = refl
  or_false false = refl

  names_dir-stored : (p : Components) → names_dir lines p ≡ has_dir (directories_of stored) p
  names_dir-stored p =
      names_dir-rows lines p ∙ list_any-IsPermutation (is_dir_row_at p) (map row_of_line lines) (rows_of stored ++ map row_of_line loose) g.rows
      ∙ list_any-append (is_dir_row_at p) (rows_of stored) (map row_of_line loose)
      ∙ ap (λ b. list_any (is_dir_row_at p) (rows_of stored) || b) (none_left p loose g.entries)
      ∙ or_false (list_any (is_dir_row_at p) (rows_of stored)) ∙ has_dir-rows (directories_of stored) p g.kinds

  home_from : (line : Line) → not (is_dir_line line) ≡ true → not (is_orphan_row (directories_of stored) (row_of_line line)) ≡ true → has_home (directories_of stored) line ≡ true
  home_from line entry h = and_from _ _ entry (by (is_empty line.path) refl) where
    by : (b : Bool) → is_empty line.path ≡ b → (not b && has_dir (directories_of stored) (parent_path line.path)) ≡ true
    by true e =
        let k : not (not (is_dir_line line)) ≡ true = rw e at h in
        let no : not true ≡ true = rw entry at k in
        cc
    by false e =
        let k : not (not (has_dir (directories_of stored) (parent_path line.path))) ≡ true = rw e at h in
        not-false (has_dir (directories_of stored) (parent_path line.path)) (not-true (not (has_dir (directories_of stored) (parent_path line.path))) k)

  -- each line that is left lies in a directory
  pub gathered_homes : list_all (has_home (directories_of stored)) loose ≡ true
  gathered_homes =
      let q : Row → Bool = λ row. not (is_orphan_row (directories_of stored) row) in
      let all : list_all q (map row_of_line lines) ≡ true =
      list_all-map q row_of_line lines
      ∙ sym (list_all-agree (λ line. not (is_orphan lines line)) (λ line. q (row_of_line line))
      (λ line. ap (λ b. not (cond (is_empty line.path) (not (is_dir_line line)) (not b))) (names_dir-stored (parent_path line.path))) lines)
      ∙ sound.parents in
      let rest : list_all q (map row_of_line loose) ≡ true =
      (and_parts (list_all q (rows_of stored)) (list_all q (map row_of_line loose))
      (sym (list_all-append q (rows_of stored) (map row_of_line loose)) ∙ sym (list_all-IsPermutation q (map row_of_line lines) (rows_of stored ++ map row_of_line loose) g.rows) ∙ all)).1 in
      let each : list_all (λ line. q (row_of_line line)) loose ≡ true = sym (list_all-map q row_of_line loose) ∙ rest in
      list_all-from_Has (has_home (directories_of stored)) loose (λ line k.
      home_from line (list_all-Has (λ (v : Line). not (is_dir_line v)) loose line g.entries k) (list_all-Has (λ v. q (row_of_line v)) loose line each k))

-- the entries of each directory, by places and by recursion
sorted_each : (stored : List Stored) → ((k : ℕ) (d : Stored) → k < length stored → IsSortedBy (λ x y. is_lt (entry_cmp x y)) (get_or stored k d).entries.items)
    → AllByRecursion (λ (d : Directory). IsSortedBy (λ x y. is_lt (entry_cmp x y)) d.entries) (directories_of stored)
sorted_each [] h = tt
sorted_each (s ∷ stored) h = (h 0 s (omega arith), sorted_each stored (λ k d lt. h (suc k) d (omega arith)))

pub list_all-from_All : {X : Type 0} (p : X → Bool) (xs : List X) → AllByRecursion (λ x. p x ≡ true) xs → list_all p xs ≡ true
list_all-from_All p [] h = refl
list_all-from_All p (x ∷ xs) h = and_from (p x) (list_all p xs) h.0 (list_all-from_All p xs h.1)

pub arranged : (lines : List Line) (stored : List Stored) → IsFaultless lines → IsPermutation (map row_of_line lines) (rows_of stored) → list_all is_kinded (directories_of stored) ≡ true
    → AreInOrder stored → ((k : ℕ) (d : Stored) → k < length stored → IsSortedBy (λ x y. is_lt (entry_cmp x y)) (get_or stored k d).entries.items) → IsArranged lines (directories_of stored)
arranged lines stored sound rows kinds order sorted =
    let tree = directories_of stored in
    let entries = entries_ascend lines tree rows kinds sound (sorted_each stored sorted) in
    record {
      tree = sym (directories_are lines tree rows kinds order entries);
      shape = record {
        root = rooted lines tree rows kinds sound;
        order = order;
        parents = parents_there lines tree rows kinds sound;
        entries = list_all-from_All (λ (d : Directory). ascends entry_cmp d.entries) tree entries;
        kinds = kinds;
        apart = entries_apart lines tree rows kinds sound;
      };
      rows = length_permutation (map row_of_line lines) (rows_of stored) rows ∙ length-map lines row_of_line;
    }
