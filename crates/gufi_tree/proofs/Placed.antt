-- What is known of directories that have the rows of lines without a fault.
use Rattle.std.proofs.Common.{◌≡◌, ◌+◌, ◌≤◌, inl, inr, Bool, true, false, not, ◌&&◌, ◌||◌, cond, List, [], ◌∷◌, ◌++◌, map, refl, sym, ap, ◌∙◌, subst, arith}
use Rattle.std.specs.declared.cmp.Ordering.{Ordering}
use Rattle.std.specs.Ordering.{is_eq, is_lt}
use Rattle.std.specs.List.{AllByRecursion, flat_map, list_any, list_all}
use Rattle.std.specs.List.Sorted.{IsPermutation, IsSortedBy}
use Rattle.std.proofs.lemmas.Bool.{and_parts, and_from, not-true, not-false}
use Rattle.std.proofs.lemmas.List.Folds.{list_any-append, list_all-append, list_all-map}
use Rattle.std.proofs.lemmas.List.Sorted.{list_any-IsPermutation}
use Rattle.gufi_base.specs.declared.record.Line.{Line}
use Rattle.gufi_base.specs.declared.record.Row.{Row}
use Rattle.gufi_base.specs.Basics.{is_empty, ascends}
use Rattle.gufi_base.specs.Paths.{Components, path_cmp, path_eq, parent_path}
use Rattle.gufi_base.specs.Kinds.{is_dir}
use Rattle.gufi_base.specs.Rows.{is_dir_row, row_cmp}
use Rattle.gufi_base.proofs.Permutations.{IsPermutation-respected}
use Rattle.gufi_base.proofs.SortedOnce.{times, Once, Once-IsPermutation, ascends-from_sorted}
use Rattle.gufi_tree.specs.declared.tree.Entry.{Entry}
use Rattle.gufi_tree.specs.Tree.{Directory, dir_cmp, entry_cmp, dir_row, entry_row, own_rows, has_dir, is_at, is_kinded}
use Rattle.gufi_tree.specs.Build.{is_dir_line, names_dir, is_orphan}
use Rattle.gufi_tree.specs.Gathered.{row_of_line}
use Rattle.gufi_tree.proofs.Built.{Has, All-Has, All-from_Has, entry_cmp-total}
use Rattle.gufi_tree.proofs.Faultless.{IsFaultless, alike, path_cmp-child}

and_turned : (a b c : Bool) → (a && (b && c)) ≡ (b && (a && c))
and_turned true true c = refl
and_turned true false c = refl
and_turned false true c = refl
and_turned false false c = refl

module _ {X : Type 0} where
  pub list_all-IsPermutation : (p : X → Bool) (xs ys : List X) → IsPermutation xs ys → list_all p xs ≡ list_all p ys
  list_all-IsPermutation p xs ys h =
      IsPermutation-respected (λ (a b : Bool). a ≡ b) (λ a. refl) (λ a b c e f. e ∙ f) (list_all p)
      (λ x us vs e. ap (λ b. p x && b) e) (λ x y us. and_turned (p x) (p y) (list_all p us)) xs ys h

  pub list_all-agree : (p q : X → Bool) → ((x : X) → p x ≡ q x) → (xs : List X) → list_all p xs ≡ list_all q xs
  list_all-agree p q h [] = refl
  list_all-agree p q h (x ∷ xs) = ap (λ b. b && list_all p xs) (h x) ∙ ap (λ b. q x && b) (list_all-agree p q h xs)

  pub list_all-Has : (p : X → Bool) (xs : List X) (x : X) → list_all p xs ≡ true → Has xs x → p x ≡ true
  list_all-Has p [] x h k = absurd k
  list_all-Has p (y ∷ ys) x h (inl k) = ap p (sym k) ∙ (and_parts (p y) (list_all p ys) h).0
  list_all-Has p (y ∷ ys) x h (inr k) = list_all-Has p ys x (and_parts (p y) (list_all p ys) h).1 k

  pub list_all-from_Has : (p : X → Bool) (xs : List X) → ((x : X) → Has xs x → p x ≡ true) → list_all p xs ≡ true
  list_all-from_Has p [] h = refl
  list_all-from_Has p (x ∷ xs) h = and_from (p x) (list_all p xs) (h x (inl refl)) (list_all-from_Has p xs (λ y k. h y (inr k)))

  pub times-append : (p : X → Bool) (xs ys : List X) → times p (xs ++ ys) ≡ times p xs + times p ys
  times-append p [] ys = omega arith
  times-append p (x ∷ xs) ys = let ih : times p (xs ++ ys) ≡ times p xs + times p ys = times-append p xs ys in omega arith

-- the row of a directory that has the path
abbrev pub is_dir_row_at : Components → Row → Bool
is_dir_row_at path row = is_dir_row row && path_eq path row.path

-- no directory is where the row's parent should be
abbrev pub is_orphan_row : List Directory → Row → Bool
is_orphan_row tree row = cond (is_empty row.path) (not (is_dir_row row)) (not (has_dir tree (parent_path row.path)))

pub names_dir-rows : (lines : List Line) (p : Components) → names_dir lines p ≡ list_any (is_dir_row_at p) (map row_of_line lines)
names_dir-rows [] p = refl
names_dir-rows (line ∷ lines) p = ap (λ b. (is_dir_line line && path_eq p line.path) || b) (names_dir-rows lines p)

pub has_dir-rows : (tree : List Directory) (p : Components) → list_all is_kinded tree ≡ true → list_any (is_dir_row_at p) (flat_map own_rows tree) ≡ has_dir tree p
has_dir-rows [] p h = refl
has_dir-rows (d ∷ ds) p h =
    let both = and_parts (is_kinded d) (list_all is_kinded ds) h in
    list_any-append (is_dir_row_at p) (own_rows d) (flat_map own_rows ds) ∙ ap (λ b. b || list_any (is_dir_row_at p) (flat_map own_rows ds)) (own d both.0)
    ∙ ap (λ b. is_at p d || b) (has_dir-rows ds p both.1) where
      none : (q : Components) (es : List Entry) → list_all (λ (e : Entry). not (is_dir e.rec.meta.kind)) es ≡ true → list_any (is_dir_row_at p) (map (entry_row q) es) ≡ false
      none q [] k = refl
      none q (e ∷ es) k =
          let both = and_parts (not (is_dir e.rec.meta.kind)) (list_all (λ (v : Entry). not (is_dir v.rec.meta.kind)) es) k in
          rw (not-true (is_dir e.rec.meta.kind) both.0) (none q es both.1)

      or_false : (b : Bool) → (b || false) ≡ b
      or_false true = refl
      or_false false = refl

      own : (v : Directory) → is_kinded v ≡ true → list_any (is_dir_row_at p) (own_rows v) ≡ is_at p v
      own v k =
          let both = and_parts (is_dir v.rec.meta.kind) (list_all (λ (e : Entry). not (is_dir e.rec.meta.kind)) v.entries) k in
          rw (both.0, none v.path v.entries both.1) (or_false (path_eq p v.path))

-- the directories and the entries of one, among all rows
pub times_dirs : (z : Directory) (tree : List Directory) → times (λ (v : Directory). is_eq (dir_cmp z v)) tree ≤ times (alike (dir_row z)) (flat_map own_rows tree)
times_dirs z [] = omega arith
times_dirs z (d ∷ ds) =
    let ih : times (λ (v : Directory). is_eq (dir_cmp z v)) ds ≤ times (alike (dir_row z)) (flat_map own_rows ds) = times_dirs z ds in
    let e : times (alike (dir_row z)) (own_rows d ++ flat_map own_rows ds) ≡ times (alike (dir_row z)) (own_rows d) + times (alike (dir_row z)) (flat_map own_rows ds) = times-append (alike (dir_row z)) (own_rows d) (flat_map own_rows ds) in
    let one : times (alike (dir_row z)) (own_rows d) ≡ cond (is_eq (path_cmp z.path d.path)) 1 0 + times (alike (dir_row z)) (map (entry_row d.path) d.entries) = refl in
    omega arith

times_entries : (p : Components) (z : Entry) (es : List Entry) → times (λ (v : Entry). is_eq (entry_cmp z v)) es ≡ times (alike (entry_row p z)) (map (entry_row p) es)
times_entries p z [] = refl
times_entries p z (e ∷ es) =
    ap (λ (o : Ordering). cond (is_eq o) 1 0 + times (λ (v : Entry). is_eq (entry_cmp z v)) es) (sym (path_cmp-child p z.name e.name))
    ∙ ap (λ n. cond (is_eq (path_cmp (p ++ z.name ∷ []) (p ++ e.name ∷ []))) 1 0 + n) (times_entries p z es)

times_own : (z : Row) (tree : List Directory) (d : Directory) → Has tree d → times (alike z) (map (entry_row d.path) d.entries) ≤ times (alike z) (flat_map own_rows tree)
times_own z [] d k = absurd k
times_own z (c ∷ ds) d (inl k) =
    let P : Directory → Type 0 = λ v. times (alike z) (map (entry_row v.path) v.entries) ≤ times (alike z) (own_rows c ++ flat_map own_rows ds) in
    let e : times (alike z) (own_rows c ++ flat_map own_rows ds) ≡ times (alike z) (own_rows c) + times (alike z) (flat_map own_rows ds) = times-append (alike z) (own_rows c) (flat_map own_rows ds) in
    let one : times (alike z) (own_rows c) ≡ cond (is_eq (path_cmp z.path c.path)) 1 0 + times (alike z) (map (entry_row c.path) c.entries) = refl in
    let h : P c = omega arith in
    subst P k h
times_own z (c ∷ ds) d (inr k) =
    let ih : times (alike z) (map (entry_row d.path) d.entries) ≤ times (alike z) (flat_map own_rows ds) = times_own z ds d k in
    let e : times (alike z) (own_rows c ++ flat_map own_rows ds) ≡ times (alike z) (own_rows c) + times (alike z) (flat_map own_rows ds) = times-append (alike z) (own_rows c) (flat_map own_rows ds) in
    omega arith

module _ (lines : List Line) (tree : List Directory) (rows : IsPermutation (map row_of_line lines) (flat_map own_rows tree)) (kinds : list_all is_kinded tree ≡ true) where
  pub names_dir-tree : (p : Components) → names_dir lines p ≡ has_dir tree p
  names_dir-tree p =
      names_dir-rows lines p ∙ list_any-IsPermutation (is_dir_row_at p) (map row_of_line lines) (flat_map own_rows tree) rows ∙ has_dir-rows tree p kinds

  orphan_same : (line : Line) → is_orphan lines line ≡ is_orphan_row tree (row_of_line line)
  orphan_same line = ap (λ b. cond (is_empty line.path) (not (is_dir_line line)) (not b)) (names_dir-tree (parent_path line.path))

  module _ (sound : IsFaultless lines) where
    pub rooted : has_dir tree [] ≡ true
    rooted = sym (names_dir-tree []) ∙ sound.root

    pub once_rows : Once row_cmp (flat_map own_rows tree)
    once_rows = Once-IsPermutation row_cmp (map row_of_line lines) (flat_map own_rows tree) rows sound.once

    sound_rows : list_all (λ row. not (is_orphan_row tree row)) (flat_map own_rows tree) ≡ true
    sound_rows =
        sym (list_all-IsPermutation (λ row. not (is_orphan_row tree row)) (map row_of_line lines) (flat_map own_rows tree) rows)
        ∙ list_all-map (λ row. not (is_orphan_row tree row)) row_of_line lines
        ∙ sym (list_all-agree (λ line. not (is_orphan lines line)) (λ line. not (is_orphan_row tree (row_of_line line))) (λ line. ap not (orphan_same line)) lines)
        ∙ sound.parents

    own_rows_all : (q : Row → Bool) (ds : List Directory) → list_all q (flat_map own_rows ds) ≡ true → list_all (λ d. q (dir_row d)) ds ≡ true
    own_rows_all q [] h = refl
    own_rows_all q (d ∷ ds) h =
        let both = and_parts (list_all q (own_rows d)) (list_all q (flat_map own_rows ds)) (sym (list_all-append q (own_rows d) (flat_map own_rows ds)) ∙ h) in
        and_from (q (dir_row d)) (list_all (λ v. q (dir_row v)) ds) (and_parts (q (dir_row d)) (list_all q (map (entry_row d.path) d.entries)) both.0).0 (own_rows_all q ds both.1)

    parent_there : (p : Components) (dir : Bool) → not (cond (is_empty p) (not dir) (not (has_dir tree (parent_path p)))) ≡ true → has_dir tree (parent_path p) ≡ true
    parent_there [] dir h = rooted
    parent_there (n ∷ p) dir h = not-false (has_dir tree (parent_path (n ∷ p))) (not-true (not (has_dir tree (parent_path (n ∷ p)))) h)

    -- the parent of each directory is there
    pub parents_there : list_all (λ (d : Directory). has_dir tree (parent_path d.path)) tree ≡ true
    parents_there =
        list_all-from_Has (λ (d : Directory). has_dir tree (parent_path d.path)) tree
        (λ d k. parent_there d.path (is_dir d.rec.meta.kind) (list_all-Has (λ (v : Directory). not (is_orphan_row tree (dir_row v))) tree d (own_rows_all (λ row. not (is_orphan_row tree row)) tree sound_rows) k))

    -- the entries of a directory, in order, have no two alike
    pub entries_ascend : AllByRecursion (λ (d : Directory). IsSortedBy (λ x y. is_lt (entry_cmp x y)) d.entries) tree → AllByRecursion (λ (d : Directory). ascends entry_cmp d.entries ≡ true) tree
    entries_ascend up =
        All-from_Has (λ (d : Directory). ascends entry_cmp d.entries ≡ true) tree
        (λ d k. ascends-from_sorted entry_cmp entry_cmp-total d.entries (All-Has (λ (v : Directory). IsSortedBy (λ x y. is_lt (entry_cmp x y)) v.entries) tree d up k) (λ z.
        let few : times (alike (entry_row d.path z)) (flat_map own_rows tree) ≤ 1 = once_rows (entry_row d.path z) in
        let own : times (alike (entry_row d.path z)) (map (entry_row d.path) d.entries) ≤ times (alike (entry_row d.path z)) (flat_map own_rows tree) = times_own (entry_row d.path z) tree d k in
        let same : times (λ (v : Entry). is_eq (entry_cmp z v)) d.entries ≡ times (alike (entry_row d.path z)) (map (entry_row d.path) d.entries) = times_entries d.path z d.entries in
        omega arith))
