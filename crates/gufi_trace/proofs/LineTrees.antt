-- The directories of lines without a fault are a tree, which has the lines' rows.
use Rattle.std.proofs.Common.{◌≡◌, ◌+◌, ◌≤◌, inl, inr, Bool, true, false, not, ◌&&◌, ◌||◌, cond, List, [], ◌∷◌, ◌++◌, map, refl, sym, ap, ◌∙◌, subst, arith, append_assoc}
use Rattle.std.specs.Prelude.{Ok, Option, Some, None}
use Rattle.std.specs.Ordering.{is_eq}
use Rattle.std.specs.List.{filter, flat_map, list_any, list_all}
use Rattle.std.specs.List.Sorted.{IsPermutation}
use Rattle.std.proofs.lemmas.Bool.{and_parts, and_from, not-true, not-false, not_from_false, not_from_true, false_from_ne_true}
use Rattle.std.proofs.lemmas.List.{map-append}
use Rattle.std.proofs.lemmas.List.Folds.{list_all-map, flat_map-map}
use Rattle.std.proofs.lemmas.List.Sorted.{IsPermutation-refl, IsPermutation-trans, IsPermutation-map, IsPermutation-cons, IsPermutation-append_left, IsPermutation-append_right, IsPermutation-append_comm}
use Rattle.gufi_base.specs.declared.record.Line.{Line}
use Rattle.gufi_base.specs.declared.record.Row.{Row}
use Rattle.gufi_base.specs.Kinds.{is_dir}
use Rattle.gufi_base.specs.Basics.{is_empty, ascends, sort_by}
use Rattle.gufi_base.specs.Paths.{Components, path_cmp, path_eq, parent_path, base_name}
use Rattle.gufi_base.specs.Rows.{row_cmp}
use Rattle.gufi_base.proofs.Cuts.{all_but_last_and_last}
use Rattle.gufi_base.proofs.Permutations.{IsPermutation-flat_map}
use Rattle.gufi_base.proofs.Sorting.{IsPermutation-sort_by}
use Rattle.gufi_base.proofs.SortedOnce.{times, Once-IsPermutation, ascends-sort_by}
use Rattle.gufi_tree.specs.declared.tree.Entry.{Entry}
use Rattle.gufi_tree.specs.declared.fault.TreeFault.{TreeFault}
use Rattle.gufi_tree.specs.Tree.{Directory, dir_cmp, entry_cmp, dir_row, entry_row, own_rows, is_kinded, HasTreeShape}
use Rattle.gufi_tree.specs.Build.{is_dir_line, names_dir, is_orphan, is_entry_line, entry_of_line, directory_of_line, directories_of_lines, tree_fault, unless, tree_of}
use Rattle.gufi_tree.specs.Gathered.{row_of_line}
use Rattle.gufi_tree.proofs.Apart.{entries_apart}
use Rattle.gufi_tree.proofs.Built.{Has, path_eq-Decides, dir_cmp-total, entry_cmp-total}
use Rattle.gufi_tree.proofs.Faultless.{IsFaultless, alike, is_eq-path_cmp, path_cmp-child, faultless_from_none}
use Rattle.gufi_tree.proofs.Filters.{filter-agree, filter-either, filter-any, AreApart, any-none, any-some, any-found, Has-filter, filter-Has}
use Rattle.gufi_tree.proofs.Placed.{list_all-IsPermutation, list_all-Has, list_all-from_Has, times_dirs, rooted, parents_there}

-- ---- lists

whole_filter : {X : Type 0} (p : X → Bool) (xs : List X) → filter (λ x. p x || not (p x)) xs ≡ xs
whole_filter p [] = refl
whole_filter {X} p (x ∷ xs) = by (p x) (whole_filter p xs) where
  by : (b : Bool) → filter (λ (y : X). p y || not (p y)) xs ≡ xs → cond (b || not b) (x ∷ filter (λ (y : X). p y || not (p y)) xs) (filter (λ (y : X). p y || not (p y)) xs) ≡ x ∷ xs
  by true e = ap (λ (l : List X). x ∷ l) e
  by false e = ap (λ (l : List X). x ∷ l) e

-- those that pass a test, and then the others
parted : {X : Type 0} (p : X → Bool) (xs : List X) → IsPermutation xs (filter p xs ++ filter (λ x. not (p x)) xs)
parted {X} p xs =
    subst (λ (l : List X). IsPermutation l (filter p xs ++ filter (λ (x : X). not (p x)) xs)) (whole_filter p xs)
    (filter-either p (λ (x : X). not (p x)) xs (λ x k e. not_from_true (p x) e))

module _ {X Y : Type 0} where
  map-flat_map : (f : X → Y) {Z : Type 0} (g : Z → List X) (zs : List Z) → map f (flat_map g zs) ≡ flat_map (λ z. map f (g z)) zs
  map-flat_map f g [] = refl
  map-flat_map f g (z ∷ zs) = map-append f (g z) (flat_map g zs) ∙ ap (λ (l : List Y). map f (g z) ++ l) (map-flat_map f g zs)

  -- the heads of lists, and then the rest of each
  heads_first : (f : X → Y) (h : X → List Y) (xs : List X) → IsPermutation (map f xs ++ flat_map h xs) (flat_map (λ x. f x ∷ h x) xs)
  heads_first f h [] = IsPermutation-refl []
  heads_first f h (x ∷ xs) =
      let m = map f xs in
      let k = flat_map h xs in
      let turned : IsPermutation (m ++ (h x ++ k)) (h x ++ (m ++ k)) =
      subst (λ (l : List Y). IsPermutation l (h x ++ (m ++ k))) (append_assoc m (h x) k)
      (subst (λ (l : List Y). IsPermutation ((m ++ h x) ++ k) l) (append_assoc (h x) m k) (IsPermutation-append_left k (m ++ h x) (h x ++ m) (IsPermutation-append_comm m (h x)))) in
      IsPermutation-cons (f x) (m ++ (h x ++ k)) (h x ++ flat_map (λ y. f y ∷ h y) xs)
      (IsPermutation-trans _ _ _ turned (IsPermutation-append_right (h x) (m ++ k) (flat_map (λ y. f y ∷ h y) xs) (heads_first f h xs)))

  each_moved : (f g : X → List Y) (xs : List X) → ((x : X) → Has xs x → IsPermutation (f x) (g x)) → IsPermutation (flat_map f xs) (flat_map g xs)
  each_moved f g [] h = IsPermutation-refl []
  each_moved f g (x ∷ xs) h =
      IsPermutation-trans _ _ _ (IsPermutation-append_left (flat_map f xs) (f x) (g x) (h x (inl refl)))
      (IsPermutation-append_right (g x) (flat_map f xs) (flat_map g xs) (each_moved f g xs (λ y k. h y (inr k))))

  times-filter : (q : Y → Bool) (f : X → Y) (p : X → Bool) (xs : List X) → times q (map f (filter p xs)) ≤ times q (map f xs)
  times-filter q f p [] = omega arith
  times-filter q f p (x ∷ xs) = by (p x) (times-filter q f p xs) where
    by : (b : Bool) → times q (map f (filter p xs)) ≤ times q (map f xs) → times q (map f (cond b (x ∷ filter p xs) (filter p xs))) ≤ cond (q (f x)) 1 0 + times q (map f xs)
    by true h = omega arith
    by false h = omega arith

some_times : (z : Row) (lines : List Line) (line : Line) → Has lines line → z.path ≡ line.path → 1 ≤ times (alike z) (map row_of_line lines)
some_times z [] line k e = absurd k
some_times z (x ∷ lines) line (inl h) e =
    let one : is_eq (path_cmp z.path x.path) ≡ true = is_eq-path_cmp z.path x.path ∙ (path_eq-Decides z.path x.path).1 (e ∙ ap (λ (v : Line). v.path) (sym h)) in
    rw one (omega arith)
some_times z (x ∷ lines) line (inr h) e = let rest = some_times z lines line h e in omega arith

-- ---- lines without a fault

module _ (lines : List Line) (sound : IsFaultless lines) where
  dir_lines : List Line
  dir_lines = filter is_dir_line lines

  abbrev owns : Line → Line → Bool
  owns k line = is_entry_line k.path line

  abbrev own_lines : Line → List Line
  own_lines k = filter (owns k) lines

  parent_of : (b : Bool) (line : Line) → is_empty line.path ≡ b → not (is_dir_line line) ≡ true → not (cond b (not (is_dir_line line)) (not (names_dir lines (parent_path line.path)))) ≡ true
      → (is_empty line.path ≡ false) × (names_dir lines (parent_path line.path) ≡ true)
  parent_of true line e entry h = let no : not true ≡ true = rw entry at h in cc
  parent_of false line e entry h = (e, not-false _ (not-true _ h))

  -- an entry's path has a name, and its parent is there
  entry_line : (line : Line) → Has lines line → not (is_dir_line line) ≡ true → (is_empty line.path ≡ false) × (names_dir lines (parent_path line.path) ≡ true)
  entry_line line k entry = parent_of (is_empty line.path) line refl entry (list_all-Has (λ (other : Line). not (is_orphan lines other)) lines line sound.parents k)

  one_more : (p : Components) → is_empty p ≡ false → parent_path p ++ base_name p ∷ [] ≡ p
  one_more [] e = cc
  one_more (n ∷ p) e = all_but_last_and_last (47 ∷ []) n p

  own_path : (k line : Line) → Has (own_lines k) line → k.path ++ base_name line.path ∷ [] ≡ line.path
  own_path k line m =
      let w = Has-filter (owns k) lines line m in
      let both = and_parts (not (is_dir_line line)) (path_eq k.path (parent_path line.path)) w.1 in
      ap (λ (p : Components). p ++ base_name line.path ∷ []) ((path_eq-Decides k.path (parent_path line.path)).0 both.1) ∙ one_more line.path (entry_line line w.0 both.0).0

  apart : (ks : List Line) → ((z : Row) → times (alike z) (map row_of_line ks) ≤ 1) → AreApart owns ks lines
  apart [] once = tt
  apart (k ∷ ks) once = (first, apart ks (λ z. let h = once z in omega arith)) where
    first : (line : Line) → Has lines line → owns k line ≡ true → list_any (λ (j : Line). owns j line) ks ≡ false
    first line m e = false_from_ne_true (list_any (λ (j : Line). owns j line) ks) (λ any.
        let w = any-found (λ (j : Line). owns j line) ks any in
        let a : k.path ≡ parent_path line.path = (path_eq-Decides k.path (parent_path line.path)).0 (and_parts (not (is_dir_line line)) (path_eq k.path (parent_path line.path)) e).1 in
        let b : w.0.path ≡ parent_path line.path = (path_eq-Decides w.0.path (parent_path line.path)).0 (and_parts (not (is_dir_line line)) (path_eq w.0.path (parent_path line.path)) w.2).1 in
        let more : 1 ≤ times (alike (row_of_line k)) (map row_of_line ks) = some_times (row_of_line k) ks w.0 w.1 (a ∙ sym b) in
        let itself : is_eq (path_cmp k.path k.path) ≡ true = is_eq-path_cmp k.path k.path ∙ (path_eq-Decides k.path k.path).1 refl in
        let few : cond (is_eq (path_cmp k.path k.path)) 1 0 + times (alike (row_of_line k)) (map row_of_line ks) ≤ 1 = once (row_of_line k) in
        let two : 1 + times (alike (row_of_line k)) (map row_of_line ks) ≤ 1 = rw itself at few in
        omega arith)

  -- each entry's line lies in one of the directories
  owned : (line : Line) → Has lines line → list_any (λ (k : Line). owns k line) dir_lines ≡ not (is_dir_line line)
  unfolding dir_lines
  owned line m = by (is_dir_line line) refl where
    by : (b : Bool) → is_dir_line line ≡ b → list_any (λ (k : Line). owns k line) (filter is_dir_line lines) ≡ not b
    by true e = any-none (λ (k : Line). owns k line) (filter is_dir_line lines) (λ k j. rw e refl)
    by false e =
        let entry = not_from_false (is_dir_line line) e in
        let w = any-found (λ (k : Line). is_dir_line k && path_eq (parent_path line.path) k.path) lines (entry_line line m entry).1 in
        let both = and_parts (is_dir_line w.0) (path_eq (parent_path line.path) w.0.path) w.2 in
        any-some (λ (k : Line). owns k line) (filter is_dir_line lines) w.0 (filter-Has is_dir_line lines w.0 w.1 both.0)
        (and_from _ _ entry ((path_eq-Decides w.0.path (parent_path line.path)).1 (sym ((path_eq-Decides (parent_path line.path) w.0.path).0 both.1))))

  entries_rows : (k : Line) (ls : List Line) → ((line : Line) → Has ls line → k.path ++ base_name line.path ∷ [] ≡ line.path) → map (entry_row k.path) (map entry_of_line ls) ≡ map row_of_line ls
  entries_rows k [] h = refl
  entries_rows k (line ∷ ls) h =
      ap (λ (p : Components). record { path = p; rec = line.rec } ∷ map (entry_row k.path) (map entry_of_line ls)) (h line (inl refl))
      ∙ ap (λ (rs : List Row). row_of_line line ∷ rs) (entries_rows k ls (λ l m. h l (inr m)))

  -- the rows of a directory, from those of its lines
  own_moved : (k : Line) → IsPermutation (row_of_line k ∷ map row_of_line (own_lines k)) (own_rows (directory_of_line lines k))
  own_moved k =
      let es = map entry_of_line (own_lines k) in
      IsPermutation-cons (row_of_line k) (map row_of_line (own_lines k)) (map (entry_row k.path) (sort_by entry_cmp es))
      (subst (λ (rs : List Row). IsPermutation rs (map (entry_row k.path) (sort_by entry_cmp es))) (entries_rows k (own_lines k) (λ line m. own_path k line m))
      (IsPermutation-map (entry_row k.path) es (sort_by entry_cmp es) (IsPermutation-sort_by entry_cmp es)))

  unsorted : List Directory
  unsorted = map (directory_of_line lines) dir_lines

  dirs_once : (z : Row) → times (alike z) (map row_of_line dir_lines) ≤ 1
  unfolding dir_lines
  dirs_once z =
      let few : times (alike z) (map row_of_line lines) ≤ 1 = sound.once z in
      let part = times-filter (alike z) row_of_line is_dir_line lines in
      omega arith

  rows_unsorted : IsPermutation (map row_of_line lines) (flat_map own_rows unsorted)
  unfolding unsorted dir_lines
  rows_unsorted =
      let dirs = filter is_dir_line lines in
      let entries = filter (λ (line : Line). not (is_dir_line line)) lines in
      let owned_lines = flat_map own_lines dirs in
      let once : (z : Row) → times (alike z) (map row_of_line dirs) ≤ 1 = dirs_once in
      let any : filter (λ (line : Line). list_any (λ (k : Line). owns k line) dirs) lines ≡ entries = filter-agree (λ (line : Line). list_any (λ (k : Line). owns k line) dirs) (λ (line : Line). not (is_dir_line line)) lines owned in
      let placed : IsPermutation entries owned_lines = subst (λ (ls : List Line). IsPermutation ls owned_lines) any (filter-any owns dirs lines (apart dirs once)) in
      let all : IsPermutation lines (dirs ++ owned_lines) = IsPermutation-trans _ _ _ (parted is_dir_line lines) (IsPermutation-append_right dirs entries owned_lines placed) in
      let rows : map row_of_line (dirs ++ owned_lines) ≡ map row_of_line dirs ++ flat_map (λ (k : Line). map row_of_line (own_lines k)) dirs =
      map-append row_of_line dirs owned_lines ∙ ap (λ (rs : List Row). map row_of_line dirs ++ rs) (map-flat_map row_of_line own_lines dirs) in
      let first = subst (λ (rs : List Row). IsPermutation (map row_of_line lines) rs) rows (IsPermutation-map row_of_line lines (dirs ++ owned_lines) all) in
      let second = heads_first row_of_line (λ (k : Line). map row_of_line (own_lines k)) dirs in
      let third = each_moved (λ (k : Line). row_of_line k ∷ map row_of_line (own_lines k)) (λ (k : Line). own_rows (directory_of_line lines k)) dirs (λ k m. own_moved k) in
      subst (λ (rs : List Row). IsPermutation (map row_of_line lines) rs) (sym (flat_map-map own_rows (directory_of_line lines) dirs))
      (IsPermutation-trans _ _ _ first (IsPermutation-trans _ _ _ second third))

  -- the directories have the lines' rows
  pub rows_of_lines : IsPermutation (map row_of_line lines) (flat_map own_rows (directories_of_lines lines))
  unfolding unsorted dir_lines
  rows_of_lines =
      let ds = map (directory_of_line lines) (filter is_dir_line lines) in
      IsPermutation-trans _ _ _ rows_unsorted (IsPermutation-flat_map own_rows ds (sort_by dir_cmp ds) (IsPermutation-sort_by dir_cmp ds))

  -- what holds of the directory of each directory's line
  pub each_directory : (p : Directory → Bool) → ((k : Line) → Has lines k → is_dir_line k ≡ true → p (directory_of_line lines k) ≡ true) → list_all p (directories_of_lines lines) ≡ true
  each_directory p h =
      let dirs = filter is_dir_line lines in
      let ds = map (directory_of_line lines) dirs in
      sym (list_all-IsPermutation p ds (sort_by dir_cmp ds) (IsPermutation-sort_by dir_cmp ds)) ∙ list_all-map p (directory_of_line lines) dirs
      ∙ list_all-from_Has (λ (k : Line). p (directory_of_line lines k)) dirs (λ k m. let w = Has-filter is_dir_line lines k m in h k w.0 w.1)

  pub lines_kinded : list_all is_kinded (directories_of_lines lines) ≡ true
  lines_kinded = each_directory is_kinded (λ k m dir.
      let es = map entry_of_line (own_lines k) in
      let q : Entry → Bool = λ (e : Entry). not (is_dir e.rec.meta.kind) in
      and_from _ _ dir
      (sym (list_all-IsPermutation q es (sort_by entry_cmp es) (IsPermutation-sort_by entry_cmp es)) ∙ list_all-map q entry_of_line (own_lines k)
      ∙ list_all-from_Has (λ (line : Line). not (is_dir_line line)) (own_lines k) (λ line j. (and_parts (not (is_dir_line line)) (path_eq k.path (parent_path line.path)) (Has-filter (owns k) lines line j).1).0)))

  entry_times : (k : Line) (z : Entry) (ls : List Line) → ((line : Line) → Has ls line → k.path ++ base_name line.path ∷ [] ≡ line.path)
      → times (λ (e : Entry). is_eq (entry_cmp z e)) (map entry_of_line ls) ≡ times (alike (entry_row k.path z)) (map row_of_line ls)
  entry_times k z [] h = refl
  entry_times k z (line ∷ ls) h =
      let rest = entry_times k z ls (λ l m. h l (inr m)) in
      let one : is_eq (entry_cmp z (entry_of_line line)) ≡ is_eq (path_cmp (k.path ++ z.name ∷ []) line.path) =
      ap is_eq (sym (path_cmp-child k.path z.name (base_name line.path)) ∙ ap (path_cmp (k.path ++ z.name ∷ [])) (h line (inl refl))) in
      rw one (ap (λ n. cond (is_eq (path_cmp (k.path ++ z.name ∷ []) line.path)) 1 0 + n) rest)

  entries_in_order : list_all (λ (d : Directory). ascends entry_cmp d.entries) (directories_of_lines lines) ≡ true
  entries_in_order = each_directory (λ (d : Directory). ascends entry_cmp d.entries) (λ k m dir.
      ascends-sort_by entry_cmp entry_cmp-total (map entry_of_line (own_lines k)) (λ z.
      let same = entry_times k z (own_lines k) (λ line j. own_path k line j) in
      let part = times-filter (alike (entry_row k.path z)) row_of_line (owns k) lines in
      let few : times (alike (entry_row k.path z)) (map row_of_line lines) ≤ 1 = sound.once (entry_row k.path z) in
      omega arith))

  directories_in_order : ascends dir_cmp (directories_of_lines lines) ≡ true
  unfolding unsorted dir_lines
  directories_in_order =
      let ds = map (directory_of_line lines) (filter is_dir_line lines) in
      ascends-sort_by dir_cmp dir_cmp-total ds (λ z.
      let few : times (alike (dir_row z)) (flat_map own_rows ds) ≤ 1 = Once-IsPermutation row_cmp (map row_of_line lines) (flat_map own_rows ds) rows_unsorted sound.once (dir_row z) in
      let part = times_dirs z ds in
      omega arith)

  -- the directories are a tree
  pub lines_shape : HasTreeShape (directories_of_lines lines)
  lines_shape =
      let tree = directories_of_lines lines in
      record {
        root = rooted lines tree rows_of_lines lines_kinded sound;
        order = directories_in_order;
        parents = parents_there lines tree rows_of_lines lines_kinded sound;
        entries = entries_in_order;
        kinds = lines_kinded;
        apart = entries_apart lines tree rows_of_lines lines_kinded sound;
      }

-- a tree that lines give is that of their directories, and they have no fault
given_parts : (o : Option TreeFault) (ds tree : List Directory) → unless o ds ≡ Ok tree → (o ≡ None) × (ds ≡ tree)
given_parts None ds tree e = (refl, cc)
given_parts (Some fault) ds tree e = absurd cc

pub tree_given : (lines : List Line) (tree : List Directory) → tree_of lines ≡ Ok tree → IsFaultless lines × (directories_of_lines lines ≡ tree)
unfolding tree_of
tree_given lines tree e =
    let w = given_parts (tree_fault lines) (directories_of_lines lines) tree e in
    (faultless_from_none lines w.0, w.1)
