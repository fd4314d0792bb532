-- The directories of lines, from any list of directories that ascends and has the lines' rows.
use Rattle.std.proofs.Common.{◌≡◌, ℕ, ◌⊎◌, inl, inr, Bool, true, false, not, ◌&&◌, cond, List, [], ◌∷◌, ◌++◌, map, refl, sym, ap, ◌∙◌, subst}
use Rattle.std.specs.declared.cmp.Ordering.TheVariants.{Less, Equal}
use Rattle.std.specs.Cmp.{IsTotalOrder}
use Rattle.std.specs.Cmp.Lexicographic.{pointwise_decides, bytes_decides}
use Rattle.std.specs.List.{AllByRecursion, filter, flat_map, list_all}
use Rattle.std.specs.List.Sorted.{IsPermutation}
use Rattle.std.specs.Bool.{Decides}
use Rattle.std.proofs.lemmas.Bool.{false_from_ne_true, and_parts, not-true}
use Rattle.std.proofs.lemmas.Cmp.{lists_total, nat_list_cmp_total, on_total, tied_itself}
use Rattle.std.proofs.lemmas.List.{append-nil, map-id}
use Rattle.std.proofs.lemmas.List.Elements.{filter-append}
use Rattle.std.proofs.lemmas.List.Sorted.{IsPermutation-map}
use Rattle.gufi_base.specs.declared.record.Line.{Line}
use Rattle.gufi_base.specs.declared.record.Row.{Row}
use Rattle.gufi_base.specs.Basics.{sort_by, ascends, last_of}
use Rattle.gufi_base.specs.Paths.{Components, path_cmp, path_eq, parent_path, base_name}
use Rattle.gufi_base.specs.Kinds.{is_dir}
use Rattle.gufi_base.specs.Rows.{is_dir_row}
use Rattle.gufi_base.proofs.Permutations.{IsPermutation-filter}
use Rattle.gufi_base.proofs.SortedOnce.{below_all, ascends-tail, sort_by-to}
use Rattle.gufi_tree.specs.declared.tree.Entry.{Entry}
use Rattle.gufi_tree.specs.Tree.{Directory, dir_cmp, entry_cmp, dir_row, entry_row, own_rows, is_kinded}
use Rattle.gufi_tree.specs.Gathered.{row_of_line}
use Rattle.gufi_tree.specs.Build.{is_dir_line, directory_of_line, directories_of_lines}

pub path_cmp-total : IsTotalOrder path_cmp
path_cmp-total = lists_total nat_list_cmp_total

pub dir_cmp-total : IsTotalOrder dir_cmp
dir_cmp-total = on_total (λ (d : Directory). d.path) path_cmp-total

pub entry_cmp-total : IsTotalOrder entry_cmp
entry_cmp-total = on_total (λ (e : Entry). e.name) nat_list_cmp_total

pub path_eq-Decides : (p q : Components) → Decides (path_eq p q) (p ≡ q)
path_eq-Decides = pointwise_decides bytes_decides

pub path_eq-refl : (p : Components) → path_eq p p ≡ true
path_eq-refl p = (path_eq-Decides p p).1 refl

-- a path and one name more
pub parent_path-child : (p : Components) (name : List ℕ) → parent_path (p ++ name ∷ []) ≡ p
parent_path-child [] name = refl
parent_path-child (n ∷ []) name = refl
parent_path-child (n ∷ m ∷ p) name = ap (λ (q : Components). n ∷ q) (parent_path-child (m ∷ p) name)

last_of-push : (d : List ℕ) (p : Components) (name : List ℕ) → last_of d (p ++ name ∷ []) ≡ name
last_of-push d [] name = refl
last_of-push d (n ∷ p) name = last_of-push n p name

pub base_name-child : (p : Components) (name : List ℕ) → base_name (p ++ name ∷ []) ≡ name
base_name-child p name = last_of-push (47 ∷ []) p name

-- the row is an entry's, of the directory with this path
abbrev pub is_entry_row : Components → Row → Bool
is_entry_row path row = not (is_dir_row row) && path_eq path (parent_path row.path)

abbrev pub entry_of_row : Row → Entry
entry_of_row row = record { name = base_name row.path; rec = row.rec }

abbrev pub directory_of_row : List Row → Row → Directory
directory_of_row rows row = record { path = row.path; rec = row.rec; entries = sort_by entry_cmp (map entry_of_row (filter (is_entry_row row.path) rows)) }

module _ {X Y Z : Type 0} (f : X → Y) (p : Y → Bool) (g : Y → Z) where
  kept_through : (b : Bool) (x : X) (us : List X) (vs : List Y) → map (λ x. g (f x)) us ≡ map g vs → map (λ x. g (f x)) (cond b (x ∷ us) us) ≡ map g (cond b (f x ∷ vs) vs)
  kept_through true x us vs e = ap (λ (zs : List Z). g (f x) ∷ zs) e
  kept_through false x us vs e = e

  -- a filter and a map, through a map
  pub map-filter-map : (xs : List X) → map (λ x. g (f x)) (filter (λ x. p (f x)) xs) ≡ map g (filter p (map f xs))
  map-filter-map [] = refl
  map-filter-map (x ∷ xs) = kept_through (p (f x)) x (filter (λ x. p (f x)) xs) (filter p (map f xs)) (map-filter-map xs)

module _ {X Y : Type 0} (f g : X → Y) where
  pub map-agree : (xs : List X) → AllByRecursion (λ x. f x ≡ g x) xs → map f xs ≡ map g xs
  map-agree [] h = refl
  map-agree (x ∷ xs) h = ap (λ (y : Y). y ∷ map f xs) h.0 ∙ ap (λ (ys : List Y). g x ∷ ys) (map-agree xs h.1)

pub everywhere : {X : Type 0} (P : X → Type 0) → ((x : X) → P x) → (xs : List X) → AllByRecursion P xs
everywhere P h [] = tt
everywhere P h (x ∷ xs) = (h x, everywhere P h xs)

map-map : {X Y Z : Type 0} (f : X → Y) (g : Y → Z) (xs : List X) → map g (map f xs) ≡ map (λ x. g (f x)) xs
map-map f g [] = refl
map-map f g (x ∷ xs) = ap (λ ys. g (f x) ∷ ys) (map-map f g xs)

module _ (path : Components) where
  none_kept : (b : Bool) (us : List Row) → us ≡ [] → us ≡ cond b us []
  none_kept true us e = refl
  none_kept false us e = e

  one_kept : (b : Bool) (r : Row) (us : List Row) → cond b (r ∷ cond b us []) (cond b us []) ≡ cond b (r ∷ us) []
  one_kept true r us = refl
  one_kept false r us = refl

  entries_kept : (es : List Entry) → list_all (λ (e : Entry). not (is_dir e.rec.meta.kind)) es ≡ true
      → (p : Components) → filter (is_entry_row path) (map (entry_row p) es) ≡ cond (path_eq path p) (map (entry_row p) es) []
  entries_kept [] h p = none_kept (path_eq path p) [] refl
  entries_kept (e ∷ es) h p =
      let both = and_parts (not (is_dir e.rec.meta.kind)) (list_all (λ (v : Entry). not (is_dir v.rec.meta.kind)) es) h in
      rw (both.0, parent_path-child p e.name, entries_kept es both.1 p) (one_kept (path_eq path p) (entry_row p e) (map (entry_row p) es))

  own_kept : (d : Directory) → is_kinded d ≡ true → filter (is_entry_row path) (own_rows d) ≡ cond (path_eq path d.path) (map (entry_row d.path) d.entries) []
  own_kept d h =
      let both = and_parts (is_dir d.rec.meta.kind) (list_all (λ (v : Entry). not (is_dir v.rec.meta.kind)) d.entries) h in
      rw both.0 (entries_kept d.entries both.1 d.path)

  -- no other directory has the path
  others_kept : (ds : List Directory) → list_all is_kinded ds ≡ true → AllByRecursion (λ (k : Directory). path_eq path k.path ≡ false) ds → filter (is_entry_row path) (flat_map own_rows ds) ≡ []
  others_kept [] h none = refl
  others_kept (d ∷ ds) h none =
      let both = and_parts (is_kinded d) (list_all is_kinded ds) h in
      filter-append (is_entry_row path) (own_rows d) (flat_map own_rows ds)
      ∙ ap (λ (us : List Row). us ++ filter (is_entry_row path) (flat_map own_rows ds)) (own_kept d both.0 ∙ ap (λ (b : Bool). cond b (map (entry_row d.path) d.entries) []) none.0)
      ∙ others_kept ds both.1 none.1

dirs_kept : (d : Directory) → is_kinded d ≡ true → filter is_dir_row (own_rows d) ≡ dir_row d ∷ []
dirs_kept d h =
    let both = and_parts (is_dir d.rec.meta.kind) (list_all (λ (v : Entry). not (is_dir v.rec.meta.kind)) d.entries) h in
    rw both.0 (ap (λ (us : List Row). dir_row d ∷ us) (none d.path d.entries both.1)) where
      none : (p : Components) (es : List Entry) → list_all (λ (e : Entry). not (is_dir e.rec.meta.kind)) es ≡ true → filter is_dir_row (map (entry_row p) es) ≡ []
      none p [] h = refl
      none p (e ∷ es) h =
          let both = and_parts (not (is_dir e.rec.meta.kind)) (list_all (λ (v : Entry). not (is_dir v.rec.meta.kind)) es) h in
          rw (not-true (is_dir e.rec.meta.kind) both.0) (none p es both.1)

-- the directories' rows among all rows
pub dir_rows_of : (tree : List Directory) → list_all is_kinded tree ≡ true → filter is_dir_row (flat_map own_rows tree) ≡ map dir_row tree
dir_rows_of [] h = refl
dir_rows_of (d ∷ ds) h =
    let both = and_parts (is_kinded d) (list_all is_kinded ds) h in
    filter-append is_dir_row (own_rows d) (flat_map own_rows ds)
    ∙ ap (λ (us : List Row). us ++ filter is_dir_row (flat_map own_rows ds)) (dirs_kept d both.0)
    ∙ ap (λ (us : List Row). dir_row d ∷ us) (dir_rows_of ds both.1)

-- x is in the list
abbrev pub Has : {X : Type 0} → List X → X → Type 0
Has [] x = ⊥
Has (y ∷ ys) x = (y ≡ x) ⊎ Has ys x

pub All-Has : {X : Type 0} (P : X → Type 0) (xs : List X) (x : X) → AllByRecursion P xs → Has xs x → P x
All-Has P [] x h k = absurd k
All-Has P (y ∷ ys) x h (inl k) = subst P k h.0
All-Has P (y ∷ ys) x h (inr k) = All-Has P ys x h.1 k

pub All-from_Has : {X : Type 0} (P : X → Type 0) (xs : List X) → ((x : X) → Has xs x → P x) → AllByRecursion P xs
All-from_Has P [] h = tt
All-from_Has P (y ∷ ys) h = (h y (inl refl), All-from_Has P ys (λ x k. h x (inr k)))

pub All-weaken : {X : Type 0} (P Q : X → Type 0) → ((x : X) → P x → Q x) → (xs : List X) → AllByRecursion P xs → AllByRecursion Q xs
All-weaken P Q f [] h = tt
All-weaken P Q f (x ∷ xs) h = (f x h.0, All-weaken P Q f xs h.1)

-- paths in order differ
pub path_eq-less : (p q : Components) → path_cmp p q ≡ Less → path_eq p q ≡ false
path_eq-less p q e = false_from_ne_true _ (λ h.
    let same : p ≡ q = (path_eq-Decides p q).0 h in
    let no : Less ≡ Equal = sym e ∙ ap (path_cmp p) (sym same) ∙ tied_itself path_cmp-total p in
    cc)

pub path_eq-more : (p q : Components) → path_cmp q p ≡ Less → path_eq p q ≡ false
path_eq-more p q e = false_from_ne_true _ (λ h.
    let same : p ≡ q = (path_eq-Decides p q).0 h in
    let no : Less ≡ Equal = sym e ∙ ap (path_cmp q) same ∙ tied_itself path_cmp-total q in
    cc)

-- the entries of a directory among all rows
pub entry_rows_of : (tree : List Directory) (d : Directory) → list_all is_kinded tree ≡ true → ascends dir_cmp tree ≡ true → Has tree d
    → filter (is_entry_row d.path) (flat_map own_rows tree) ≡ map (entry_row d.path) d.entries
entry_rows_of [] d h up k = absurd k
entry_rows_of (c ∷ ds) d h up (inl k) =
    let both = and_parts (is_kinded c) (list_all is_kinded ds) h in
    let P : Directory → Type 0 = λ v. filter (is_entry_row v.path) (flat_map own_rows (c ∷ ds)) ≡ map (entry_row v.path) v.entries in
    subst P k
    (filter-append (is_entry_row c.path) (own_rows c) (flat_map own_rows ds)
    ∙ ap (λ (us : List Row). us ++ filter (is_entry_row c.path) (flat_map own_rows ds)) (own_kept c.path c both.0 ∙ ap (λ (b : Bool). cond b (map (entry_row c.path) c.entries) []) (path_eq-refl c.path))
    ∙ ap (λ (us : List Row). map (entry_row c.path) c.entries ++ us)
    (others_kept c.path ds both.1 (All-weaken (λ (v : Directory). dir_cmp c v ≡ Less) (λ (v : Directory). path_eq c.path v.path ≡ false) (λ v e. path_eq-less c.path v.path e) ds (below_all dir_cmp dir_cmp-total c ds up)))
    ∙ append-nil (map (entry_row c.path) c.entries))
entry_rows_of (c ∷ ds) d h up (inr k) =
    let both = and_parts (is_kinded c) (list_all is_kinded ds) h in
    let below : dir_cmp c d ≡ Less = All-Has (λ (v : Directory). dir_cmp c v ≡ Less) ds d (below_all dir_cmp dir_cmp-total c ds up) k in
    filter-append (is_entry_row d.path) (own_rows c) (flat_map own_rows ds)
    ∙ ap (λ (us : List Row). us ++ filter (is_entry_row d.path) (flat_map own_rows ds)) (own_kept d.path c both.0 ∙ ap (λ (b : Bool). cond b (map (entry_row c.path) c.entries) []) (path_eq-more d.path c.path below))
    ∙ entry_rows_of ds d both.1 (ascends-tail dir_cmp dir_cmp-total c ds up) k

entries_back : (p : Components) (es : List Entry) → map entry_of_row (map (entry_row p) es) ≡ es
entries_back p [] = refl
entries_back p (e ∷ es) =
    ap (λ (name : List ℕ). record { name = name; rec = e.rec } ∷ map entry_of_row (map (entry_row p) es)) (base_name-child p e.name) ∙ ap (λ (vs : List Entry). e ∷ vs) (entries_back p es)

module _ (lines : List Line) (tree : List Directory) (rows : IsPermutation (map row_of_line lines) (flat_map own_rows tree)) (kinds : list_all is_kinded tree ≡ true) (up : ascends dir_cmp tree ≡ true)
    (sorted : AllByRecursion (λ (d : Directory). ascends entry_cmp d.entries ≡ true) tree) where
  own_entries : (d : Directory) → Has tree d → sort_by entry_cmp (map entry_of_row (filter (is_entry_row d.path) (map row_of_line lines))) ≡ d.entries
  own_entries d k =
      let moved = IsPermutation-map entry_of_row (filter (is_entry_row d.path) (map row_of_line lines)) (filter (is_entry_row d.path) (flat_map own_rows tree))
      (IsPermutation-filter (is_entry_row d.path) (map row_of_line lines) (flat_map own_rows tree) rows) in
      let same : map entry_of_row (filter (is_entry_row d.path) (flat_map own_rows tree)) ≡ d.entries =
      ap (map entry_of_row) (entry_rows_of tree d kinds up k) ∙ entries_back d.path d.entries in
      sort_by-to entry_cmp entry_cmp-total (map entry_of_row (filter (is_entry_row d.path) (map row_of_line lines))) d.entries
      (subst (λ (es : List Entry). IsPermutation (map entry_of_row (filter (is_entry_row d.path) (map row_of_line lines))) es) same moved)
      (All-Has (λ (v : Directory). ascends entry_cmp v.entries ≡ true) tree d sorted k)

  line_directory : (line : Line) → directory_of_line lines line ≡ directory_of_row (map row_of_line lines) (row_of_line line)
  line_directory line =
      ap (λ (es : List Entry). record { path = line.path; rec = line.rec; entries = sort_by entry_cmp es }) (map-filter-map row_of_line (is_entry_row line.path) entry_of_row lines)

  -- a list of directories that ascends and has the rows of the lines is that of the lines
  pub directories_are : directories_of_lines lines ≡ tree
  directories_are =
      let all = map row_of_line lines in
      let f : Row → Directory = directory_of_row all in
      let first : map (directory_of_line lines) (filter is_dir_line lines) ≡ map f (filter is_dir_row all) =
      map-agree (directory_of_line lines) (λ (line : Line). f (row_of_line line)) (filter is_dir_line lines) (everywhere (λ (line : Line). directory_of_line lines line ≡ f (row_of_line line)) line_directory (filter is_dir_line lines))
      ∙ map-filter-map row_of_line is_dir_row f lines in
      let moved : IsPermutation (filter is_dir_row all) (map dir_row tree) =
      subst (λ (us : List Row). IsPermutation (filter is_dir_row all) us) (dir_rows_of tree kinds) (IsPermutation-filter is_dir_row all (flat_map own_rows tree) rows) in
      let back : map f (map dir_row tree) ≡ tree =
      map-map dir_row f tree ∙ map-agree (λ (d : Directory). f (dir_row d)) (λ (d : Directory). d) tree
      (All-from_Has (λ (d : Directory). f (dir_row d) ≡ d) tree (λ d k. ap (λ (es : List Entry). record { path = d.path; rec = d.rec; entries = es }) (own_entries d k))) ∙ map-id tree in
      let perm : IsPermutation (map f (filter is_dir_row all)) tree =
      subst (λ (ds : List Directory). IsPermutation (map f (filter is_dir_row all)) ds) back (IsPermutation-map f (filter is_dir_row all) (map dir_row tree) moved) in
      ap (sort_by dir_cmp) first ∙ sort_by-to dir_cmp dir_cmp-total (map f (filter is_dir_row all)) tree perm up
