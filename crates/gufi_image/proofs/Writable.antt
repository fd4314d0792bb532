-- What can be written is read: each directory of such a tree behind those before it.
use Rattle.std.proofs.Common.{◌≡◌, ℕ, zero, suc, ◌+◌, ◌<◌, ◌≤◌, Bool, true, false, not, ◌&&◌, ◌||◌, cond, ltb, List, [], ◌∷◌, ◌++◌, length, map, get_or, Some, refl, sym, ap, subst, ◌∙◌, arith, append_assoc, inl, inr, ◌⊎◌, ⊎_elim}
use Rattle.std.specs.Prelude.{bytes_eq, slice_get}
use Rattle.std.specs.Ordering.{is_lt}
use Rattle.std.specs.declared.cmp.Ordering.{Ordering}
use Rattle.std.specs.declared.cmp.Ordering.TheVariants.{Less, Equal, Greater}
use Rattle.std.specs.List.{Any, list_all, flat_map}
use Rattle.std.proofs.lemmas.Bool.{and_parts, and_from, or_parts, ltb-false, false≢true, cases_lt, cases_order}
use Rattle.std.proofs.lemmas.Cmp.{tied_itself}
use Rattle.std.proofs.lemmas.List.{length-append, get_or_append_left}
use Rattle.std.proofs.lemmas.List.Folds.{list_all-append, Any-from_list_any}
use Rattle.std.proofs.lemmas.List.Sums.{sum_by-append, sum_by-cons}
use Rattle.std.proofs.lemmas.Option.{slice_get-get_or}
use Rattle.std.proofs.lemmas.Slice.Eq.{bytes_eq-Decides}
use Rattle.std.proofs.Math.Seq.{get_or-append_seam}
use Rattle.gufi_base.specs.declared.record.Kind.{Kind}
use Rattle.gufi_base.specs.declared.record.Kind.TheVariants.{Block, Char, Dir, Link, Fifo, File, Socket}
use Rattle.gufi_base.specs.declared.record.Row.{Row}
use Rattle.gufi_base.specs.Basics.{last_of, ascends}
use Rattle.gufi_base.specs.Limits.{max_dirs, max_entries}
use Rattle.gufi_base.specs.Names.{is_name}
use Rattle.gufi_base.specs.Kinds.{is_dir}
use Rattle.gufi_base.specs.Paths.{Components, path_cmp, parent_path, is_too_long}
use Rattle.gufi_base.specs.Rows.{are_bytes, fits_types, row_fits_types}
use Rattle.gufi_base.proofs.Cuts.{all_but_last_and_last}
use Rattle.gufi_tree.specs.declared.tree.Entry.{Entry}
use Rattle.gufi_tree.specs.Tree.{Directory, dir_cmp, entry_cmp, entry_count, has_dir, has_entry_named, is_at, is_entry_of, is_directory_of, is_tree, own_rows, dir_row, entry_row, is_well_formed}
use Rattle.gufi_tree.proofs.Built.{path_eq-Decides, path_cmp-total, dir_cmp-total}
use Rattle.gufi_tree.proofs.Linked.{root_first}
use Rattle.gufi_image.specs.declared.width.Width.{Width}
use Rattle.gufi_image.specs.Entries as entries
use Rattle.gufi_image.specs.declared.width.Width.TheVariants.{Narrow, Named, Guarded}
use Rattle.gufi_image.specs.Widths.{has_names, has_acls, record_needs, entries_need, directory_needs, tree_needs, width_of}
use Rattle.gufi_image.specs.Placed.{IsChild}
use Rattle.gufi_image.specs.Laws.{IsWritable}
use Rattle.gufi_image.proofs.Fronts.{cond_parts, path_more, any_there, not_true}
use Rattle.gufi_image.proofs.Searches.{in_order, all_there, false_from, some_same}
use Rattle.gufi_image.proofs.RecordsBack.{IsRecord, fits_width, record_parts}
use Rattle.gufi_image.proofs.EntriesBack.{IsNextEntry, AreNextEntries}
use Rattle.gufi_image.proofs.PathsBack.{IsSound, IsNextPath}
use Rattle.gufi_image.proofs.FrontsBack.{AreNextDirectories}
use Rattle.gufi_image.proofs.ImageBack.{AreAll}

-- an element of a list in order is above the last one before it
pub above_last : {X : Type 0} (cmp : X → X → Ordering) (first : X) (xs : List X) (x : X) (ys : List X) → ascends cmp ((first ∷ xs) ++ x ∷ ys) ≡ true → is_lt (cmp (last_of first xs) x) ≡ true
above_last cmp first [] x ys up = (cond_parts (is_lt (cmp first x)) (ascends cmp (x ∷ ys)) up).0
above_last cmp first (y ∷ xs) x ys up = above_last cmp y xs x ys (cond_parts (is_lt (cmp first y)) (ascends cmp (y ∷ (xs ++ x ∷ ys))) up).1

-- a path whose text is no longer than a path's may be
abbrev pub is_short : Row → Bool
is_short row = not (is_too_long row.path)

-- the entries of a directory of the tree
next_entry : (width : Width) (tree : List Directory) (path : Components) (before : List Entry) (entry : Entry) → entries.follows before entry.name ≡ true → is_entry_of tree path entry ≡ true → row_fits_types (entry_row path entry) ≡ true → is_short (entry_row path entry) ≡ true → fits_width width entry.rec ≡ true
    → IsNextEntry width path before entry
next_entry width tree path before entry above own fits short fitting =
    let apart = and_parts (not (is_dir entry.rec.meta.kind) && is_well_formed entry.rec && is_name entry.name) (not (has_dir tree (path ++ entry.name ∷ []))) own in
    let named = and_parts (not (is_dir entry.rec.meta.kind) && is_well_formed entry.rec) (is_name entry.name) apart.0 in
    let sound = and_parts (not (is_dir entry.rec.meta.kind)) (is_well_formed entry.rec) named.0 in
    let types = and_parts (list_all are_bytes (path ++ entry.name ∷ [])) (fits_types entry.rec) fits in
    let bytes = and_parts (list_all are_bytes path) (list_all are_bytes (entry.name ∷ [])) (sym (list_all-append are_bytes path (entry.name ∷ [])) ∙ types.0) in
    record {
      apart = not_true (is_dir entry.rec.meta.kind) sound.0;
      below = record { named = named.1; short = not_true (is_too_long (path ++ entry.name ∷ [])) short; bytes = (and_parts (are_bytes entry.name) true bytes.1).0 };
      above = above;
      rec = record_parts width entry.rec sound.1 types.1 fitting;
    }

next_entries : (width : Width) (tree : List Directory) (path : Components) (before es : List Entry) → ascends entry_cmp (before ++ es) ≡ true → list_all (is_entry_of tree path) es ≡ true → list_all row_fits_types (map (entry_row path) es) ≡ true → list_all is_short (map (entry_row path) es) ≡ true → list_all (λ (e : Entry). fits_width width e.rec) es ≡ true
    → AreNextEntries width path before es
next_entries width tree path before [] up own fits short fitting = tt
next_entries width tree path before (e ∷ es) up own fits short fitting =
    let o = and_parts (is_entry_of tree path e) (list_all (is_entry_of tree path) es) own in
    let f = and_parts (row_fits_types (entry_row path e)) (list_all row_fits_types (map (entry_row path) es)) fits in
    let s = and_parts (is_short (entry_row path e)) (list_all is_short (map (entry_row path) es)) short in
    let w = and_parts (fits_width width e.rec) (list_all (λ (v : Entry). fits_width width v.rec) es) fitting in
    (next_entry width tree path before e (above before up) o.0 f.0 s.0 w.0, next_entries width tree path (before ++ e ∷ []) es (ap (ascends entry_cmp) (append_assoc before (e ∷ []) es) ∙ up) o.1 f.1 s.1 w.1) where
      above : (bs : List Entry) → ascends entry_cmp (bs ++ e ∷ es) ≡ true → entries.follows bs e.name ≡ true
      above [] h = refl
      above (b ∷ bs) h = above_last entry_cmp b bs e es h

-- the rows of one directory
own_parts : (q : Row → Bool) (x : Directory) (tree : List Directory) → list_all q (flat_map own_rows (x ∷ tree)) ≡ true → (list_all q (own_rows x) ≡ true) × (list_all q (flat_map own_rows tree) ≡ true)
own_parts q x tree all = and_parts (list_all q (own_rows x)) (list_all q (flat_map own_rows tree)) (sym (list_all-append q (own_rows x) (flat_map own_rows tree)) ∙ all)

own_all : (q : Row → Bool) (tree : List Directory) (i : ℕ) (d : Directory) → list_all q (flat_map own_rows tree) ≡ true → slice_get tree i ≡ Some d → list_all q (own_rows d) ≡ true
own_all q [] i d all there = absurd cc
own_all q (x ∷ tree) zero d all there =
    let same : x ≡ d = some_same x d there in
    subst (λ (v : Directory). list_all q (own_rows v) ≡ true) same (own_parts q x tree all).0
own_all q (x ∷ tree) (suc i) d all there = own_all q tree i d (own_parts q x tree all).1 there

-- What is known of each directory of such a tree.
record IsOwn (width : Width) (tree : List Directory) (d : Directory) : Type 0 where
  pub sound : IsSound d.path
  pub parent : has_dir tree (parent_path d.path) ≡ true
  pub rec : IsRecord width Dir d.rec
  pub each : list_all (is_entry_of tree d.path) d.entries ≡ true
  pub entries : AreNextEntries width d.path [] d.entries

-- A directory that has nothing which only a greater width holds.
abbrev dir_fits : Width → Directory → Bool
dir_fits width d = (has_names width || not (directory_needs Named d)) && (has_acls width || not (directory_needs Guarded d))

-- Its records are such records.
held_in : (held : Bool) (need : Width) (d : Directory) → (held || not (directory_needs need d)) ≡ true → ((held || not (record_needs need d.rec)) ≡ true) × (list_all (λ (e : Entry). held || not (record_needs need e.rec)) d.entries ≡ true)
held_in true need d h = (refl, all d.entries) where
  all : (es : List Entry) → list_all (λ (e : Entry). true || not (record_needs need e.rec)) es ≡ true
  all [] = refl
  all (e ∷ es) = all es
held_in false need d h = let none = or_parts (record_needs need d.rec) (entries_need need d.entries) (not_true _ h) in (ap not none.0, all d.entries none.1) where
  all : (es : List Entry) → entries_need need es ≡ false → list_all (λ (e : Entry). false || not (record_needs need e.rec)) es ≡ true
  all [] none = refl
  all (e ∷ es) none = let both = or_parts (record_needs need e.rec) (entries_need need es) none in and_from _ _ (ap not both.0) (all es both.1)

both_all : (q r : Entry → Bool) (es : List Entry) → list_all q es ≡ true → list_all r es ≡ true → list_all (λ (e : Entry). q e && r e) es ≡ true
both_all q r [] h k = refl
both_all q r (e ∷ es) h k =
    let p = and_parts (q e) (list_all q es) h in
    let s = and_parts (r e) (list_all r es) k in
    and_from _ _ (and_from (q e) (r e) p.0 s.0) (both_all q r es p.1 s.1)

records_fit : (width : Width) (d : Directory) → dir_fits width d ≡ true → (fits_width width d.rec ≡ true) × (list_all (λ (e : Entry). fits_width width e.rec) d.entries ≡ true)
records_fit width d h =
    let both = and_parts (has_names width || not (directory_needs Named d)) (has_acls width || not (directory_needs Guarded d)) h in
    let names = held_in (has_names width) Named d both.0 in
    let acls = held_in (has_acls width) Guarded d both.1 in (
      and_from _ _ names.0 acls.0,
      both_all (λ (e : Entry). has_names width || not (record_needs Named e.rec)) (λ (e : Entry). has_acls width || not (record_needs Guarded e.rec)) d.entries names.1 acls.1,
    )

-- The least width holds all directories of the tree.
all_fit : (tree : List Directory) (i : ℕ) (d : Directory) → slice_get tree i ≡ Some d → dir_fits (width_of tree) d ≡ true
all_fit tree i d there = by (tree_needs Guarded tree) (tree_needs Named tree) refl refl where
  none : (need : Width) → tree_needs need tree ≡ false → not (directory_needs need d) ≡ true
  none need e = ap not (false_from (directory_needs need d) (λ needed. absurd (false≢true (sym e ∙ any_there (directory_needs need) tree i d there needed))))

  by : (acls names : Bool) → tree_needs Guarded tree ≡ acls → tree_needs Named tree ≡ names → dir_fits (cond acls Guarded (cond names Named Narrow)) d ≡ true
  by true names guarded named = refl
  by false true guarded named = none Guarded guarded
  by false false guarded named = and_from _ _ (none Named named) (none Guarded guarded)

dir_only : (kind : Kind) → is_dir kind ≡ true → kind ≡ Dir
dir_only Block h = absurd cc
dir_only Char h = absurd cc
dir_only Dir h = refl
dir_only Link h = absurd cc
dir_only Fifo h = absurd cc
dir_only File h = absurd cc
dir_only Socket h = absurd cc

own_directory : (width : Width) (tree : List Directory) (d : Directory) → is_directory_of tree d ≡ true → list_all row_fits_types (own_rows d) ≡ true → list_all is_short (own_rows d) ≡ true → dir_fits width d ≡ true → IsOwn width tree d
own_directory width tree d own fits short fitting =
    let w = records_fit width d fitting in
    let each = and_parts (is_dir d.rec.meta.kind && is_well_formed d.rec && list_all is_name d.path && has_dir tree (parent_path d.path) && ascends entry_cmp d.entries) (list_all (is_entry_of tree d.path) d.entries) own in
    let up = and_parts (is_dir d.rec.meta.kind && is_well_formed d.rec && list_all is_name d.path && has_dir tree (parent_path d.path)) (ascends entry_cmp d.entries) each.0 in
    let parent = and_parts (is_dir d.rec.meta.kind && is_well_formed d.rec && list_all is_name d.path) (has_dir tree (parent_path d.path)) up.0 in
    let named = and_parts (is_dir d.rec.meta.kind && is_well_formed d.rec) (list_all is_name d.path) parent.0 in
    let kind = and_parts (is_dir d.rec.meta.kind) (is_well_formed d.rec) named.0 in
    let f = and_parts (row_fits_types (dir_row d)) (list_all row_fits_types (map (entry_row d.path) d.entries)) fits in
    let s = and_parts (is_short (dir_row d)) (list_all is_short (map (entry_row d.path) d.entries)) short in
    let types = and_parts (list_all are_bytes d.path) (fits_types d.rec) f.0 in
    record {
      sound = record { named = named.1; bytes = types.0; short = not_true (is_too_long d.path) s.0 };
      parent = parent.1;
      rec = subst (λ (k : Kind). IsRecord width k d.rec) (dir_only d.rec.meta.kind kind.0) (record_parts width d.rec kind.1 types.1 w.0);
      each = each.1;
      entries = next_entries width tree d.path [] d.entries up.1 each.1 f.1 s.1 w.1;
    }

-- the parent of a directory stands before it
not_least : (p : Components) → path_cmp p [] ≡ Less → ⊥
not_least [] h = let clash : Equal ≡ Less = h in absurd cc
not_least (n ∷ p) h = let clash : Greater ≡ Less = h in absurd cc

last_split : (p : Components) → (p ≡ [] → ⊥) → p ≡ parent_path p ++ last_of [] p ∷ []
last_split [] some = absurd (some refl)
last_split (n ∷ p) some = sym (all_but_last_and_last [] n p)

-- What is above a directory in path order stands before it.
stands_before : (before : List Directory) (d : Directory) (more : List Directory) (i : ℕ) (x : Directory) → ascends dir_cmp (before ++ d ∷ more) ≡ true → i < length (before ++ d ∷ more) → get_or (before ++ d ∷ more) i x ≡ x
    → path_cmp d.path x.path ≡ Greater → i < length before
stands_before before d more i x up within there greater = ⊎_elim (λ (lt : i < length before). lt) (λ (le : length before ≤ i). absurd (by le (cases_order (length before) i))) (cases_lt i (length before)) where
  tree : List Directory
  tree = before ++ d ∷ more

  here : get_or (before ++ d ∷ more) (length before) x ≡ d
  here = get_or-append_seam before d more x

  by : length before ≤ i → (length before ≡ i) ⊎ ((length before < i) ⊎ (i < length before)) → ⊥
  by le (inl same) =
      let own : d ≡ x = sym here ∙ ap (λ k. get_or (before ++ d ∷ more) k x) same ∙ there in
      let clash : Equal ≡ Greater = sym (tied_itself path_cmp-total d.path) ∙ ap (λ (v : Directory). path_cmp d.path v.path) own ∙ greater in
      absurd cc
  by le (inr (inl lt)) =
      let less : path_cmp (get_or (before ++ d ∷ more) (length before) x).path (get_or (before ++ d ∷ more) i x).path ≡ Less = in_order dir_cmp dir_cmp-total (before ++ d ∷ more) up (length before) i x lt within in
      let own : path_cmp d.path x.path ≡ Less = ap (λ (v : Directory). path_cmp v.path x.path) (sym here) ∙ ap (λ (v : Directory). path_cmp (get_or (before ++ d ∷ more) (length before) x).path v.path) (sym there) ∙ less in
      let clash : Less ≡ Greater = sym own ∙ greater in
      absurd cc
  by le (inr (inr lt)) = omega arith

not_first : (first : Directory) (bs : List Directory) (d : Directory) (more : List Directory) → ascends dir_cmp ((first ∷ bs) ++ d ∷ more) ≡ true → d.path ≡ [] → ⊥
not_first first bs d more up root =
    let all = (first ∷ bs) ++ d ∷ more in
    let len : length all ≡ length (first ∷ bs) + suc (length more) = length-append (first ∷ bs) (d ∷ more) in
    let less : path_cmp first.path (get_or all (length (first ∷ bs)) first).path ≡ Less = in_order dir_cmp dir_cmp-total all up 0 (length (first ∷ bs)) first (omega arith) (omega (arith, len)) in
    not_least first.path (ap (path_cmp first.path) (sym root) ∙ ap (λ (v : Directory). path_cmp first.path v.path) (sym (get_or-append_seam (first ∷ bs) d more first)) ∙ less)

-- Its entries have other names than the directories in it.
free_name : (tree : List Directory) (parent : Directory) (name : List ℕ) → list_all (is_entry_of tree parent.path) parent.entries ≡ true → has_dir tree (parent.path ++ name ∷ []) ≡ true → has_entry_named name parent ≡ false
free_name tree parent name each there = false_from (has_entry_named name parent) (λ taken. by (Any-from_list_any (λ (e : Entry). bytes_eq name e.name) parent.entries taken)) where
  by : Any (λ (e : Entry). bytes_eq name e.name ≡ true) parent.entries → ⊥
  by w =
      let e = w.1 in
      let same : name ≡ e.name = (bytes_eq-Decides name e.name).0 w.4 in
      let within : slice_get parent.entries w.0 ≡ Some e = slice_get-get_or parent.entries w.0 e w.2 ∙ ap Some w.3 in
      let own = all_there (is_entry_of tree parent.path) parent.entries w.0 e each within in
      let apart = and_parts (not (is_dir e.rec.meta.kind) && is_well_formed e.rec && is_name e.name) (not (has_dir tree (parent.path ++ e.name ∷ []))) own in
      let clash : true ≡ false = sym there ∙ ap (λ (n : List ℕ). has_dir tree (parent.path ++ n ∷ [])) same ∙ not_true _ apart.1 in
      absurd cc

there_itself : (before : List Directory) (d : Directory) (more : List Directory) → slice_get (before ++ d ∷ more) (length before) ≡ Some d
there_itself [] d more = refl
there_itself (x ∷ before) d more = there_itself before d more

child : (width : Width) (first : Directory) (bs : List Directory) (d : Directory) (more : List Directory) → ascends dir_cmp ((first ∷ bs) ++ d ∷ more) ≡ true
    → ((i : ℕ) (x : Directory) → slice_get ((first ∷ bs) ++ d ∷ more) i ≡ Some x → IsOwn width ((first ∷ bs) ++ d ∷ more) x) → IsChild (first ∷ bs) d.path
child width first bs d more up each =
    let dirs = first ∷ bs in
    let all = (first ∷ bs) ++ d ∷ more in
    let itself = there_itself (first ∷ bs) d more in
    let own = each (length (first ∷ bs)) d itself in
    let w = Any-from_list_any (is_at (parent_path d.path)) all own.parent in
    let place = w.0 in
    let parent = w.1 in
    let name = last_of [] d.path in
    let same : parent_path d.path ≡ parent.path = (path_eq-Decides (parent_path d.path) parent.path).0 w.4 in
    let split : d.path ≡ parent.path ++ name ∷ [] = last_split d.path (not_first first bs d more up) ∙ ap (λ (p : Components). p ++ name ∷ []) same in
    let greater : path_cmp d.path parent.path ≡ Greater = ap (λ (p : Components). path_cmp p parent.path) split ∙ path_more parent.path name in
    let lower = stands_before (first ∷ bs) d more place parent up w.2 w.3 greater in
    let there : slice_get (first ∷ bs) place ≡ Some parent = slice_get-get_or (first ∷ bs) place parent lower ∙ ap Some (sym (get_or_append_left (first ∷ bs) (d ∷ more) parent place lower) ∙ w.3) in
    let whole : slice_get all place ≡ Some parent = slice_get-get_or all place parent w.2 ∙ ap Some w.3 in
    let found : has_dir all (parent.path ++ name ∷ []) ≡ true = any_there (is_at (parent.path ++ name ∷ [])) all (length (first ∷ bs)) d itself ((path_eq-Decides (parent.path ++ name ∷ []) d.path).1 (sym split)) in
    record {
      parent = parent;
      number = place;
      there = there;
      below = record { name = name; is = split; free = free_name all parent name (each place parent whole).each found };
      above = above_last dir_cmp first bs d more up;
    }

next_path : (width : Width) (before : List Directory) (d : Directory) (more : List Directory) → has_dir (before ++ d ∷ more) [] ≡ true → ascends dir_cmp (before ++ d ∷ more) ≡ true
    → ((i : ℕ) (x : Directory) → slice_get (before ++ d ∷ more) i ≡ Some x → IsOwn width (before ++ d ∷ more) x) → IsNextPath before d.path
next_path width [] d more root up each = root_first (d ∷ more) up root
next_path width (first ∷ bs) d more root up each = record { child = child width first bs d more up each; sound = (each (length (first ∷ bs)) d (there_itself (first ∷ bs) d more)).sound }

next_directories : (width : Width) (tree before ds : List Directory) → tree ≡ before ++ ds → has_dir tree [] ≡ true → ascends dir_cmp tree ≡ true → ((i : ℕ) (x : Directory) → slice_get tree i ≡ Some x → IsOwn width tree x)
    → AreNextDirectories width (entry_count tree) before ds
next_directories width tree before [] whole root up each = tt
next_directories width tree before (d ∷ more) whole root up each =
    let all = before ++ d ∷ more in
    let own = each (length before) d (ap (λ (ds : List Directory). slice_get ds (length before)) whole ∙ there_itself before d more) in
    let count : entry_count tree ≡ entry_count before + entry_count (d ∷ more) = ap (λ (ds : List Directory). entry_count ds) whole ∙ sum_by-append (λ (v : Directory). length v.entries) before (d ∷ more) in
    let one = sum_by-cons (λ (v : Directory). length v.entries) d more in (
      record {
        path = next_path width before d more (ap (λ (ds : List Directory). has_dir ds []) (sym whole) ∙ root) (ap (ascends dir_cmp) (sym whole) ∙ up) (subst (λ (ds : List Directory). (i : ℕ) (x : Directory) → slice_get ds i ≡ Some x → IsOwn width ds x) whole each);
        rec = own.rec;
        few = omega (arith, count, one);
        entries = own.entries;
      },
      next_directories width tree (before ++ d ∷ []) more (whole ∙ sym (append_assoc before (d ∷ []) more)) root up each,
    )

-- what is written is read
some_there : (tree : List Directory) → has_dir tree [] ≡ true → 0 < length tree
some_there [] h = absurd (false≢true h)
some_there (d ∷ tree) h = omega arith

pub all_written : (tree : List Directory) (limit : ℕ) → IsWritable tree limit → AreAll tree limit
all_written tree limit h =
    let rows = flat_map own_rows tree in
    let p = and_parts (is_tree tree) (list_all row_fits_types rows) h.sound in
    let t = and_parts (has_dir tree [] && ascends dir_cmp tree) (list_all (is_directory_of tree) tree) p.0 in
    let front = and_parts (has_dir tree []) (ascends dir_cmp tree) t.0 in
    let few = or_parts (ltb max_dirs (length tree)) (ltb max_entries (entry_count tree)) (not_true _ h.few) in
    record {
      limit_fits = h.fits;
      some = some_there tree front.0;
      few = ltb-false max_dirs (length tree) few.0;
      entries = ltb-false max_entries (entry_count tree) few.1;
      order = front.1;
      next = next_directories (width_of tree) tree [] tree refl front.0 front.1 (λ i x there. own_directory (width_of tree) tree x (all_there (is_directory_of tree) tree i x t.1 there) (own_all row_fits_types tree i x p.1 there) (own_all is_short tree i x h.short there) (all_fit tree i x there));
    }
