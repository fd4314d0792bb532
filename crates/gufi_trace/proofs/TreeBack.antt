-- The rows of a tree: no two have one path, each has its parent, and the root's is the first.
use Rattle.std.proofs.Common.{◌≡◌, ℕ, ◌+◌, ◌≤◌, Bool, true, false, not, ◌&&◌, cond, Ok, List, [], ◌∷◌, ◌++◌, map, refl, sym, ap, subst, ◌∙◌, arith, inl, inr, ⊎_elim}
use Rattle.std.specs.declared.cmp.Ordering.{Ordering}
use Rattle.std.specs.declared.cmp.Ordering.TheVariants.{Less, Equal, Greater}
use Rattle.std.specs.Ordering.{is_eq}
use Rattle.std.specs.List.{AllByRecursion, list_all, flat_map}
use Rattle.std.specs.List.Sorted.{IsPermutation}
use Rattle.std.proofs.lemmas.Bool.{and_parts, and_from, or_cases, or_parts, or_left, or_right, not-true, not_from_false, cases_Bool, false≢true, true≢false, both_ways, false_from_ne_true}
use Rattle.std.proofs.lemmas.List.Folds.{list_all-append, list_all-map}
use Rattle.std.proofs.lemmas.List.Sorted.{IsPermutation-refl}
use Rattle.gufi_base.specs.declared.record.Line.{Line}
use Rattle.gufi_base.specs.declared.record.Row.{Row}
use Rattle.gufi_base.specs.Basics.{is_empty, ascends}
use Rattle.gufi_base.specs.Names.{is_name}
use Rattle.gufi_base.specs.Kinds.{is_dir}
use Rattle.gufi_base.specs.Rows.{row_cmp}
use Rattle.gufi_base.specs.Paths.{Components, path_cmp, path_eq, parent_path}
use Rattle.gufi_base.proofs.SortedOnce.{times, Once, Once-from_ascends, below_all, ascends-tail}
use Rattle.gufi_tree.specs.declared.tree.Entry.{Entry}
use Rattle.gufi_tree.specs.Tree.{Directory, has_dir, dir_cmp, entry_cmp, entry_row, own_rows, is_well_formed, is_entry_of, is_directory_of, is_tree}
use Rattle.gufi_tree.specs.Build.{is_dir_line, is_orphan, tree_of}
use Rattle.gufi_tree.specs.Tree.{is_kinded}
use Rattle.gufi_tree.specs.Gathered.{row_of_line}
use Rattle.gufi_tree.proofs.Built.{path_eq-Decides, path_eq-refl, parent_path-child, dir_cmp-total, entry_cmp-total, Has, directories_are}
use Rattle.gufi_tree.proofs.Faultless.{exact_paths, is_eq-path_cmp, path_cmp-child, IsFaultless, alike, none_from_faultless}
use Rattle.gufi_tree.proofs.Placed.{list_all-agree, list_all-Has, list_all-from_Has, times-append, is_orphan_row, names_dir-tree}
use Rattle.gufi_trace.proofs.RowsBack.{some_path}

-- what a directory of a tree is
pub record DirectoryParts (tree : List Directory) (d : Directory) : Type 0 where
  pub kind : is_dir d.rec.meta.kind ≡ true
  pub sound : is_well_formed d.rec ≡ true
  pub named : list_all is_name d.path ≡ true
  pub parent : has_dir tree (parent_path d.path) ≡ true
  pub ascends : ascends entry_cmp d.entries ≡ true
  pub entries : list_all (is_entry_of tree d.path) d.entries ≡ true

pub directory_parts : (tree : List Directory) (d : Directory) → is_directory_of tree d ≡ true → DirectoryParts tree d
directory_parts tree d h =
    let entries = and_parts (is_dir d.rec.meta.kind && is_well_formed d.rec && list_all is_name d.path && has_dir tree (parent_path d.path) && ascends entry_cmp d.entries) (list_all (is_entry_of tree d.path) d.entries) h in
    let up = and_parts (is_dir d.rec.meta.kind && is_well_formed d.rec && list_all is_name d.path && has_dir tree (parent_path d.path)) (ascends entry_cmp d.entries) entries.0 in
    let parent = and_parts (is_dir d.rec.meta.kind && is_well_formed d.rec && list_all is_name d.path) (has_dir tree (parent_path d.path)) up.0 in
    let named = and_parts (is_dir d.rec.meta.kind && is_well_formed d.rec) (list_all is_name d.path) parent.0 in
    let sound = and_parts (is_dir d.rec.meta.kind) (is_well_formed d.rec) named.0 in
    record { kind = sound.0; sound = sound.1; named = named.1; parent = parent.1; ascends = up.1; entries = entries.1 }

pub record EntryParts (tree : List Directory) (p : Components) (e : Entry) : Type 0 where
  pub kind : is_dir e.rec.meta.kind ≡ false
  pub sound : is_well_formed e.rec ≡ true
  pub named : is_name e.name ≡ true
  pub alone : has_dir tree (p ++ e.name ∷ []) ≡ false

pub entry_parts : (tree : List Directory) (p : Components) (e : Entry) → is_entry_of tree p e ≡ true → EntryParts tree p e
entry_parts tree p e h =
    let alone = and_parts (not (is_dir e.rec.meta.kind) && is_well_formed e.rec && is_name e.name) (not (has_dir tree (p ++ e.name ∷ []))) h in
    let named = and_parts (not (is_dir e.rec.meta.kind) && is_well_formed e.rec) (is_name e.name) alone.0 in
    let sound = and_parts (not (is_dir e.rec.meta.kind)) (is_well_formed e.rec) named.0 in
    record { kind = not-true _ sound.0; sound = sound.1; named = named.1; alone = not-true _ alone.1 }

pub record TreeParts (tree : List Directory) : Type 0 where
  pub root : has_dir tree [] ≡ true
  pub ascends : ascends dir_cmp tree ≡ true
  pub each : list_all (is_directory_of tree) tree ≡ true

pub tree_parts : (tree : List Directory) → is_tree tree ≡ true → TreeParts tree
tree_parts tree h =
    let each = and_parts (has_dir tree [] && ascends dir_cmp tree) (list_all (is_directory_of tree) tree) h in
    let up = and_parts (has_dir tree []) (ascends dir_cmp tree) each.0 in
    record { root = up.0; ascends = up.1; each = each.1 }

-- what holds of each, holds of each
pub list_all_weaken : {X : Type 0} (p q : X → Bool) → ((x : X) → p x ≡ true → q x ≡ true) → (xs : List X) → list_all p xs ≡ true → list_all q xs ≡ true
list_all_weaken p q f [] h = refl
list_all_weaken p q f (x ∷ xs) h =
    let both = and_parts (p x) (list_all p xs) h in
    and_from _ _ (f x both.0) (list_all_weaken p q f xs both.1)

pub All_weaken : {X : Type 0} (p : X → Bool) (P : X → Type 0) → ((x : X) → p x ≡ true → P x) → (xs : List X) → list_all p xs ≡ true → AllByRecursion P xs
All_weaken p P f [] h = tt
All_weaken p P f (x ∷ xs) h =
    let both = and_parts (p x) (list_all p xs) h in
    (f x both.0, All_weaken p P f xs both.1)

-- what holds of the rows of each directory, holds of all rows
pub all_own : (q : Row → Bool) (ds : List Directory) → list_all (λ d. list_all q (own_rows d)) ds ≡ true → list_all q (flat_map own_rows ds) ≡ true
all_own q [] h = refl
all_own q (d ∷ ds) h =
    let both = and_parts (list_all q (own_rows d)) (list_all (λ v. list_all q (own_rows v)) ds) h in
    list_all-append q (own_rows d) (flat_map own_rows ds) ∙ and_from _ _ both.0 (all_own q ds both.1)

pub all_entries : (q : Row → Bool) (p : Components) (tree : List Directory) (es : List Entry) → ((e : Entry) → EntryParts tree p e → q (entry_row p e) ≡ true) → list_all (is_entry_of tree p) es ≡ true → list_all q (map (entry_row p) es) ≡ true
all_entries q p tree es f h = list_all-map q (entry_row p) es ∙ list_all_weaken (is_entry_of tree p) (λ e. q (entry_row p e)) (λ e k. f e (entry_parts tree p e k)) es h

pub kinds_of : (tree : List Directory) → TreeParts tree → list_all is_kinded tree ≡ true
kinds_of tree t =
    list_all_weaken (is_directory_of tree) is_kinded (λ d h.
    let own = directory_parts tree d h in
    and_from _ _ own.kind (list_all_weaken (is_entry_of tree d.path) (λ (e : Entry). not (is_dir e.rec.meta.kind)) (λ e k. not_from_false _ (entry_parts tree d.path e k).kind) d.entries own.entries)) tree t.each

-- the root comes first
below_none : (p : Components) → path_cmp p [] ≡ Less → ⊥
below_none [] e = cc
below_none (n ∷ p) e = cc

nil_from : (p : Components) → path_eq [] p ≡ true → p ≡ []
nil_from p e = sym ((path_eq-Decides [] p).0 e)

no_root_behind : (d : Directory) (ds : List Directory) → AllByRecursion (λ v. dir_cmp d v ≡ Less) ds → has_dir ds [] ≡ true → ⊥
no_root_behind d [] h e = false≢true e
no_root_behind d (v ∷ ds) h e =
    ⊎_elim (λ own. below_none d.path (ap (path_cmp d.path) (sym (nil_from v.path own)) ∙ h.0)) (λ rest. no_root_behind d ds h.1 rest) (or_cases (path_eq [] v.path) (has_dir ds []) e)

pub root_first : (d : Directory) (ds : List Directory) → TreeParts (d ∷ ds) → d.path ≡ []
root_first d ds t =
    ⊎_elim (λ own. nil_from d.path own) (λ rest. absurd (no_root_behind d ds (below_all dir_cmp dir_cmp-total d ds t.ascends) rest)) (or_cases (path_eq [] d.path) (has_dir ds []) t.root)

-- no two rows have one path
is_equal : (o : Ordering) → is_eq o ≡ true → o ≡ Equal
is_equal Less e = absurd (false≢true e)
is_equal Equal e = refl
is_equal Greater e = absurd (false≢true e)

alike_path : (z row : Row) → alike z row ≡ true → z.path ≡ row.path
alike_path z row e = exact_paths z.path row.path (is_equal (row_cmp z row) e)

none_counted : (b : Bool) (n : ℕ) → b ≡ false → n ≡ 0 → cond b 1 0 + n ≡ 0
none_counted true n e f = absurd (true≢false e)
none_counted false n e f = omega arith

same_counted : (a b : Bool) (m n : ℕ) → a ≡ b → m ≡ n → cond a 1 0 + m ≡ cond b 1 0 + n
same_counted a b m n e f = ap (λ (x : Bool). cond x 1 0 + m) e ∙ ap (λ (k : ℕ). cond b 1 0 + k) f

none_where : (z : Row) (p : Components) (es : List Entry) → AllByRecursion (λ (e : Entry). alike z (entry_row p e) ≡ false) es → times (alike z) (map (entry_row p) es) ≡ 0
none_where z p [] h = refl
none_where z p (e ∷ es) h = none_counted (alike z (entry_row p e)) (times (alike z) (map (entry_row p) es)) h.0 (none_where z p es h.1)

later_apart : (z : Row) (p : Components) (e v : Entry) → alike z (entry_row p e) ≡ true → entry_cmp e v ≡ Less → alike z (entry_row p v) ≡ false
later_apart z p e v same below =
    ap (λ (q : Components). is_eq (path_cmp q (p ++ v.name ∷ []))) (alike_path z (entry_row p e) same)
    ∙ ap is_eq (path_cmp-child p e.name v.name ∙ below)

All-map : {X : Type 0} (P Q : X → Type 0) → ((x : X) → P x → Q x) → (xs : List X) → AllByRecursion P xs → AllByRecursion Q xs
All-map P Q f [] h = tt
All-map P Q f (x ∷ xs) h = (f x h.0, All-map P Q f xs h.1)

entries_once : (z : Row) (p : Components) (es : List Entry) → ascends entry_cmp es ≡ true → times (alike z) (map (entry_row p) es) ≤ 1
entries_once z p [] up = omega arith
entries_once z p (e ∷ es) up = by (alike z (entry_row p e)) refl (entries_once z p es (ascends-tail entry_cmp entry_cmp-total e es up))
  where
    by : (b : Bool) → alike z (entry_row p e) ≡ b → times (alike z) (map (entry_row p) es) ≤ 1 → cond b 1 0 + times (alike z) (map (entry_row p) es) ≤ 1
    by true same rest =
        let none = none_where z p es (All-map (λ (v : Entry). entry_cmp e v ≡ Less) (λ (v : Entry). alike z (entry_row p v) ≡ false) (λ v below. later_apart z p e v same below) es (below_all entry_cmp entry_cmp-total e es up)) in
        omega arith
    by false apart rest = omega arith

elsewhere : (z : Row) (p : Components) (e : Entry) → path_eq (parent_path z.path) p ≡ false → alike z (entry_row p e) ≡ false
elsewhere z p e apart = false_from_ne_true _ (λ same.
    let parent : parent_path z.path ≡ p = ap parent_path (alike_path z (entry_row p e) same) ∙ parent_path-child p e.name in
    both_ways (path_eq (parent_path z.path) p) apart (ap (λ (q : Components). path_eq q p) parent ∙ path_eq-refl p))

everywhere_false : (z : Row) (p : Components) (es : List Entry) → ((e : Entry) → alike z (entry_row p e) ≡ false) → AllByRecursion (λ (e : Entry). alike z (entry_row p e) ≡ false) es
everywhere_false z p [] f = tt
everywhere_false z p (e ∷ es) f = (f e, everywhere_false z p es f)

-- entries with the path stand in one directory
own_entries : (z : Row) (d : Directory) → ascends entry_cmp d.entries ≡ true → times (alike z) (map (entry_row d.path) d.entries) ≤ cond (path_eq (parent_path z.path) d.path) 1 0
own_entries z d up = by (path_eq (parent_path z.path) d.path) refl
  where
    by : (b : Bool) → path_eq (parent_path z.path) d.path ≡ b → times (alike z) (map (entry_row d.path) d.entries) ≤ cond b 1 0
    by true same = entries_once z d.path d.entries up
    by false apart = let none = none_where z d.path d.entries (everywhere_false z d.path d.entries (λ e. elsewhere z d.path e apart)) in omega arith

abbrev at_path : Components → Directory → Bool
at_path p d = path_eq p d.path

-- how many entries have the path
abbrev entries_alike : Row → List Directory → ℕ
entries_alike z [] = 0
entries_alike z (d ∷ ds) = times (alike z) (map (entry_row d.path) d.entries) + entries_alike z ds

rows_alike : (z : Row) (ds : List Directory) → times (alike z) (flat_map own_rows ds) ≡ times (at_path z.path) ds + entries_alike z ds
rows_alike z [] = refl
rows_alike z (d ∷ ds) =
    let rest = rows_alike z ds in
    let whole = times-append (alike z) (own_rows d) (flat_map own_rows ds) in
    let own : times (alike z) (own_rows d) ≡ cond (path_eq z.path d.path) 1 0 + times (alike z) (map (entry_row d.path) d.entries) =
    ap (λ b. cond b 1 0 + times (alike z) (map (entry_row d.path) d.entries)) (is_eq-path_cmp z.path d.path) in
    omega arith

entries_bound : (z : Row) (ds : List Directory) → AllByRecursion (λ (d : Directory). ascends entry_cmp d.entries ≡ true) ds → entries_alike z ds ≤ times (at_path (parent_path z.path)) ds
entries_bound z [] h = omega arith
entries_bound z (d ∷ ds) h =
    let own = own_entries z d h.0 in
    let rest = entries_bound z ds h.1 in
    omega arith

dirs_bound : (p : Components) (tree : List Directory) → ascends dir_cmp tree ≡ true → times (at_path p) tree ≤ 1
dirs_bound p tree up = by tree (Once-from_ascends dir_cmp dir_cmp-total tree up)
  where
    same : (d : Directory) (ds : List Directory) → times (λ (v : Directory). is_eq (dir_cmp d v)) ds ≡ times (at_path d.path) ds
    same d [] = refl
    same d (v ∷ ds) = same_counted (is_eq (path_cmp d.path v.path)) (path_eq d.path v.path) _ _ (is_eq-path_cmp d.path v.path) (same d ds)

    by : (ds : List Directory) → Once dir_cmp ds → times (at_path p) ds ≤ 1
    by [] once = omega arith
    by (v ∷ ds) once =
        let probe : Directory = record v { path = p } in
        let few = once probe in
        let equal = same probe (v ∷ ds) in
        omega arith

no_dirs : (p : Components) (ds : List Directory) → has_dir ds p ≡ false → times (at_path p) ds ≡ 0
no_dirs p [] h = refl
no_dirs p (d ∷ ds) h =
    let both = or_parts (path_eq p d.path) (has_dir ds p) h in
    none_counted (path_eq p d.path) (times (at_path p) ds) both.0 (no_dirs p ds both.1)

-- where a directory has the path, no entry has it
no_entries : (z : Row) (tree ds : List Directory) → has_dir tree z.path ≡ true → list_all (is_directory_of tree) ds ≡ true → entries_alike z ds ≡ 0
no_entries z tree [] there h = refl
no_entries z tree (d ∷ ds) there h =
    let both = and_parts (is_directory_of tree d) (list_all (is_directory_of tree) ds) h in
    let own = none_where z d.path d.entries (All_weaken (is_entry_of tree d.path) (λ (e : Entry). alike z (entry_row d.path e) ≡ false) (λ e k.
    false_from_ne_true _ (λ same.
    both_ways (has_dir tree z.path) (ap (has_dir tree) (alike_path z (entry_row d.path e) same) ∙ (entry_parts tree d.path e k).alone) there)) d.entries (directory_parts tree d both.0).entries) in
    let rest = no_entries z tree ds there both.1 in
    omega arith

pub rows_once : (tree : List Directory) → TreeParts tree → Once row_cmp (flat_map own_rows tree)
rows_once tree t = λ z.
    let split = rows_alike z tree in
    let dirs = dirs_bound z.path tree t.ascends in
    ⊎_elim
    (λ there. let none = no_entries z tree tree there t.each in omega arith)
    (λ absent.
    let none = no_dirs z.path tree absent in
    let few = entries_bound z tree (All_weaken (is_directory_of tree) (λ (d : Directory). ascends entry_cmp d.entries ≡ true) (λ d h. (directory_parts tree d h).ascends) tree t.each) in
    let one = dirs_bound (parent_path z.path) tree t.ascends in
    omega arith)
    (cases_Bool (has_dir tree z.path))

-- each row has its parent
there_itself : (tree : List Directory) (d : Directory) → Has tree d → has_dir tree d.path ≡ true
there_itself [] d k = absurd k
there_itself (v ∷ ds) d (inl k) = or_left _ _ (ap (λ (x : Directory). path_eq d.path x.path) k ∙ path_eq-refl d.path)
there_itself (v ∷ ds) d (inr k) = or_right _ _ (there_itself ds d k)

not_orphan : (b : Bool) → b ≡ true → not (not b) ≡ true
not_orphan b h = ap (λ x. not (not x)) h

dir_parent : (tree : List Directory) (p : Components) (dir : Bool) → dir ≡ true → has_dir tree (parent_path p) ≡ true → not (cond (is_empty p) (not dir) (not (has_dir tree (parent_path p)))) ≡ true
dir_parent tree [] dir d h = not_orphan dir d
dir_parent tree (n ∷ p) dir d h = not_orphan (has_dir tree (parent_path (n ∷ p))) h

entry_parent : (tree : List Directory) (p : Components) (e : Entry) → has_dir tree p ≡ true → not (is_orphan_row tree (entry_row p e)) ≡ true
entry_parent tree p e h = rw (some_path p e.name, parent_path-child p e.name) (not_orphan (has_dir tree p) h)

abbrev has_parents : List Directory → Directory → Bool
has_parents tree d = list_all (λ row. not (is_orphan_row tree row)) (own_rows d)

own_parents : (tree : List Directory) (d : Directory) → Has tree d → DirectoryParts tree d → has_parents tree d ≡ true
own_parents tree d k own =
    and_from _ _ (dir_parent tree d.path (is_dir d.rec.meta.kind) own.kind own.parent)
    (all_entries (λ row. not (is_orphan_row tree row)) d.path tree d.entries (λ e parts. entry_parent tree d.path e (there_itself tree d k)) own.entries)

pub rows_parents : (tree : List Directory) → TreeParts tree → list_all (λ row. not (is_orphan_row tree row)) (flat_map own_rows tree) ≡ true
rows_parents tree t =
    all_own (λ row. not (is_orphan_row tree row)) tree
    (list_all-from_Has (has_parents tree) tree (λ d k. own_parents tree d k (directory_parts tree d (list_all-Has (is_directory_of tree) tree d t.each k))))

-- the tree of lines whose rows are the tree's
pub tree_back : (tree : List Directory) (lines : List Line) → TreeParts tree → map row_of_line lines ≡ flat_map own_rows tree → tree_of lines ≡ Ok tree
unfolding tree_of
tree_back tree lines t is =
    let kinds = kinds_of tree t in
    let rows : IsPermutation (map row_of_line lines) (flat_map own_rows tree) = subst (λ (rs : List Row). IsPermutation (map row_of_line lines) rs) is (IsPermutation-refl (map row_of_line lines)) in
    let parents : list_all (λ line. not (is_orphan lines line)) lines ≡ true =
    list_all-agree (λ line. not (is_orphan lines line)) (λ line. not (is_orphan_row tree (row_of_line line))) (λ line. ap (λ b. not (cond (is_empty line.path) (not (is_dir_line line)) (not b))) (names_dir-tree lines tree rows kinds (parent_path line.path))) lines
    ∙ sym (list_all-map (λ row. not (is_orphan_row tree row)) row_of_line lines)
    ∙ ap (list_all (λ row. not (is_orphan_row tree row))) is
    ∙ rows_parents tree t in
    let faultless : IsFaultless lines = record {
      root = names_dir-tree lines tree rows kinds [] ∙ t.root;
      once = subst (λ (rs : List Row). Once row_cmp rs) (sym is) (rows_once tree t);
      parents = parents;
    } in
    let sorted = All_weaken (is_directory_of tree) (λ (d : Directory). ascends entry_cmp d.entries ≡ true) (λ d h. (directory_parts tree d h).ascends) tree t.each in
    rw (none_from_faultless lines faultless) (ap (λ ds. Ok ds) (directories_are lines tree rows kinds t.ascends sorted))
