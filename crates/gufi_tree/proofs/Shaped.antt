-- Directories that are seen to be a tree, and that lines with their rows have no fault.
use Rattle.std.proofs.Common.{◌≡◌, ℕ, zero, suc, ◌+◌, ◌-◌, ◌<◌, Bool, true, false, not, cond, List, [], ◌∷◌, ◌++◌, map, length, get_or, refl, sym, ap, ◌∙◌, subst, arith, inl, inr, length-append}
use Rattle.std.specs.Prelude.{bytes_eq}
use Rattle.std.specs.declared.cmp.Ordering.{Ordering}
use Rattle.std.specs.Ordering.{is_lt}
use Rattle.std.specs.List.{list_any, list_all, flat_map}
use Rattle.std.specs.List.Sorted.{IsPermutation}
use Rattle.std.proofs.lemmas.Bool.{and_parts, and_from, or_left, or_right, false_from_ne_true, not_from_false}
use Rattle.std.proofs.lemmas.List.{get_or_default}
use Rattle.std.proofs.lemmas.List.Folds.{Any-from_list_any, list_all-append, list_all-map}
use Rattle.std.proofs.lemmas.List.Sorted.{IsPermutation-sym}
use Rattle.std.proofs.lemmas.Slice.Eq.{bytes_eq-Decides}
use Rattle.gufi_base.specs.declared.record.Line.{Line}
use Rattle.gufi_base.specs.Basics.{is_empty, ascends}
use Rattle.gufi_base.specs.Kinds.{is_dir}
use Rattle.gufi_base.specs.Rows.{row_cmp}
use Rattle.gufi_base.specs.Paths.{Components, path_cmp, path_eq, parent_path, base_name}
use Rattle.gufi_base.proofs.SortedOnce.{Once-IsPermutation}
use Rattle.gufi_tree.specs.declared.tree.Entry.{Entry}
use Rattle.gufi_tree.specs.Tree.{Directory, dir_cmp, entry_row, own_rows, has_dir, has_entry_named, is_at, is_kinded, HasTreeShape}
use Rattle.gufi_tree.specs.Places.{path_at}
use Rattle.gufi_tree.specs.Kept.{HasParents}
use Rattle.gufi_tree.specs.Build.{is_dir_line, is_orphan}
use Rattle.gufi_tree.specs.Gathered.{row_of_line}
use Rattle.gufi_tree.specs.Shape.{are_distinct, IsSoundAt, IsTreeWith}
use Rattle.gufi_tree.proofs.Built.{Has, path_eq-Decides, parent_path-child, base_name-child}
use Rattle.gufi_tree.proofs.Faultless.{IsFaultless}
use Rattle.gufi_tree.proofs.Flat.{found-has_dir}
use Rattle.gufi_tree.proofs.Kids.{at_place}
use Rattle.gufi_tree.proofs.Linked.{path_at-get, some_injective}
use Rattle.gufi_tree.proofs.Placed.{list_all-IsPermutation, list_all-agree, list_all-Has, list_all-from_Has, is_orphan_row, names_dir-tree}
use Rattle.gufi_tree.proofs.RowHomes.{rows_once}
use Rattle.gufi_tree.proofs.Searched.{place_of-at}

-- neighbours that ascend
pub ascends_adjacent : {X : Type 0} (cmp : X → X → Ordering) (xs : List X) → ((k : ℕ) (d : X) → k + 1 < length xs → is_lt (cmp (get_or xs k d) (get_or xs (k + 1) d)) ≡ true) → ascends cmp xs ≡ true
ascends_adjacent cmp [] h = refl
ascends_adjacent cmp (x ∷ []) h = refl
ascends_adjacent cmp (x ∷ y ∷ xs) h = rw (h 0 x (omega arith)) (ascends_adjacent cmp (y ∷ xs) (λ k d lt.
    let e : suc k + 1 ≡ suc (k + 1) = omega arith in
    ap (λ m. is_lt (cmp (get_or (y ∷ xs) k d) (get_or (x ∷ y ∷ xs) m d))) (sym e) ∙ h (suc k) d (omega (arith, lt))))

-- what holds at each place holds of each
list_all-from_get : {X : Type 0} (q : X → Bool) (xs : List X) → ((k : ℕ) (d : X) → k < length xs → q (get_or xs k d) ≡ true) → list_all q xs ≡ true
list_all-from_get q [] h = refl
list_all-from_get q (x ∷ xs) h = and_from (q x) (list_all q xs) (h 0 x (omega arith)) (list_all-from_get q xs (λ k d lt. h (suc k) d (omega (arith, lt))))

-- an entry is found by its name
named_there : (es : List Entry) (e : Entry) → Has es e → list_any (λ (v : Entry). bytes_eq e.name v.name) es ≡ true
named_there [] e k = absurd k
named_there (v ∷ es) e (inl k) = or_left _ _ ((bytes_eq-Decides e.name v.name).1 (ap (λ (x : Entry). x.name) (sym k)))
named_there (v ∷ es) e (inr k) = or_right _ _ (named_there es e k)

longer : (p : Components) (name : List ℕ) → p ++ name ∷ [] ≡ [] → ⊥
longer p name e = absurd (omega (arith, ap length e, length-append p (name ∷ [])))

module _ (tree : List Directory) (parents : List ℕ) (some : 0 < length tree) (len : length parents ≡ length tree) (each : (k : ℕ) → k < length tree → IsSoundAt tree k (get_or parents k 0)) where
  up : ascends dir_cmp tree ≡ true
  up = ascends_adjacent dir_cmp tree (λ k d lt.
      let below = (each (k + 1) lt).below (omega arith) in
      let one : k + 1 - 1 ≡ k = omega arith in
      let h : is_lt (path_cmp (path_at tree k) (path_at tree (k + 1))) ≡ true = subst (λ n. is_lt (path_cmp (path_at tree n) (path_at tree (k + 1))) ≡ true) one below.above in
      ap (λ (p : Components). is_lt (path_cmp p (get_or tree (k + 1) d).path)) (sym (path_at-get tree k d (omega (arith, lt))))
      ∙ ap (λ (p : Components). is_lt (path_cmp (path_at tree k) p)) (sym (path_at-get tree (k + 1) d lt)) ∙ h)

  root_path : path_at tree 0 ≡ []
  root_path = ((each 0 some).root refl).1

  there : (k : ℕ) → k < length tree → has_dir tree (path_at tree k) ≡ true
  there k lt = let w = at_place tree k lt in ap (has_dir tree) (sym w.2) ∙ found-has_dir tree w.0 w.1

  same_place : (i j : ℕ) → i < length tree → j < length tree → path_at tree i ≡ path_at tree j → i ≡ j
  same_place i j a b same =
      let d = (at_place tree i a).0 in
      some_injective i j
      (sym (place_of-at tree (path_at tree i) i d up a (sym (path_at-get tree i d a))) ∙ place_of-at tree (path_at tree i) j d up b (sym (path_at-get tree j d b) ∙ sym same))

  -- the parent of each
  parent_of : (k : ℕ) → k < length tree → (path_at tree (get_or parents k 0) ≡ parent_path (path_at tree k)) × (get_or parents k 0 < length tree)
  parent_of zero lt =
      let h = (each 0 lt).root refl in
      (ap (path_at tree) h.0 ∙ h.1 ∙ sym (ap parent_path h.1), omega (arith, h.0, some))
  parent_of (suc k) lt =
      let h = (each (suc k) lt).below (omega arith) in
      let both = and_parts (not (is_empty (path_at tree (suc k)))) (path_eq (path_at tree (get_or parents (suc k) 0)) (parent_path (path_at tree (suc k)))) h.child in
      ((path_eq-Decides (path_at tree (get_or parents (suc k) 0)) (parent_path (path_at tree (suc k)))).0 both.1, h.within)

  has_parents : HasParents tree parents
  has_parents = record {
    len = len;
    each = λ k lt.
        let p = parent_of k lt in
        let d = (at_place tree k lt).0 in
        place_of-at tree (parent_path (path_at tree k)) (get_or parents k 0) d up p.1 (sym (path_at-get tree (get_or parents k 0) d p.1) ∙ p.0);
  }

  parents_there : list_all (λ (d : Directory). has_dir tree (parent_path d.path)) tree ≡ true
  parents_there =
      list_all-from_get (λ (d : Directory). has_dir tree (parent_path d.path)) tree (λ k d lt.
      let p = parent_of k lt in
      ap (λ (q : Components). has_dir tree (parent_path q)) (sym (path_at-get tree k d lt)) ∙ ap (has_dir tree) (sym p.0) ∙ there (get_or parents k 0) p.1)

  -- no directory stands where an entry does
  clash : (own : Directory) (e : Entry) (k : ℕ) → k < length tree → get_or tree k own ≡ own → Has own.entries e → (j : ℕ) → j < length tree → path_at tree j ≡ own.path ++ e.name ∷ [] → ⊥
  clash own e k lt is within zero low path = longer own.path e.name (sym path ∙ root_path)
  clash own e k lt is within (suc j) low path =
      let h = (each (suc j) low).below (omega arith) in
      let p = parent_of (suc j) low in
      let above : path_at tree (get_or parents (suc j) 0) ≡ path_at tree k =
      p.0 ∙ ap parent_path path ∙ parent_path-child own.path e.name ∙ sym (path_at-get tree k own lt ∙ ap (λ (v : Directory). v.path) is) in
      let same : get_or parents (suc j) 0 ≡ k = same_place (get_or parents (suc j) 0) k p.1 lt above in
      let parent : get_or tree (get_or parents (suc j) 0) own ≡ own = ap (λ n. get_or tree n own) same ∙ is in
      let name : base_name (path_at tree (suc j)) ≡ e.name = ap base_name path ∙ base_name-child own.path e.name in
      let free : list_any (λ (v : Entry). bytes_eq e.name v.name) own.entries ≡ false =
      ap (λ (v : Directory). has_entry_named e.name v) (sym parent) ∙ ap (λ (n : List ℕ). has_entry_named n (get_or tree (get_or parents (suc j) 0) own)) (sym name) ∙ h.free own in
      let no : true ≡ false = sym (named_there own.entries e within) ∙ free in
      absurd cc

  apart_at : (own : Directory) (k : ℕ) → k < length tree → get_or tree k own ≡ own → (e : Entry) → Has own.entries e → has_dir tree (own.path ++ e.name ∷ []) ≡ false
  apart_at own k lt is e within = false_from_ne_true (has_dir tree (own.path ++ e.name ∷ [])) (λ h.
      let w = Any-from_list_any (is_at (own.path ++ e.name ∷ [])) tree h in
      clash own e k lt is within w.0 w.2
      (path_at-get tree w.0 w.1 w.2 ∙ ap (λ (v : Directory). v.path) w.3 ∙ sym ((path_eq-Decides (own.path ++ e.name ∷ []) (w.1).path).0 w.4)))

  entries_apart : list_all (λ (d : Directory). list_all (λ (e : Entry). not (has_dir tree (d.path ++ e.name ∷ []))) d.entries) tree ≡ true
  entries_apart =
      list_all-from_get (λ (d : Directory). list_all (λ (e : Entry). not (has_dir tree (d.path ++ e.name ∷ []))) d.entries) tree (λ k d lt.
      list_all-from_Has (λ (e : Entry). not (has_dir tree ((get_or tree k d).path ++ e.name ∷ []))) (get_or tree k d).entries (λ e m.
      not_from_false (has_dir tree ((get_or tree k d).path ++ e.name ∷ [])) (apart_at (get_or tree k d) k lt (get_or_default tree k (get_or tree k d) d lt) e m)))

  pub tree_with : list_all is_kinded tree ≡ true → are_distinct tree ≡ true → IsTreeWith tree parents
  tree_with kinds distinct = record {
    shape = record {
      root = ap (has_dir tree) (sym root_path) ∙ there 0 some;
      order = up;
      parents = parents_there;
      entries = distinct;
      kinds = kinds;
      apart = entries_apart;
    };
    places = has_parents;
  }

not_orphan : (b : Bool) → b ≡ true → not (not b) ≡ true
not_orphan b h = ap (λ x. not (not x)) h

some_path : (p : Components) (name : List ℕ) → is_empty (p ++ name ∷ []) ≡ false
some_path [] name = refl
some_path (n ∷ p) name = refl

module _ (tree : List Directory) (shape : HasTreeShape tree) where
  dir_parent : (p : Components) (dir : Bool) → dir ≡ true → has_dir tree (parent_path p) ≡ true → not (cond (is_empty p) (not dir) (not (has_dir tree (parent_path p)))) ≡ true
  dir_parent [] dir d h = not_orphan dir d
  dir_parent (n ∷ p) dir d h = not_orphan (has_dir tree (parent_path (n ∷ p))) h

  entry_parents : (p : Components) (es : List Entry) → has_dir tree p ≡ true → list_all (λ row. not (is_orphan_row tree row)) (map (entry_row p) es) ≡ true
  entry_parents p [] h = refl
  entry_parents p (e ∷ es) h =
      let first : not (is_orphan_row tree (entry_row p e)) ≡ true = rw (some_path p e.name, parent_path-child p e.name) (not_orphan (has_dir tree p) h) in
      and_from _ _ first (entry_parents p es h)

  own_parents : (d : Directory) → Has tree d → list_all (λ row. not (is_orphan_row tree row)) (own_rows d) ≡ true
  own_parents d k =
      let kind = and_parts (is_dir d.rec.meta.kind) (list_all (λ (e : Entry). not (is_dir e.rec.meta.kind)) d.entries) (list_all-Has is_kinded tree d shape.kinds k) in
      and_from _ _
      (dir_parent d.path (is_dir d.rec.meta.kind) kind.0 (list_all-Has (λ (v : Directory). has_dir tree (parent_path v.path)) tree d shape.parents k))
      (entry_parents d.path d.entries (found-has_dir tree d k))

  row_parents : (ds : List Directory) → ((d : Directory) → Has ds d → Has tree d) → list_all (λ row. not (is_orphan_row tree row)) (flat_map own_rows ds) ≡ true
  row_parents [] within = refl
  row_parents (d ∷ ds) within =
      list_all-append (λ row. not (is_orphan_row tree row)) (own_rows d) (flat_map own_rows ds) ∙ and_from _ _ (own_parents d (within d (inl refl))) (row_parents ds (λ v k. within v (inr k)))

  -- lines with the rows of a tree have no fault
  pub faultless_from_shape : (lines : List Line) → IsPermutation (map row_of_line lines) (flat_map own_rows tree) → IsFaultless lines
  faultless_from_shape lines rows = record {
    root = names_dir-tree lines tree rows shape.kinds [] ∙ shape.root;
    once = Once-IsPermutation row_cmp (flat_map own_rows tree) (map row_of_line lines) (IsPermutation-sym (map row_of_line lines) (flat_map own_rows tree) rows) (rows_once tree shape);
    parents =
        list_all-agree (λ line. not (is_orphan lines line)) (λ line. not (is_orphan_row tree (row_of_line line)))
        (λ line. ap (λ b. not (cond (is_empty line.path) (not (is_dir_line line)) (not b))) (names_dir-tree lines tree rows shape.kinds (parent_path line.path))) lines
        ∙ sym (list_all-map (λ row. not (is_orphan_row tree row)) row_of_line lines)
        ∙ list_all-IsPermutation (λ row. not (is_orphan_row tree row)) (map row_of_line lines) (flat_map own_rows tree) rows
        ∙ row_parents tree (λ d k. k);
  }
