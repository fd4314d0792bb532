-- Where the parents and the subdirectories of directories are.
use Rattle.std.proofs.Common.{◌≡◌, ℕ, zero, suc, ◌+◌, ◌<◌, ◌≤◌, Bool, true, false, not, ◌&&◌, cond, eqb, List, [], ◌∷◌, ◌++◌, map, length, get_or, Option, Some, None, is_some, refl, sym, ap, ◌∙◌, arith, ◌⊎◌, inl, inr, ⊎_elim}
use Rattle.std.specs.declared.cmp.Ordering.TheVariants.{Less, Equal, Greater}
use Rattle.std.specs.declared.cmp.Ordering.{Ordering}
use Rattle.std.specs.Ordering.{is_lt}
use Rattle.std.specs.List.{list_any, list_all, filter}
use Rattle.std.proofs.lemmas.List.Sums.{length-filter, count_by-le-length}
use Rattle.gufi_base.specs.declared.record.Line.{Line}
use Rattle.gufi_tree.specs.Build.{is_dir_line, directory_of_line, directories_of_lines}
use Rattle.std.proofs.lemmas.Bool.{and_parts, cases_eq, eq-eqb, eqb-true, ne_eqb, false≢true, or_cases}
use Rattle.std.proofs.lemmas.Bool.Decides.{same_from_decides}
use Rattle.std.proofs.lemmas.List.{get_or-map, length-map, get_or_push, get_or_append_left}
use Rattle.std.proofs.lemmas.List.Folds.{Any-from_list_any}
use Rattle.std.proofs.lemmas.List.Quantifiers.{position-Some}
use Rattle.gufi_base.specs.Basics.{is_empty, ascends, insert_by, sort_by}
use Rattle.gufi_base.specs.Paths.{Components, path_cmp, path_eq, parent_path, is_child_of}
use Rattle.gufi_tree.specs.declared.tree.DirId.{DirId}
use Rattle.gufi_tree.specs.Tree.{Directory, dir_cmp, place_of, has_dir, is_at, HasTreeShape}
use Rattle.gufi_tree.specs.Places.{dir_id, path_at, ids_from, child_ids}
use Rattle.gufi_base.specs.Names.{is_name}
use Rattle.gufi_base.specs.PathTexts.{kept_text, names}
use Rattle.gufi_base.proofs.Names.{names-kept_text}
use Rattle.gufi_tree.specs.Kept.{HasParents, ids_under}
use Rattle.gufi_tree.proofs.Built.{path_eq-Decides}
use Rattle.gufi_tree.proofs.Searched.{place_of-at, in_order}
use Rattle.gufi_tree.proofs.Homes.{no_place}

-- the place of a parent, from a child
pub child_place : (tree : List Directory) (path : Components) (at : ℕ) → ascends dir_cmp tree ≡ true → at < length tree → ((d : Directory) → is_child_of (get_or tree at d).path path ≡ true) → place_of tree (parent_path path) ≡ Some at
child_place [] path at order lt child = absurd (omega arith)
child_place (x ∷ tree) path at order lt child =
    let both = and_parts (not (is_empty path)) (path_eq (get_or (x ∷ tree) at x).path (parent_path path)) (child x) in
    place_of-at (x ∷ tree) (parent_path path) at x order lt ((path_eq-Decides (get_or (x ∷ tree) at x).path (parent_path path)).0 both.1)

pub place_within : (tree : List Directory) (path : Components) (at : ℕ) → place_of tree path ≡ Some at → at < length tree
place_within [] path at e = cc
place_within (x ∷ tree) path at e = (position-Some (is_at path) (x ∷ tree) at x e).0

pub some_place : (tree : List Directory) (path : Components) → ascends dir_cmp tree ≡ true → has_dir tree path ≡ true → is_some (place_of tree path) ≡ true
some_place tree path up h = by (place_of tree path) refl where
  by : (o : Option ℕ) → place_of tree path ≡ o → is_some o ≡ true
  by None e = absurd (false≢true (sym (no_place tree path up e) ∙ h))
  by (Some k) e = refl

pub list_all-get : {X : Type 0} (q : X → Bool) (xs : List X) (i : ℕ) (d : X) → list_all q xs ≡ true → i < length xs → q (get_or xs i d) ≡ true
list_all-get q [] i d h l = absurd (omega arith)
list_all-get q (x ∷ xs) zero d h l = (and_parts (q x) (list_all q xs) h).0
list_all-get q (x ∷ xs) (suc i) d h l = list_all-get q xs i d (and_parts (q x) (list_all q xs) h).1 (omega arith)

-- what holds of each directory holds of the one at a place
pub at_place : (q : Directory → Bool) (tree : List Directory) (k : ℕ) (d : Directory) → list_all q tree ≡ true → k < length tree → d ≡ get_or tree k d → q d ≡ true
at_place q tree k d all lt is = ap q is ∙ list_all-get q tree k d all lt

pub path_at-get : (tree : List Directory) (k : ℕ) (d : Directory) → k < length tree → path_at tree k ≡ (get_or tree k d).path
path_at-get tree k d lt = get_or-map (λ (v : Directory). v.path) tree k d [] lt

-- one parent more
pub parents_more : (tree : List Directory) (parents : List ℕ) (i at : ℕ) (d : Directory) → length parents ≡ i → i < length tree → d ≡ get_or tree i d
    → ((k : ℕ) → k < i → place_of tree (parent_path (path_at tree k)) ≡ Some (get_or parents k 0))
    → place_of tree (parent_path d.path) ≡ Some at
    → (k : ℕ) → k < i + 1 → place_of tree (parent_path (path_at tree k)) ≡ Some (get_or (parents ++ at ∷ []) k 0)
parents_more tree parents i at d len lt is each here k within = by (cases_eq k i) where
  by : (k ≡ i) ⊎ (k ≡ i → ⊥) → place_of tree (parent_path (path_at tree k)) ≡ Some (get_or (parents ++ at ∷ []) k 0)
  by (inl same) =
      ap (λ n. place_of tree (parent_path (path_at tree n))) same
      ∙ ap (λ (p : Components). place_of tree (parent_path p)) (path_at-get tree i d lt ∙ ap (λ (v : Directory). v.path) (sym is))
      ∙ here ∙ ap Some (sym (get_or_push parents at 0 k (len ∙ sym same)))
  by (inr other) = each k (omega arith) ∙ ap Some (sym (get_or_append_left parents (at ∷ []) 0 k (omega arith)))

ids_same : (path : Components) (k n : ℕ) (ds : List Directory) (ps : List ℕ) → length ps ≡ length ds
    → ((j : ℕ) (d : Directory) → j < length ds → (eqb (get_or ps j 0) k && not (eqb (n + j) 0)) ≡ is_child_of path (get_or ds j d).path)
    → ids_under k n ps ≡ ids_from (λ dir. is_child_of path dir.path) n ds
ids_same path k n [] [] e h = refl
ids_same path k n [] (p ∷ ps) e h = absurd (omega (arith, e))
ids_same path k n (d ∷ ds) [] e h = absurd (omega (arith, e))
ids_same path k n (d ∷ ds) (p ∷ ps) e h =
    let first : (eqb p k && not (eqb n 0)) ≡ is_child_of path d.path = ap (λ m. eqb p k && not (eqb m 0)) (let z : n ≡ n + 0 = omega arith in z) ∙ h 0 d (omega arith) in
    let rest : ids_under k (n + 1) ps ≡ ids_from (λ dir. is_child_of path dir.path) (n + 1) ds =
    ids_same path k (n + 1) ds ps (omega (arith, e)) (λ j c lt. ap (λ m. eqb (get_or ps j 0) k && not (eqb m 0)) (let z : n + 1 + j ≡ n + suc j = omega arith in z) ∙ h (suc j) c (omega arith)) in
    ap (λ b. cond b (dir_id n ∷ ids_under k (n + 1) ps) (ids_under k (n + 1) ps)) first ∙ ap (λ (ids : List DirId). cond (is_child_of path d.path) (dir_id n ∷ ids) ids) rest

not_before_root : (p : Components) → path_cmp p [] ≡ Less → ⊥
not_before_root [] e = let no : Equal ≡ Less = e in cc
not_before_root (n ∷ p) e = let no : Greater ≡ Less = e in cc

-- the root is at place 0
pub root_first : (tree : List Directory) → ascends dir_cmp tree ≡ true → has_dir tree [] ≡ true → path_at tree 0 ≡ []
root_first [] up h = absurd (false≢true h)
root_first (d ∷ ds) up h = ⊎_elim
    (λ (own : path_eq [] d.path ≡ true). sym ((path_eq-Decides [] d.path).0 own))
    (λ (other : list_any (is_at []) ds ≡ true).
    let w = Any-from_list_any (is_at []) ds other in
    let root : (get_or ds w.0 w.1).path ≡ [] = ap (λ (v : Directory). v.path) w.3 ∙ sym ((path_eq-Decides [] (w.1).path).0 w.4) in
    let less : path_cmp d.path (get_or ds w.0 w.1).path ≡ Less = in_order (d ∷ ds) up 0 (suc w.0) w.1 (omega arith) (omega (arith, w.2)) in
    absurd (not_before_root d.path (ap (path_cmp d.path) (sym root) ∙ less)))
    (or_cases (path_eq [] d.path) (list_any (is_at []) ds) h)

pub some_injective : (a b : ℕ) → Some a ≡ Some b → a ≡ b
some_injective a b e = cc

module _ (tree : List Directory) (parents : List ℕ) (shape : HasTreeShape tree) (h : HasParents tree parents) where
  same_parent : (k j : ℕ) (d : Directory) → k < length tree → j < length tree → eqb (get_or parents j 0) k ≡ path_eq (path_at tree k) (parent_path (get_or tree j d).path)
  same_parent k j d lt in' =
      let e : place_of tree (parent_path (get_or tree j d).path) ≡ Some (get_or parents j 0) = ap (λ (p : Components). place_of tree (parent_path p)) (sym (path_at-get tree j d in')) ∙ h.each j in' in
      same_from_decides (eqb (get_or parents j 0) k) (path_eq (path_at tree k) (parent_path (get_or tree j d).path)) (
        (λ q.
            let is : get_or parents j 0 ≡ k = eqb-true (get_or parents j 0) k q in
            let found = (position-Some (is_at (parent_path (get_or tree j d).path)) tree k d (e ∙ ap Some is)).1 in
            path_at-get tree k d lt ∙ sym ((path_eq-Decides (parent_path (get_or tree j d).path) (get_or tree k d).path).0 found)),
        (λ p. eq-eqb (get_or parents j 0) k (some_injective (get_or parents j 0) k (sym e ∙ place_of-at tree (parent_path (get_or tree j d).path) k d shape.order lt (sym (path_at-get tree k d lt) ∙ p)))),
      )
      (path_eq-Decides (path_at tree k) (parent_path (get_or tree j d).path))

  root_only : (j : ℕ) (d : Directory) → j < length tree → eqb j 0 ≡ is_empty (get_or tree j d).path
  root_only j d lt = by (cases_eq j 0) where
    root : (get_or tree 0 d).path ≡ []
    root = sym (path_at-get tree 0 d (omega arith)) ∙ root_first tree shape.order shape.root

    by : (j ≡ 0) ⊎ (j ≡ 0 → ⊥) → eqb j 0 ≡ is_empty (get_or tree j d).path
    by (inl z) = eq-eqb j 0 z ∙ sym (ap (λ n. is_empty (get_or tree n d).path) z ∙ ap (λ (p : Components). is_empty p) root)
    by (inr some) =
        let less : path_cmp (get_or tree 0 d).path (get_or tree j d).path ≡ Less = in_order tree shape.order 0 j d (omega arith) lt in
        ne_eqb j 0 some ∙ sym (not_root (get_or tree j d).path (ap (λ (p : Components). path_cmp p (get_or tree j d).path) (sym root) ∙ less)) where
          not_root : (p : Components) → path_cmp [] p ≡ Less → is_empty p ≡ false
          not_root [] e = let no : Equal ≡ Less = e in cc
          not_root (n ∷ p) e = refl

  and_flip : (a b : Bool) → (a && b) ≡ (b && a)
  and_flip true true = refl
  and_flip true false = refl
  and_flip false true = refl
  and_flip false false = refl

  -- the places where a parent stands are those of its subdirectories
  pub ids_under-children : (k : ℕ) → k < length tree → ids_under k 0 parents ≡ child_ids tree (path_at tree k)
  ids_under-children k lt =
      ids_same (path_at tree k) k 0 tree parents h.len (λ j d in'.
      let z : 0 + j ≡ j = omega arith in
      ap (λ m. eqb (get_or parents j 0) k && not (eqb m 0)) z
      ∙ ap (λ b. b && not (eqb j 0)) (same_parent k j d lt in')
      ∙ ap (λ b. path_eq (path_at tree k) (parent_path (get_or tree j d).path) && not b) (root_only j d in')
      ∙ and_flip (path_eq (path_at tree k) (parent_path (get_or tree j d).path)) (not (is_empty (get_or tree j d).path)))

-- no more directories than lines
length-insert_by : {A : Type 0} (cmp : A → A → Ordering) (x : A) (ys : List A) → length (insert_by cmp x ys) ≡ suc (length ys)
length-insert_by cmp x [] = refl
length-insert_by cmp x (y ∷ ys) = by (is_lt (cmp y x)) (length-insert_by cmp x ys) where
  by : (b : Bool) → length (insert_by cmp x ys) ≡ suc (length ys) → length (cond b (y ∷ insert_by cmp x ys) (x ∷ y ∷ ys)) ≡ suc (suc (length ys))
  by true e = ap suc e
  by false e = refl

length-sort_by : {A : Type 0} (cmp : A → A → Ordering) (xs : List A) → length (sort_by cmp xs) ≡ length xs
length-sort_by cmp [] = refl
length-sort_by cmp (x ∷ xs) = length-insert_by cmp x (sort_by cmp xs) ∙ ap suc (length-sort_by cmp xs)

pub few_directories : (lines : List Line) → length (directories_of_lines lines) ≤ length lines
few_directories lines =
    let kept = filter is_dir_line lines in
    omega (arith, length-sort_by dir_cmp (map (directory_of_line lines) (filter is_dir_line lines)), length-map (filter is_dir_line lines) (directory_of_line lines), length-filter is_dir_line lines, count_by-le-length is_dir_line lines)

-- a search of a kept text is one of its path
pub found_place : (tree : List Directory) (path : Components) (text : List ℕ) (o : Option ℕ) → text ≡ kept_text path → list_all is_name path ≡ true → o ≡ place_of tree (names text) → o ≡ place_of tree path
found_place tree path text o same named e = e ∙ ap (place_of tree) (ap names same ∙ names-kept_text path named)
