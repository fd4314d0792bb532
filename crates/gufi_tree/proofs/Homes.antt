-- The directory that a line lies in.
use Rattle.std.proofs.Common.{◌≡◌, ℕ, ◌<◌, true, false, not, ◌&&◌, ◌||◌, List, [], ◌∷◌, ◌++◌, map, length, get_or, Option, Some, None, refl, sym, ap, ◌∙◌, arith, subst}
use Rattle.std.specs.Prelude.{MatchOption, cond}
use Rattle.std.specs.Ordering.{is_lt}
use Rattle.std.specs.List.{list_any, list_all}
use Rattle.std.specs.List.Sorted.{IsPermutation}
use Rattle.std.proofs.lemmas.Bool.{and_parts, and_from, false_from_ne_true, not_from_false, or_right}
use Rattle.std.proofs.lemmas.List.{get_or-map, length-map, append_assoc, map_push}
use Rattle.std.proofs.lemmas.List.Folds.{list_all-append, Any-from_list_any}
use Rattle.std.proofs.lemmas.List.Quantifiers.{position-Some}
use Rattle.std.proofs.lemmas.List.Sorted.{IsPermutation-trans, IsPermutation-append_left}
use Rattle.gufi_base.specs.declared.record.Line.{Line}
use Rattle.gufi_base.specs.declared.record.Row.{Row}
use Rattle.gufi_base.specs.Basics.{is_empty, ascends}
use Rattle.gufi_base.specs.Paths.{Components, path_cmp, path_eq, parent_path, is_child_of}
use Rattle.gufi_tree.specs.declared.tree.Stored.{Stored}
use Rattle.gufi_tree.specs.Tree.{Directory, dir_cmp, place_of, has_dir, is_at}
use Rattle.gufi_tree.specs.Stored.{directory_of, directories_of, AreInOrder}
use Rattle.gufi_tree.specs.Build.{is_dir_line}
use Rattle.gufi_tree.specs.Gathered.{row_of_line, has_home, paths_of}
use Rattle.gufi_tree.proofs.Built.{path_eq-Decides}
use Rattle.gufi_tree.proofs.Searched.{place_of-at}

pub no_place : (tree : List Directory) (path : Components) → ascends dir_cmp tree ≡ true → place_of tree path ≡ None → has_dir tree path ≡ false
no_place tree path up e = false_from_ne_true (has_dir tree path) (λ h.
    let w = Any-from_list_any (is_at path) tree h in
    let same : (get_or tree w.0 w.1).path ≡ path = ap (λ (d : Directory). d.path) w.3 ∙ sym ((path_eq-Decides path (w.1).path).0 w.4) in
    let no : Some w.0 ≡ None = sym (place_of-at tree path w.0 w.1 up w.2 same) ∙ e in
    cc)

some_path : (p : Components) → (p ≡ [] → ⊥) → is_empty p ≡ false
some_path [] some = absurd (some refl)
some_path (n ∷ p) some = refl

pub home_is : (stored : List Stored) (path : Components) (r : Option ℕ) → AreInOrder stored → (path ≡ [] → ⊥) → r ≡ place_of (directories_of stored) (parent_path path)
    → MatchOption r ((is_empty path || not (has_dir (directories_of stored) (parent_path path))) ≡ true)
    (λ at. (at < length stored) × ((d : Stored) → is_child_of (get_or stored at d).path path ≡ true))
home_is stored path None order some e =
    or_right (is_empty path) (not (has_dir (directories_of stored) (parent_path path))) (not_from_false _ (no_place (directories_of stored) (parent_path path) order (sym e)))
home_is stored path (Some at) order some e = (
  in_range,
  λ d.
      let h = (position-Some (is_at (parent_path path)) (directories_of stored) at (directory_of d) (sym e)).1 in
      let there : get_or (directories_of stored) at (directory_of d) ≡ directory_of (get_or stored at d) = get_or-map directory_of stored at d (directory_of d) in_range in
      let same : path_eq (parent_path path) (get_or stored at d).path ≡ true = ap (λ (x : Directory). is_at (parent_path path) x) (sym there) ∙ h in
      let one : parent_path path ≡ (get_or stored at d).path = (path_eq-Decides (parent_path path) (get_or stored at d).path).0 same in
      and_from _ _ (not_from_false _ (some_path path some)) ((path_eq-Decides (get_or stored at d).path (parent_path path)).1 (sym one)),
) where
  in_range : at < length stored
  in_range = by stored e where
    by : (ss : List Stored) → Some at ≡ place_of (directories_of ss) (parent_path path) → at < length ss
    by [] f = cc
    by (s ∷ ss) f = let h = (position-Some (is_at (parent_path path)) (directories_of (s ∷ ss)) at (directory_of s) (sym f)).0 in omega (arith, h, length-map (s ∷ ss) directory_of)

-- what depends on the paths of directories alone
has_dir-paths : (stored : List Stored) (p : Components) → has_dir (directories_of stored) p ≡ list_any (path_eq p) (paths_of stored)
has_dir-paths [] p = refl
has_dir-paths (s ∷ stored) p = ap (λ b. path_eq p s.path || b) (has_dir-paths stored p)

ascends-paths : (stored : List Stored) → ascends dir_cmp (directories_of stored) ≡ ascends path_cmp (paths_of stored)
ascends-paths [] = refl
ascends-paths (s ∷ []) = refl
ascends-paths (s ∷ t ∷ stored) = ap (λ b. cond (is_lt (path_cmp s.path t.path)) b false) (ascends-paths (t ∷ stored))

pub has_dir-same : (xs ys : List Stored) (p : Components) → paths_of xs ≡ paths_of ys → has_dir (directories_of xs) p ≡ has_dir (directories_of ys) p
has_dir-same xs ys p e = has_dir-paths xs p ∙ ap (list_any (path_eq p)) e ∙ sym (has_dir-paths ys p)

pub AreInOrder-same : (xs ys : List Stored) → paths_of xs ≡ paths_of ys → AreInOrder ys → AreInOrder xs
AreInOrder-same xs ys e h = ascends-paths xs ∙ ap (ascends path_cmp) e ∙ sym (ascends-paths ys) ∙ h

pub has_home-same : (xs ys : List Stored) (line : Line) → paths_of xs ≡ paths_of ys → has_home (directories_of xs) line ≡ has_home (directories_of ys) line
has_home-same xs ys line e = ap (λ b. not (is_dir_line line) && (not (is_empty line.path) && b)) (has_dir-same xs ys (parent_path line.path) e)

pub home_parts : (tree : List Directory) (lines : List Line) (line : Line) → list_all (has_home tree) (lines ++ line ∷ []) ≡ true → (list_all (has_home tree) lines ≡ true) × (has_home tree line ≡ true)
home_parts tree lines line h =
    let both = and_parts (list_all (has_home tree) lines) (list_all (has_home tree) (line ∷ [])) (sym (list_all-append (has_home tree) lines (line ∷ [])) ∙ h) in
    (both.0, (and_parts (has_home tree line) true both.1).0)

-- one more line in its place
pub placed_more : (start old new : List Row) (lines : List Line) (line : Line) → IsPermutation (start ++ map row_of_line lines) old → IsPermutation (old ++ row_of_line line ∷ []) new
    → IsPermutation (start ++ map row_of_line (lines ++ line ∷ [])) new
placed_more start old new lines line h k =
    let one = row_of_line line ∷ [] in
    IsPermutation-trans _ _ _
    (subst (λ (us : List Row). IsPermutation us (old ++ one)) (append_assoc start (map row_of_line lines) one ∙ ap (λ (us : List Row). start ++ us) (sym (map_push row_of_line lines line)))
    (IsPermutation-append_left one (start ++ map row_of_line lines) old h)) k
