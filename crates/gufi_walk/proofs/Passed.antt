-- What a test of sums passes over: with all rows at and below a directory, each piece there.
use Rattle.std.proofs.Common.{◌≡◌, ℕ, ◌<◌, ◌≤◌, Bool, true, false, cond, List, [], ◌∷◌, ◌++◌, length, refl, sym, ap, ◌∙◌, subst, arith, length-append}
use Rattle.std.specs.Prelude.{not, ◌&&◌, Option, Some}
use Rattle.std.specs.List.{filter}
use Rattle.std.specs.List.Sorted.{IsPermutation}
use Rattle.std.proofs.lemmas.Bool.{false≢true, and_parts}
use Rattle.std.proofs.lemmas.List.Sorted.{IsPermutation-filter_both, length_permutation}
use Rattle.gufi_base.specs.declared.record.Row.{Row}
use Rattle.gufi_base.specs.Paths.{Components, path_eq, is_prefix}
use Rattle.gufi_base.specs.Rows.{home}
use Rattle.gufi_access.specs.declared.class.Principal.{Principal}
use Rattle.gufi_sums.specs.declared.summary.Summary.{Summary}
use Rattle.gufi_sums.specs.Total.{total, join, NoneMeets}
use Rattle.gufi_sums.specs.Laws.{total-append, total-IsPermutation}
use Rattle.gufi_tree.specs.Tree.{Directory, all_rows, subtree_rows, home_rows, is_kinded, HasTreeShape}
use Rattle.gufi_tree.specs.Places.{path_at}
use Rattle.gufi_tree.specs.Listed.{is_listed}
use Rattle.gufi_tree.proofs.Built.{Has, path_eq-Decides}
use Rattle.gufi_tree.proofs.Flat.{all_at}
use Rattle.gufi_tree.proofs.Ranges.{own_prefix}
use Rattle.gufi_roll.specs.CanRoll.{can_roll}
use Rattle.gufi_roll.proofs.Tops.{prefix_trans}
use Rattle.gufi_snap.specs.Pieces.{piece, tree_sum}
use Rattle.gufi_snap.proofs.Ranges.{own_one}
use Rattle.gufi_walk.specs.Walk.{meets}
use Rattle.gufi_walk.proofs.Pieces.{plain_rows, own_piece}
use Rattle.gufi_walk.proofs.Walked.{none_met, at_place}

-- ---- pieces among the rows at and below a directory

-- of what passes a wider test, those that pass a narrower one are all that pass it
pub filter-wider : {X : Type 0} (wide narrow : X → Bool) → ((x : X) → narrow x ≡ true → wide x ≡ true) → (xs : List X) → filter narrow (filter wide xs) ≡ filter narrow xs
filter-wider wide narrow implied [] = refl
filter-wider {X} wide narrow implied (x ∷ xs) = by (wide x) (narrow x) refl refl (filter-wider wide narrow implied xs) where
  by : (a b : Bool) → wide x ≡ a → narrow x ≡ b → filter narrow (filter wide xs) ≡ filter narrow xs
      → filter narrow (cond a (x ∷ filter wide xs) (filter wide xs)) ≡ cond b (x ∷ filter narrow xs) (filter narrow xs)
  by true b e f more = ap (λ c. cond c (x ∷ filter narrow (filter wide xs)) (filter narrow (filter wide xs))) f ∙ ap (λ l. cond b (x ∷ l) l) more
  by false true e f more = absurd (false≢true (sym e ∙ implied x f))
  by false false e f more = more

module _ (tree : List Directory) (path : Components) where
  -- the rows at and below a path, as those that pass a narrower test and the others
  rows_split : (narrow : Row → Bool) → ((row : Row) → narrow row ≡ true → is_prefix path (home row) ≡ true)
      → (rest : List Row) × IsPermutation (subtree_rows tree path) (filter narrow (all_rows tree) ++ rest)
  rows_split narrow implied =
      let others : List Row = filter (λ row. not (narrow row)) (subtree_rows tree path) in (
        others,
        subst (λ l. IsPermutation (subtree_rows tree path) (l ++ others)) (filter-wider (λ (row : Row). is_prefix path (home row)) narrow implied (all_rows tree))
            (IsPermutation-filter_both narrow (λ row. not (narrow row)) (λ row. refl) (subtree_rows tree path)),
      )

  -- those that are listed from the path on are no more
  pub listed_few : (who : Principal) → length (plain_rows tree who path) ≤ length (subtree_rows tree path)
  listed_few who =
      let listed : Row → Bool = λ row. is_listed tree who path (home row) in
      let w = rows_split listed (λ row h. (and_parts _ _ (and_parts _ _ h).0).0) in
      omega (arith, length_permutation _ _ w.1, length-append (filter listed (all_rows tree)) w.0)

  -- the rows of a piece at or below the path are among them
  piece_among : (limit : ℕ) (below : Components) → is_prefix path below ≡ true → (rest : List Row) × IsPermutation (subtree_rows tree path) (piece tree below limit ++ rest)
  piece_among limit below leads = by (can_roll tree limit below) where
    by : (b : Bool) → (rest : List Row) × IsPermutation (subtree_rows tree path) (cond b (subtree_rows tree below) (home_rows tree below) ++ rest)
    by true = rows_split (λ row. is_prefix below (home row)) (λ row h. prefix_trans path below (home row) leads h)
    by false = rows_split (λ row. path_eq below (home row)) (λ row h. subst (λ p. is_prefix path p ≡ true) ((path_eq-Decides below (home row)).0 h) leads)

-- ---- how many directories there are

module _ (tree : List Directory) (shape : HasTreeShape tree) (d : Directory) (there : Has tree d) where
  home_counted : 0 < (total (home_rows tree d.path)).dirs
  home_counted =
      let same = ap (λ (s : Summary). s.dirs) (total-IsPermutation _ _ (own_piece tree shape d there)) in
      omega (arith, same, own_one d (all_at is_kinded tree d shape.kinds there))

  tree_counted : 0 < (tree_sum tree d.path).dirs
  tree_counted =
      let w = rows_split tree d.path (λ row. path_eq d.path (home row)) (λ row h. subst (λ p. is_prefix d.path p ≡ true) ((path_eq-Decides d.path (home row)).0 h) (own_prefix d.path)) in
      let parts = ap (λ (s : Summary). s.dirs) (total-IsPermutation _ _ w.1 ∙ total-append (home_rows tree d.path) w.0) in
      omega (arith, parts, home_counted)

  piece_counted : (limit : ℕ) → 0 < (total (piece tree d.path limit)).dirs
  piece_counted limit = by (can_roll tree limit d.path) where
    by : (b : Bool) → 0 < (total (cond b (subtree_rows tree d.path) (home_rows tree d.path))).dirs
    by true = tree_counted
    by false = home_counted

-- the sums of a directory's piece and of all at and below it count the directory itself
pub tree_has_dir : (tree : List Directory) → HasTreeShape tree → (k : ℕ) → k < length tree → 0 < (tree_sum tree (path_at tree k)).dirs
tree_has_dir tree shape k within = let w = at_place tree k within in subst (λ p. 0 < (tree_sum tree p).dirs) w.2 (tree_counted tree shape w.0 w.1)

pub piece_has_dir : (tree : List Directory) → HasTreeShape tree → (limit k : ℕ) → k < length tree → 0 < (total (piece tree (path_at tree k) limit)).dirs
piece_has_dir tree shape limit k within = let w = at_place tree k within in subst (λ p. 0 < (total (piece tree p limit)).dirs) w.2 (piece_counted tree shape w.0 w.1 limit)

-- ---- tests

-- what a test says of two lists joined, it says of each
abbrev pub IsOfParts : (Summary → Bool) → Type 0
IsOfParts skips = (a b : Summary) → skips (join a b) ≡ true → (skips a ≡ true) × (skips b ≡ true)

-- where all rows at and below a directory are passed over, each piece there is
pub piece_passed : (skips : Summary → Bool) → IsOfParts skips → (tree : List Directory) (limit : ℕ) (path below : Components) → is_prefix path below ≡ true
    → skips (tree_sum tree path) ≡ true → skips (total (piece tree below limit)) ≡ true
piece_passed skips parts tree limit path below leads passed =
    let w = piece_among tree path limit below leads in
    let whole : join (total (piece tree below limit)) (total w.0) ≡ tree_sum tree path = sym (total-append (piece tree below limit) w.0) ∙ sym (total-IsPermutation _ _ w.1) in
    (parts (total (piece tree below limit)) (total w.0) (ap skips whole ∙ passed)).0

-- so where the directory's own piece is not, all of them aren't
pub own_not_passed : (skips : Summary → Bool) → IsOfParts skips → (tree : List Directory) (limit : ℕ) (path : Components) (passed : Bool)
    → passed ≡ skips (total (piece tree path limit)) → passed ≡ false → passed ≡ skips (tree_sum tree path)
own_not_passed skips parts tree limit path passed is not_ = not_ ∙ by (skips (tree_sum tree path)) refl where
  by : (b : Bool) → skips (tree_sum tree path) ≡ b → false ≡ b
  by true e = absurd (false≢true (sym not_ ∙ is ∙ piece_passed skips parts tree limit path path (own_prefix path) e))
  by false e = refl

-- what isn't passed over isn't ruled out, whoever asks
pub not_ruled_out : (sees passed skipped : Bool) → passed ≡ skipped → passed ≡ false → passed ≡ (sees && skipped)
not_ruled_out true passed skipped is not_ = is
not_ruled_out false passed skipped is not_ = not_

-- what meets the question lies within the bound
abbrev pub Bounds : Option ℕ → (Row → ℕ → Bool) → Type 0
Bounds deepest asks = (most : ℕ) → deepest ≡ Some most → (row : Row) (depth : ℕ) → asks row depth ≡ true → depth ≤ most

-- a test of sums and a bound of depths that pass over no row that meets the question
pub record IsTest (skips : Summary → Bool) (deepest : Option ℕ) (asks : Row → ℕ → Bool) : Type 0 where
  pub bounds : Bounds deepest asks
  pub parts : IsOfParts skips
  pub none : (above : ℕ) (rows : List Row) → skips (total rows) ≡ true → filter (meets asks above) rows ≡ []

-- as one that passes over none that meets a query tells of a question that is met only where the query is
pub test_of_query : (skips : Summary → Bool) (deepest : Option ℕ) (query asks : Row → ℕ → Bool) → Bounds deepest query → IsOfParts skips
    → ((sum : Summary) → skips sum ≡ true → (rows : List Row) → total rows ≡ sum → NoneMeets query rows) → ((row : Row) (depth : ℕ) → asks row depth ≡ true → query row depth ≡ true)
    → IsTest skips deepest asks
test_of_query skips deepest query asks bounds parts sound implied = record {
  bounds = λ most is row depth e. bounds most is row depth (implied row depth e);
  parts = parts;
  none = λ above rows passed. none_met above asks query rows implied (sound (total rows) passed rows refl);
}
