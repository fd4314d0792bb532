-- The flags of a tree with a subtree replaced: at a path that neither leads to the subtree nor lies in it as before, and inside of it those of the part.
use Rattle.std.proofs.Common.{◌≡◌, ℕ, ◌<◌, ◌≤◌, Bool, true, false, not, ◌&&◌, ◌||◌, List, [], ◌∷◌, ◌++◌, map, length, ◌⊎◌, inl, inr, refl, sym, ap, ◌∙◌, arith}
use Rattle.std.specs.Prelude.{nat_lt, nat_le}
use Rattle.std.proofs.lemmas.Bool.{true≢false, false_from_ne_true, and_parts, cases_lt, lt-ltb, le-ltb, ltb-true}
use Rattle.std.proofs.lemmas.Bool.Decides.{same_from_decides}
use Rattle.std.proofs.lemmas.List.{length-append, length-map, append_assoc, append_cancel_left}
use Rattle.std.proofs.lemmas.List.Folds.{list_all-map}
use Rattle.gufi_base.specs.Paths.{Components, is_prefix, is_proper_prefix, is_child_of}
use Rattle.gufi_base.proofs.Prefixes.{prefix_of_child}
use Rattle.gufi_access.specs.Tried.{covers}
use Rattle.gufi_tree.specs.Tree.{Directory, rights_of, HasTreeShape}
use Rattle.gufi_tree.specs.Places.{path_at}
use Rattle.gufi_tree.specs.Graft.{put_below, graft}
use Rattle.gufi_tree.proofs.Below.{below_dirs}
use Rattle.gufi_tree.proofs.Descent.{child_name, is_child_of-push}
use Rattle.gufi_tree.proofs.GraftBelow.{same_prefix, put_row_below, below_outside, below_inside, rows_outside, rows_inside}
use Rattle.gufi_tree.proofs.GraftShape.{graft_shape}
use Rattle.gufi_tree.proofs.Kids.{rows_under}
use Rattle.gufi_tree.proofs.Placed.{list_all-agree}
use Rattle.gufi_roll.specs.CanRoll.{rows_below, is_covered, can_roll}
use Rattle.gufi_roll.specs.Below.{are_covered}
use Rattle.gufi_roll.proofs.Laws.{list_all-kept, rows_below-under}

-- ---- only what is at and below a path decides

-- what a path lies properly below, its parent is or lies below
parent_below : (path v q : Components) → is_proper_prefix path q ≡ true → is_child_of v q ≡ true → is_prefix path v ≡ true
parent_below path v q proper child =
    let both = and_parts (is_prefix path q) (nat_lt (length path) (length q)) proper in
    let name = child_name v q child in
    elim (prefix_of_child path v name.0 (ap (is_prefix path) (sym name.1) ∙ both.0)) [
      | inl same ↦ (let longer = ltb-true (length path) (length q) both.1 in absurd (omega (arith, longer, ap length same, ap length name.1)))
      | inr up ↦ up
    ]

covered_below : (tree : List Directory) (path : Components) (d : Directory) → is_proper_prefix path d.path ≡ true → is_covered tree d ≡ is_covered (below_dirs tree path) d
covered_below tree path d proper =
    list_all-kept (λ v. not (is_child_of v.path d.path) || covers (rights_of v.rec) (rights_of d.rec)) (λ v. is_prefix path v.path) tree (λ v out.
    ap (λ b. not b || covers (rights_of v.rec) (rights_of d.rec)) (false_from_ne_true (is_child_of v.path d.path) (λ child. true≢false (sym (parent_below path v.path d.path proper child) ∙ out))))

pub are_covered-below : (tree : List Directory) (path : Components) → are_covered tree path ≡ are_covered (below_dirs tree path) path
are_covered-below tree path =
    list_all-kept (λ d. not (is_proper_prefix path d.path) || is_covered tree d) (λ d. is_prefix path d.path) tree (λ d out. ap (λ b. not (b && nat_lt (length path) (length d.path)) || is_covered tree d) out)
    ∙ list_all-agree (λ d. not (is_proper_prefix path d.path) || is_covered tree d) (λ d. not (is_proper_prefix path d.path) || is_covered (below_dirs tree path) d)
    (λ d. by d (is_proper_prefix path d.path) refl) (below_dirs tree path) where
      by : (d : Directory) (b : Bool) → is_proper_prefix path d.path ≡ b → (not b || is_covered tree d) ≡ (not b || is_covered (below_dirs tree path) d)
      by d true e = covered_below tree path d e
      by d false e = refl

-- ---- directories put below a path

module _ (p : Components) where
  same_child : (a b : Components) → is_child_of (p ++ a) (p ++ b) ≡ is_child_of a b
  same_child a b = same_from_decides {P = is_child_of a b ≡ true} (is_child_of (p ++ a) (p ++ b)) (is_child_of a b) (down, up) (λ h. h, λ h. h) where
    down : is_child_of (p ++ a) (p ++ b) ≡ true → is_child_of a b ≡ true
    down h =
        let name = child_name (p ++ a) (p ++ b) h in
        let same : b ≡ a ++ name.0 ∷ [] = append_cancel_left p b (a ++ name.0 ∷ []) (name.1 ∙ append_assoc p a (name.0 ∷ [])) in
        ap (is_child_of a) same ∙ is_child_of-push a name.0

    up : is_child_of a b ≡ true → is_child_of (p ++ a) (p ++ b) ≡ true
    up h =
        let name = child_name a b h in
        ap (is_child_of (p ++ a)) (ap (λ (q : Components). p ++ q) name.1 ∙ sym (append_assoc p a (name.0 ∷ []))) ∙ is_child_of-push (p ++ a) name.0

  same_proper : (a b : Components) → is_proper_prefix (p ++ a) (p ++ b) ≡ is_proper_prefix a b
  same_proper a b =
      ap (λ t. t && nat_lt (length (p ++ a)) (length (p ++ b))) (same_prefix p a b) ∙ ap (λ t. is_prefix a b && t) (by (cases_lt (length a) (length b))) where
        by : (length a < length b) ⊎ (length b ≤ length a) → nat_lt (length (p ++ a)) (length (p ++ b)) ≡ nat_lt (length a) (length b)
        by (inl less) = lt-ltb (length (p ++ a)) (length (p ++ b)) (omega (arith, length-append p a, length-append p b)) ∙ sym (lt-ltb (length a) (length b) less)
        by (inr more) = le-ltb (length (p ++ a)) (length (p ++ b)) (omega (arith, length-append p a, length-append p b)) ∙ sym (le-ltb (length a) (length b) more)

  covered_moved : (ds : List Directory) (d : Directory) → is_covered (map (put_below p) ds) (put_below p d) ≡ is_covered ds d
  covered_moved ds d =
      list_all-map (λ v. not (is_child_of v.path (p ++ d.path)) || covers (rights_of v.rec) (rights_of d.rec)) (put_below p) ds
      ∙ list_all-agree (λ v. not (is_child_of (p ++ v.path) (p ++ d.path)) || covers (rights_of v.rec) (rights_of d.rec)) (λ v. not (is_child_of v.path d.path) || covers (rights_of v.rec) (rights_of d.rec))
      (λ v. ap (λ b. not b || covers (rights_of v.rec) (rights_of d.rec)) (same_child v.path d.path)) ds

  are_covered-moved : (ds : List Directory) (path : Components) → are_covered (map (put_below p) ds) (p ++ path) ≡ are_covered ds path
  are_covered-moved ds path =
      list_all-map (λ d. not (is_proper_prefix (p ++ path) d.path) || is_covered (map (put_below p) ds) d) (put_below p) ds
      ∙ list_all-agree (λ d. not (is_proper_prefix (p ++ path) (p ++ d.path)) || is_covered (map (put_below p) ds) (put_below p d)) (λ d. not (is_proper_prefix path d.path) || is_covered ds d)
      (λ d. ap (λ b. not b || is_covered (map (put_below p) ds) (put_below p d)) (same_proper path d.path) ∙ ap (λ b. not (is_proper_prefix path d.path) || b) (covered_moved ds d)) ds

-- ---- flags

-- the same covering and as many rows
same_flag : (a b : List Directory) (limit : ℕ) (x y : Components) → are_covered a x ≡ are_covered b y → rows_below a x ≡ rows_below b y → can_roll a limit x ≡ can_roll b limit y
same_flag a b limit x y e f = ap (λ t. t && nat_le (rows_below a x) limit) e ∙ ap (λ (n : ℕ). are_covered b y && nat_le n limit) f

-- Outside of the replaced subtree a flag is what it was, where the path doesn't lead to the subtree.
pub flag_outside : (tree part : List Directory) (k limit : ℕ) (path : Components) → HasTreeShape tree → HasTreeShape part → k < length tree
    → is_prefix path (path_at tree k) ≡ false → is_prefix (path_at tree k) path ≡ false
    → can_roll (graft tree (path_at tree k) part) limit path ≡ can_roll tree limit path
flag_outside tree part k limit path shape own within out apart =
    let new = graft tree (path_at tree k) part in
    let covered : are_covered (graft tree (path_at tree k) part) path ≡ are_covered tree path =
    are_covered-below new path ∙ ap (λ (ds : List Directory). are_covered ds path) (below_outside tree part k path shape own within out apart) ∙ sym (are_covered-below tree path) in
    let rows : rows_below (graft tree (path_at tree k) part) path ≡ rows_below tree path =
    rows_below-under new (graft_shape tree part k shape own within) path ∙ ap length (rows_outside tree part k path shape own within out apart) ∙ sym (rows_below-under tree shape path) in
    same_flag new tree limit path path covered rows

-- Inside of it a flag is the part's.
pub flag_inside : (tree part : List Directory) (k limit : ℕ) (path : Components) → HasTreeShape tree → HasTreeShape part → k < length tree
    → can_roll (graft tree (path_at tree k) part) limit (path_at tree k ++ path) ≡ can_roll part limit path
flag_inside tree part k limit path shape own within =
    let new = graft tree (path_at tree k) part in
    let p = path_at tree k in
    let covered : are_covered (graft tree (path_at tree k) part) (path_at tree k ++ path) ≡ are_covered part path =
    are_covered-below new (p ++ path) ∙ ap (λ (ds : List Directory). are_covered ds (p ++ path)) (below_inside tree part k path shape own within)
    ∙ are_covered-moved p (below_dirs part path) path ∙ sym (are_covered-below part path) in
    let rows : rows_below (graft tree (path_at tree k) part) (path_at tree k ++ path) ≡ rows_below part path =
    rows_below-under new (graft_shape tree part k shape own within) (p ++ path) ∙ ap length (rows_inside tree part k path shape own within)
    ∙ length-map (rows_under part path) (put_row_below p) ∙ sym (rows_below-under part own path) in
    same_flag new part limit (p ++ path) path covered rows
