-- A tree with a subtree replaced: what stands before the subtree, the part below its path, and what stands behind.
use Rattle.std.proofs.Common.{◌≡◌, ℕ, zero, suc, ◌+◌, ◌<◌, true, false, List, [], ◌∷◌, ◌++◌, length, take, drop, map, refl, sym, ap, ◌∙◌, subst, arith}
use Rattle.std.specs.List.{AllByRecursion}
use Rattle.std.specs.List.Sorted.{IsPermutation}
use Rattle.std.specs.declared.cmp.Ordering.{Ordering}
use Rattle.std.specs.declared.cmp.Ordering.TheVariants.{Less, Equal, Greater}
use Rattle.std.specs.Ordering.{ordering_then}
use Rattle.std.proofs.lemmas.Cmp.{nat_list_cmp_total, tied_itself}
use Rattle.std.proofs.lemmas.List.{append_assoc}
use Rattle.std.proofs.lemmas.List.Sorted.{IsPermutation-append_right, IsPermutation-append_comm}
use Rattle.gufi_base.specs.Basics.{sort_by, ascends}
use Rattle.gufi_base.specs.Paths.{Components, path_cmp, is_prefix}
use Rattle.gufi_base.proofs.Prefixes.{name_order, stands_after_subtree}
use Rattle.gufi_base.proofs.SortedOnce.{below_all, ascends-tail, ascends-cons, sort_by-to}
use Rattle.gufi_tree.specs.Tree.{Directory, dir_cmp}
use Rattle.gufi_tree.specs.Places.{path_at}
use Rattle.gufi_tree.specs.Graft.{put_below, graft}
use Rattle.gufi_tree.proofs.Below.{below_dirs}
use Rattle.gufi_tree.proofs.Built.{dir_cmp-total}
use Rattle.gufi_tree.proofs.Ranges.{other_dirs, other_range, others_behind, below_first, own_prefix, path_after, not_before, past_first, past_next}

-- ---- the order of paths below a path

same_order : (p a b : Components) → path_cmp (p ++ a) (p ++ b) ≡ path_cmp a b
same_order [] a b = refl
same_order (n ∷ p) a b = ap (λ (o : Ordering). ordering_then o (path_cmp (p ++ a) (p ++ b))) (tied_itself nat_list_cmp_total n) ∙ same_order p a b

-- what stands before a path stands before all below it
before_longer : (x p q : Components) → path_cmp x p ≡ Less → path_cmp x (p ++ q) ≡ Less
before_longer [] [] q e = absurd (cc e)
before_longer [] (m ∷ p) q e = refl
before_longer (n ∷ x) [] q e = absurd (cc e)
before_longer (n ∷ x) (m ∷ p) q e = by (name_order n m) refl e (before_longer x p q) where
  by : (o : Ordering) → name_order n m ≡ o → ordering_then o (path_cmp x p) ≡ Less → (path_cmp x p ≡ Less → path_cmp x (p ++ q) ≡ Less)
      → ordering_then (name_order n m) (path_cmp x (p ++ q)) ≡ Less
  by Less w g ih = rw w refl
  by Equal w g ih = rw w (ih g)
  by Greater w g ih = cc

-- ---- elements of joined lists and of their parts

module _ {X : Type 0} (P : X → Type 0) where
  all_joined : (xs ys : List X) → AllByRecursion P xs → AllByRecursion P ys → AllByRecursion P (xs ++ ys)
  all_joined [] ys h k = k
  all_joined (x ∷ xs) ys h k = (h.0, all_joined xs ys h.1 k)

  all_front : (n : ℕ) (xs : List X) → AllByRecursion P xs → AllByRecursion P (take n xs)
  all_front zero xs h = tt
  all_front (suc n) [] h = tt
  all_front (suc n) (x ∷ xs) h = (h.0, all_front n xs h.1)

  all_rest : (n : ℕ) (xs : List X) → AllByRecursion P xs → AllByRecursion P (drop n xs)
  all_rest zero xs h = h
  all_rest (suc n) [] h = tt
  all_rest (suc n) (x ∷ xs) h = all_rest n xs h.1

rest_ascends : (n : ℕ) (ds : List Directory) → ascends dir_cmp ds ≡ true → ascends dir_cmp (drop n ds) ≡ true
rest_ascends zero ds up = up
rest_ascends (suc n) [] up = refl
rest_ascends (suc n) (d ∷ ds) up = rest_ascends n ds (ascends-tail dir_cmp dir_cmp-total d ds up)

-- ---- the part below a path, and what stands behind it

module _ (p : Components) where
  abbrev pub IsBehind : Directory → Type 0
  IsBehind y = (path_cmp p y.path ≡ Less) × (is_prefix p y.path ≡ false)

  moved : (d : Directory) (ds : List Directory) → AllByRecursion (λ (y : Directory). dir_cmp d y ≡ Less) ds → AllByRecursion (λ (y : Directory). dir_cmp (put_below p d) y ≡ Less) (map (put_below p) ds)
  moved d [] h = tt
  moved d (e ∷ ds) h = (same_order p d.path e.path ∙ h.0, moved d ds h.1)

  behind_part : (d : Directory) (rest : List Directory) → AllByRecursion IsBehind rest → AllByRecursion (λ (y : Directory). dir_cmp (put_below p d) y ≡ Less) rest
  behind_part d [] h = tt
  behind_part d (y ∷ rest) h = (stands_after_subtree p y.path d.path (h.0).0 (h.0).1, behind_part d rest h.1)

  part_ascends : (ds rest : List Directory) → ascends dir_cmp ds ≡ true → ascends dir_cmp rest ≡ true → AllByRecursion IsBehind rest → ascends dir_cmp (map (put_below p) ds ++ rest) ≡ true
  part_ascends [] rest up rests h = rests
  part_ascends (d ∷ ds) rest up rests h =
      ascends-cons dir_cmp dir_cmp-total (put_below p d) (map (put_below p) ds ++ rest)
      (all_joined (λ (y : Directory). dir_cmp (put_below p d) y ≡ Less) (map (put_below p) ds) rest (moved d ds (below_all dir_cmp dir_cmp-total d ds up)) (behind_part d rest h))
      (part_ascends ds rest (ascends-tail dir_cmp dir_cmp-total d ds up) rests h)

  part_behind : (x : Directory) (ds : List Directory) → path_cmp x.path p ≡ Less → AllByRecursion (λ (y : Directory). dir_cmp x y ≡ Less) (map (put_below p) ds)
  part_behind x [] e = tt
  part_behind x (d ∷ ds) e = (before_longer x.path p d.path e, part_behind x ds e)

-- the tree with the part in the place of the directory at a place and all below it
abbrev pub replaced : List Directory → ℕ → List Directory → List Directory
replaced tree k part = take k tree ++ (map (put_below (path_at tree k)) part ++ drop (k + length (below_dirs tree (path_at tree k))) tree)

pub replaced_ascends : (tree part : List Directory) (k : ℕ) → ascends dir_cmp tree ≡ true → ascends dir_cmp part ≡ true → k < length tree → ascends dir_cmp (replaced tree k part) ≡ true
replaced_ascends [] part k up parts within = absurd (omega arith)
replaced_ascends (x ∷ tree) part zero up parts within =
    let behind = below_all dir_cmp dir_cmp-total x tree up in
    let rests = ascends-tail dir_cmp dir_cmp-total x tree up in
    let others : other_dirs tree x.path ≡ drop (length (below_dirs tree x.path)) tree = (below_first x.path tree behind rests).1 in
    rw (own_prefix x.path, past_first x tree (length (below_dirs tree x.path)))
    (part_ascends x.path part (drop (length (below_dirs tree x.path)) tree) parts (rest_ascends (length (below_dirs tree x.path)) tree rests)
    (subst (AllByRecursion (IsBehind x.path)) others (others_behind x.path tree behind)))
replaced_ascends (x ∷ tree) part (suc k) up parts within =
    let behind = below_all dir_cmp dir_cmp-total x tree up in
    let after : path_cmp x.path (path_at tree k) ≡ Less = path_after x tree k behind (omega arith) in
    let first : AllByRecursion (λ (y : Directory). dir_cmp x y ≡ Less) (replaced tree k part) =
    all_joined _ (take k tree) _ (all_front _ k tree behind)
    (all_joined _ (map (put_below (path_at tree k)) part) _ (part_behind (path_at tree k) x part after) (all_rest _ (k + length (below_dirs tree (path_at tree k))) tree behind)) in
    let out : is_prefix (path_at tree k) x.path ≡ false = not_before (path_at tree k) x.path after in
    rw (out, past_next x tree k (length (below_dirs tree (path_at tree k)))) (ascends-cons dir_cmp dir_cmp-total x (replaced tree k part) first (replaced_ascends tree part k (ascends-tail dir_cmp dir_cmp-total x tree up) parts (omega arith)))

-- A graft puts the part in the place of what stands at the path and below it.
pub grafted : (tree part : List Directory) (k : ℕ) → ascends dir_cmp tree ≡ true → ascends dir_cmp part ≡ true → k < length tree → graft tree (path_at tree k) part ≡ replaced tree k part
unfolding graft
grafted tree part k up parts within =
    let p = path_at tree k in
    let n = length (below_dirs tree p) in
    let some : List Directory = map (put_below p) part in
    let same : IsPermutation ((take k tree ++ drop (k + n) tree) ++ some) (take k tree ++ (some ++ drop (k + n) tree)) =
    subst (λ l. IsPermutation l (take k tree ++ (some ++ drop (k + n) tree))) (sym (append_assoc (take k tree) (drop (k + n) tree) some))
    (IsPermutation-append_right (take k tree) _ _ (IsPermutation-append_comm (drop (k + n) tree) some)) in
    ap (λ l. sort_by dir_cmp (l ++ some)) (other_range tree k up within) ∙ sort_by-to dir_cmp dir_cmp-total _ _ same (replaced_ascends tree part k up parts within)
