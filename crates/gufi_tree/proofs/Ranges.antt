-- In path order the directories at a path and below it stand side by side.
use Rattle.std.proofs.Common.{◌≡◌, ℕ, zero, suc, ◌+◌, ◌<◌, ◌≤◌, Bool, true, false, not, cond, List, [], ◌∷◌, ◌++◌, length, take, drop, refl, sym, ap, ◌∙◌, subst, arith, length-drop}
use Rattle.std.specs.List.{AllByRecursion, filter}
use Rattle.std.specs.declared.cmp.Ordering.TheVariants.{Less, Greater}
use Rattle.std.proofs.lemmas.Bool.{false_from_ne_true}
use Rattle.std.proofs.lemmas.List.{append-nil, length-take}
use Rattle.gufi_base.specs.Paths.{Components, path_cmp, is_prefix}
use Rattle.gufi_base.specs.Basics.{ascends}
use Rattle.gufi_base.proofs.Prefixes.{paths_total, stands_after_subtree, prefix_stands_before}
use Rattle.gufi_base.proofs.SortedOnce.{below_all, ascends-tail, less_turned}
use Rattle.gufi_tree.specs.Tree.{Directory, dir_cmp}
use Rattle.gufi_tree.specs.Places.{path_at}
use Rattle.gufi_tree.proofs.Below.{below_dirs}
use Rattle.gufi_tree.proofs.Built.{dir_cmp-total}
use Rattle.gufi_tree.proofs.Flat.{is_prefix-append, is_prefix-rest}

-- the directories that are neither at the path nor below it
abbrev pub other_dirs : List Directory → Components → List Directory
other_dirs tree path = filter (λ dir. not (is_prefix path dir.path)) tree

-- past what stands behind a path and not below it comes nothing below the path
pub never_again : (p b c : Components) → path_cmp p b ≡ Less → is_prefix p b ≡ false → path_cmp b c ≡ Less → is_prefix p c ≡ false
never_again p b c behind outside later = false_from_ne_true _ (λ e.
    let w = is_prefix-rest p c e in
    let back : path_cmp c b ≡ Less = ap (λ (q : Components). path_cmp q b) w.1 ∙ stands_after_subtree p b w.0 behind outside in
    let turned : path_cmp c b ≡ Greater = less_turned path_cmp paths_total b c later in
    absurd (cc))

none_below : (p b : Components) (ds : List Directory) → path_cmp p b ≡ Less → is_prefix p b ≡ false → AllByRecursion (λ (y : Directory). path_cmp b y.path ≡ Less) ds
    → (below_dirs ds p ≡ []) × (other_dirs ds p ≡ ds)
none_below p b [] behind outside later = (refl, refl)
none_below p b (c ∷ ds) behind outside later =
    let rest = none_below p b ds behind outside later.1 in
    (rw (never_again p b c.path behind outside later.0) rest.0, rw (never_again p b c.path behind outside later.0) (ap (λ l. c ∷ l) rest.1))

-- of directories behind a path those below it come first
pub below_first : (p : Components) (ds : List Directory) → AllByRecursion (λ (y : Directory). path_cmp p y.path ≡ Less) ds → ascends dir_cmp ds ≡ true
    → (below_dirs ds p ≡ take (length (below_dirs ds p)) ds) × (other_dirs ds p ≡ drop (length (below_dirs ds p)) ds)
below_first p [] behind up = (refl, refl)
below_first p (d ∷ ds) behind up = by (is_prefix p d.path) refl (below_first p ds behind.1 (ascends-tail dir_cmp dir_cmp-total d ds up)) where
  by : (b : Bool) → is_prefix p d.path ≡ b → (below_dirs ds p ≡ take (length (below_dirs ds p)) ds) × (other_dirs ds p ≡ drop (length (below_dirs ds p)) ds)
      → (cond b (d ∷ below_dirs ds p) (below_dirs ds p) ≡ take (length (cond b (d ∷ below_dirs ds p) (below_dirs ds p))) (d ∷ ds))
      × (cond (not b) (d ∷ other_dirs ds p) (other_dirs ds p) ≡ drop (length (cond b (d ∷ below_dirs ds p) (below_dirs ds p))) (d ∷ ds))
  by true e again = (ap (λ l. d ∷ l) again.0, again.1)
  by false e again =
      let none = none_below p d.path ds behind.0 e (below_all dir_cmp dir_cmp-total d ds up) in
      (rw (none.0) refl, rw (none.0) (ap (λ l. d ∷ l) none.1))

-- the others stand behind the path
pub others_behind : (p : Components) (ds : List Directory) → AllByRecursion (λ (y : Directory). path_cmp p y.path ≡ Less) ds
    → AllByRecursion (λ (y : Directory). (path_cmp p y.path ≡ Less) × (is_prefix p y.path ≡ false)) (other_dirs ds p)
others_behind p [] behind = tt
others_behind p (d ∷ ds) behind = by (is_prefix p d.path) refl (others_behind p ds behind.1) where
  by : (b : Bool) → is_prefix p d.path ≡ b → AllByRecursion (λ (y : Directory). (path_cmp p y.path ≡ Less) × (is_prefix p y.path ≡ false)) (other_dirs ds p)
      → AllByRecursion (λ (y : Directory). (path_cmp p y.path ≡ Less) × (is_prefix p y.path ≡ false)) (cond (not b) (d ∷ other_dirs ds p) (other_dirs ds p))
  by true e h = h
  by false e h = ((behind.0, e), h)

-- a path doesn't lead to one before it
pub not_before : (p b : Components) → path_cmp b p ≡ Less → is_prefix p b ≡ false
not_before p b before = false_from_ne_true _ (λ e. prefix_stands_before p b e before)

pub path_after : (x : Directory) (ds : List Directory) (k : ℕ) → AllByRecursion (λ (y : Directory). dir_cmp x y ≡ Less) ds → k < length ds → path_cmp x.path (path_at ds k) ≡ Less
path_after x [] k h within = absurd (omega arith)
path_after x (y ∷ ds) zero h within = h.0
path_after x (y ∷ ds) (suc k) h within = path_after x ds k h.1 (omega arith)

pub own_prefix : (p : Components) → is_prefix p p ≡ true
own_prefix p = subst (λ (q : Components). is_prefix p q ≡ true) (append-nil p) (is_prefix-append p [])

-- the directories at and below the one at a place stand from there on
pub below_range : (tree : List Directory) (k : ℕ) → ascends dir_cmp tree ≡ true → k < length tree → below_dirs tree (path_at tree k) ≡ take (length (below_dirs tree (path_at tree k))) (drop k tree)
below_range [] k up within = absurd (omega arith)
below_range (x ∷ tree) zero up within =
    rw (own_prefix x.path) (ap (λ l. x ∷ l) (below_first x.path tree (below_all dir_cmp dir_cmp-total x tree up) (ascends-tail dir_cmp dir_cmp-total x tree up)).0)
below_range (x ∷ tree) (suc k) up within =
    let out : is_prefix (path_at tree k) x.path ≡ false = not_before (path_at tree k) x.path (path_after x tree k (below_all dir_cmp dir_cmp-total x tree up) (omega arith)) in
    rw out (below_range tree k (ascends-tail dir_cmp dir_cmp-total x tree up) (omega arith))

-- what is left behind the first and so many more
pub past_first : (x : Directory) (xs : List Directory) (n : ℕ) → drop (0 + suc n) (x ∷ xs) ≡ drop n xs
past_first x xs n = let e : 0 + suc n ≡ suc n = omega arith in ap (λ (k : ℕ). drop k (x ∷ xs)) e

pub past_next : (x : Directory) (xs : List Directory) (k n : ℕ) → drop (suc k + n) (x ∷ xs) ≡ drop (k + n) xs
past_next x xs k n = let e : suc k + n ≡ suc (k + n) = omega arith in ap (λ (m : ℕ). drop m (x ∷ xs)) e

-- and the others before and behind them
pub other_range : (tree : List Directory) (k : ℕ) → ascends dir_cmp tree ≡ true → k < length tree
    → other_dirs tree (path_at tree k) ≡ take k tree ++ drop (k + length (below_dirs tree (path_at tree k))) tree
other_range [] k up within = absurd (omega arith)
other_range (x ∷ tree) zero up within =
    rw (own_prefix x.path) ((below_first x.path tree (below_all dir_cmp dir_cmp-total x tree up) (ascends-tail dir_cmp dir_cmp-total x tree up)).1 ∙ sym (past_first x tree (length (below_dirs tree x.path))))
other_range (x ∷ tree) (suc k) up within =
    let out : is_prefix (path_at tree k) x.path ≡ false = not_before (path_at tree k) x.path (path_after x tree k (below_all dir_cmp dir_cmp-total x tree up) (omega arith)) in
    rw out (ap (λ l. x ∷ l) (other_range tree k (ascends-tail dir_cmp dir_cmp-total x tree up) (omega arith)
    ∙ ap (λ l. take k tree ++ l) (sym (past_next x tree k (length (below_dirs tree (path_at tree k)))))))

-- there are as many directories behind the place, and more
pub below_within : (tree : List Directory) (k : ℕ) → ascends dir_cmp tree ≡ true → k < length tree → k + length (below_dirs tree (path_at tree k)) ≤ length tree
below_within tree k up within =
    let n = length (below_dirs tree (path_at tree k)) in
    omega (arith, ap length (below_range tree k up within), length-take n (drop k tree), length-drop k tree)
