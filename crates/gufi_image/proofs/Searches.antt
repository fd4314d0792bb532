-- What stands last, and the directory at a place.
use Rattle.std.proofs.Common.{◌≡◌, ℕ, zero, suc, ◌-◌, ◌<◌, Bool, true, false, List, [], ◌∷◌, length, get_or, Some, refl, sym, ap, subst, ◌∙◌, arith}
use Rattle.std.specs.Prelude.{slice_get}
use Rattle.std.specs.declared.cmp.Ordering.TheVariants.{Less}
use Rattle.std.specs.declared.cmp.Ordering.{Ordering}
use Rattle.std.specs.Ordering.{nat_cmp, is_lt}
use Rattle.std.specs.Cmp.{IsTotalOrder}
use Rattle.std.specs.Cmp.Lexicographic.{slice_cmp}
use Rattle.std.specs.List.{AllByRecursion, list_all}
use Rattle.std.proofs.lemmas.Bool.{and_parts}
use Rattle.std.proofs.lemmas.Option.{slice_get-get_or}
use Rattle.gufi_base.specs.Basics.{ascends, last_of}
use Rattle.gufi_base.specs.Paths.{Components, path_cmp}
use Rattle.gufi_base.proofs.SortedOnce.{below_all, ascends-tail}
use Rattle.gufi_tree.specs.declared.tree.Entry.{Entry}
use Rattle.gufi_tree.specs.Tree.{Directory, entry_cmp}
use Rattle.gufi_image.specs.Entries.{follows}
use Rattle.gufi_image.specs.Directories as directories
use Rattle.gufi_image.specs.Sorted.{AreSorted, IsParent}

-- the last element of a list
there_last : {X : Type 0} (d x : X) (xs : List X) → slice_get (x ∷ xs) (length xs) ≡ Some (last_of d (x ∷ xs))
there_last d x [] = refl
there_last d x (y ∷ ys) = there_last x y ys

last_there : {X : Type 0} (d x : X) (xs : List X) → slice_get (x ∷ xs) (length (x ∷ xs) - 1) ≡ Some (last_of d (x ∷ xs))
last_there d x xs = let k : length (x ∷ xs) - 1 ≡ length xs = omega arith in ap (slice_get (x ∷ xs)) k ∙ there_last d x xs

pub some_same : {X : Type 0} (x y : X) → Some x ≡ Some y → x ≡ y
some_same x y e = cc

pub last_entry : (before : List Entry) (last : Entry) (name : List ℕ) → Some last ≡ slice_get before (length before - 1) → is_lt (slice_cmp nat_cmp last.name name) ≡ follows before name
last_entry [] last name e = absurd cc
last_entry (x ∷ xs) last name e =
    let same : last ≡ last_of x xs = some_same last (last_of x xs) (e ∙ last_there x x xs) in
    ap (λ (v : Entry). is_lt (slice_cmp nat_cmp v.name name)) same

-- the last directory
get_last : {X : Type 0} (d x : X) (xs : List X) → get_or (x ∷ xs) (length (x ∷ xs) - 1) d ≡ last_of x xs
get_last {X} d x xs = let k : length (x ∷ xs) - 1 ≡ length xs = omega arith in ap (λ n. get_or (x ∷ xs) n d) k ∙ by x xs
  where
    by : (y : X) (ys : List X) → get_or (y ∷ ys) (length ys) d ≡ last_of y ys
    by y [] = refl
    by y (z ∷ zs) = by z zs

pub follows_none : (before : List Directory) (path : Components) → length before ≡ 0 → true ≡ directories.follows before path
follows_none [] path none = refl
follows_none (x ∷ xs) path none = absurd (omega (arith, none))

pub last_directory : (before : List Directory) (last : Directory) (path : Components) → 0 < length before → ((d : Directory) → last ≡ get_or before (length before - 1) d) → is_lt (path_cmp last.path path) ≡ directories.follows before path
last_directory [] last path some is = absurd (omega (arith, some))
last_directory (x ∷ xs) last path some is = ap (λ (v : Directory). is_lt (path_cmp v.path path)) (is x ∙ get_last x x xs)

-- a list in order
pub in_order : {X : Type 0} (cmp : X → X → Ordering) → IsTotalOrder cmp → (xs : List X) → ascends cmp xs ≡ true → (i j : ℕ) (d : X) → i < j → j < length xs → cmp (get_or xs i d) (get_or xs j d) ≡ Less
in_order cmp total [] up i j d lt within = absurd (omega (arith, within))
in_order cmp total (x ∷ xs) up i zero d lt within = absurd (omega (arith, lt))
in_order {X} cmp total (x ∷ xs) up zero (suc j) d lt within = at xs j (below_all cmp total x xs up) (omega (arith, within)) where
  at : (ys : List X) (k : ℕ) → AllByRecursion (λ y. cmp x y ≡ Less) ys → k < length ys → cmp x (get_or ys k d) ≡ Less
  at [] k h l = absurd (omega (arith, l))
  at (y ∷ ys) zero h l = h.0
  at (y ∷ ys) (suc k) h l = at ys k h.1 (omega (arith, l))
in_order cmp total (x ∷ xs) up (suc i) (suc j) d lt within = in_order cmp total xs (ascends-tail cmp total x xs up) i j d (omega (arith, lt)) (omega (arith, within))

pub false_from : (b : Bool) → (b ≡ true → ⊥) → b ≡ false
false_from true never = absurd (never refl)
false_from false never = refl

-- a directory at a place
pub all_there : {X : Type 0} (q : X → Bool) (xs : List X) (i : ℕ) (x : X) → list_all q xs ≡ true → slice_get xs i ≡ Some x → q x ≡ true
all_there q [] i x all e = absurd cc
all_there q (y ∷ ys) zero x all e = subst (λ v. q v ≡ true) (some_same y x e) (and_parts (q y) (list_all q ys) all).0
all_there q (y ∷ ys) (suc i) x all e = all_there q ys i x (and_parts (q y) (list_all q ys) all).1 e

pub parent_there : (before : List Directory) (i : ℕ) (parent : Directory) → AreSorted before → i < length before → ((d : Directory) → parent ≡ get_or before i d) → IsParent before i parent
parent_there before i parent sorted lt is =
    let there : slice_get before i ≡ Some parent = slice_get-get_or before i parent lt ∙ ap Some (sym (is parent)) in
    record { there = there; sorted = all_there (λ (dir : Directory). ascends entry_cmp dir.entries) before i parent sorted there }
