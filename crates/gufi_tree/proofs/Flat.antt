-- The flat forms of listing say the same as the descent, component by component.
use Rattle.std.proofs.Common.{◌≡◌, ◌≢◌, ℕ, Bool, true, false, not, cond, ◌||◌, ◌&&◌, Option, Some, None, List, [], ◌∷◌, ◌++◌, length, refl, sym, ap, ◌∙◌, append_assoc, arith, length-append, inl, inr}
use Rattle.std.specs.Prelude.{bytes_eq, nat_lt}
use Rattle.std.specs.List.{filter, list_any, list_all}
use Rattle.std.specs.declared.cmp.Ordering.TheVariants.{Less}
use Rattle.std.proofs.lemmas.Bool.{true≢false, false≢true, false_from_ne_true, and_parts, and_from, lt-ltb, le-ltb}
use Rattle.std.proofs.lemmas.List.{append-nil}
use Rattle.std.proofs.lemmas.Slice.Eq.{bytes_eq-Decides}
use Rattle.gufi_base.specs.Basics.{ascends}
use Rattle.gufi_base.specs.Paths.{Components, path_eq, parent_path, is_prefix, is_proper_prefix}
use Rattle.gufi_base.proofs.SortedOnce.{below_all, ascends-tail}
use Rattle.gufi_access.specs.declared.class.Principal.{Principal}
use Rattle.gufi_tree.specs.Tree.{Directory, dir_cmp, has_dir, is_at, may_list, HasTreeShape}
use Rattle.gufi_tree.specs.Listed.{is_between, is_listed}
use Rattle.gufi_tree.proofs.Built.{Has, All-weaken, dir_cmp-total, path_eq-Decides, path_eq-refl, path_eq-less, parent_path-child}
use Rattle.gufi_tree.proofs.Filters.{any-none, any-some, any-found, Has-filter, filter-Has}
use Rattle.gufi_tree.proofs.Rests.{rest_after, bytes_eq-refl, rest_after-append, rest_after-Some}
use Rattle.gufi_tree.proofs.Descent.{AreDistinct, same_from_paths, reached, reached_at, reached_from}

-- ---- prefixes

bytes_eq-turned : (a b : List ℕ) → bytes_eq a b ≡ bytes_eq b a
bytes_eq-turned a b = by (bytes_eq a b) refl (bytes_eq b a) refl where
  by : (x : Bool) → bytes_eq a b ≡ x → (y : Bool) → bytes_eq b a ≡ y → x ≡ y
  by true p true q = refl
  by true p false q = sym ((bytes_eq-Decides b a).1 (sym ((bytes_eq-Decides a b).0 p))) ∙ q
  by false p true q = sym p ∙ (bytes_eq-Decides a b).1 (sym ((bytes_eq-Decides b a).0 q))
  by false p false q = refl

-- a path between the first and a longer one is the first, or is between the next and the longer one
between_next : (at d rest : Components) (name : List ℕ)
    → (is_prefix at d && is_prefix d (at ++ name ∷ rest)) ≡ (path_eq d at || (is_prefix (at ++ name ∷ []) d && is_prefix d (at ++ name ∷ rest)))
between_next [] [] rest name = refl
between_next [] (n ∷ d) rest name = rw (bytes_eq-turned n name) (by (bytes_eq name n) (is_prefix d rest)) where
  by : (a b : Bool) → (a && b) ≡ ((a && true) && (a && b))
  by true b = refl
  by false b = refl
between_next (a ∷ at) [] rest name = refl
between_next (a ∷ at) (n ∷ d) rest name = rw (bytes_eq-turned a n) (by (bytes_eq n a) (is_prefix at d) (is_prefix d (at ++ name ∷ rest)) (path_eq d at) (is_prefix (at ++ name ∷ []) d) (between_next at d rest name)) where
  by : (b x y e z : Bool) → (x && y) ≡ (e || (z && y)) → ((b && x) && (b && y)) ≡ ((b && e) || ((b && z) && (b && y)))
  by true x y e z h = h
  by false x y e z h = refl

both_ways : (at d : Components) → (is_prefix at d && is_prefix d at) ≡ path_eq d at
both_ways [] [] = refl
both_ways [] (n ∷ d) = refl
both_ways (a ∷ at) [] = refl
both_ways (a ∷ at) (n ∷ d) = rw (bytes_eq-turned a n) (by (bytes_eq n a) (is_prefix at d) (is_prefix d at) (path_eq d at) (both_ways at d)) where
  by : (b x y e : Bool) → (x && y) ≡ e → ((b && x) && (b && y)) ≡ (b && e)
  by true x y e h = h
  by false x y e h = refl

shorter : (at rest : Components) (name : List ℕ) → nat_lt (length at) (length (at ++ name ∷ rest)) ≡ true
shorter at rest name = lt-ltb _ _ (omega (arith, length-append at (name ∷ rest)))

-- the same of proper prefixes of the longer one
above_next : (at d rest : Components) (name : List ℕ)
    → (is_prefix at d && is_proper_prefix d (at ++ name ∷ rest)) ≡ (path_eq d at || (is_prefix (at ++ name ∷ []) d && is_proper_prefix d (at ++ name ∷ rest)))
above_next at d rest name =
    by (is_prefix at d) (is_prefix d (at ++ name ∷ rest)) (path_eq d at) (is_prefix (at ++ name ∷ []) d) (nat_lt (length d) (length (at ++ name ∷ rest))) (between_next at d rest name)
    (λ e. ap (λ (p : Components). nat_lt (length p) (length (at ++ name ∷ rest))) ((path_eq-Decides d at).0 e) ∙ shorter at rest name) where
      by : (a b e z l : Bool) → (a && b) ≡ (e || (z && b)) → (e ≡ true → l ≡ true) → (a && (b && l)) ≡ (e || (z && (b && l)))
      by true true true z l h less = less refl
      by true true false z l h less = rw (less_from z l h) refl where
        less_from : (z l : Bool) → true ≡ (z && true) → z ≡ true
        less_from true l h = refl
        less_from false l h = absurd (true≢false h)
      by true false true z l h less = absurd (false≢true h)
      by true false false true l h less = refl
      by true false false false l h less = refl
      by false b true z l h less = absurd (false≢true h)
      by false true false true l h less = absurd (false≢true h)
      by false true false false l h less = refl
      by false false false true l h less = refl
      by false false false false l h less = refl

none_above : (at d : Components) → (is_prefix at d && is_proper_prefix d at) ≡ false
none_above at d = by (is_prefix at d) (is_prefix d at) (path_eq d at) (nat_lt (length d) (length at)) (both_ways at d)
    (λ e. ap (λ (p : Components). nat_lt (length p) (length at)) ((path_eq-Decides d at).0 e) ∙ le-ltb (length at) (length at) (omega arith)) where
      by : (a b e l : Bool) → (a && b) ≡ e → (e ≡ true → l ≡ false) → (a && (b && l)) ≡ false
      by true true e l h less = less (sym h)
      by true false e l h less = refl
      by false b e l h less = refl

pub is_prefix-append : (at rest : Components) → is_prefix at (at ++ rest) ≡ true
is_prefix-append [] rest = refl
is_prefix-append (n ∷ at) rest = and_from _ _ (bytes_eq-refl n) (is_prefix-append at rest)

-- what leads to a path leaves some rest of it
pub is_prefix-rest : (s path : Components) → is_prefix s path ≡ true → (rest : Components) × (path ≡ s ++ rest)
is_prefix-rest [] path h = (path, refl)
is_prefix-rest (n ∷ s) [] h = absurd (false≢true h)
is_prefix-rest (n ∷ s) (m ∷ path) h =
    let both = and_parts _ _ h in
    let more = is_prefix-rest s path both.1 in
    (more.0, ap (λ k. k ∷ path) (sym ((bytes_eq-Decides n m).0 both.0)) ∙ ap (λ (p : Components). n ∷ p) more.1)

pub is_prefix-none : (s path : Components) → rest_after s path ≡ None → is_prefix s path ≡ false
is_prefix-none s path e = false_from_ne_true _ (λ h.
    let w = is_prefix-rest s path h in
    let some : None ≡ Some w.0 = sym e ∙ ap (rest_after s) w.1 ∙ rest_after-append s w.0 in
    cc)

-- ---- tests of all directories

module _ {X : Type 0} where
  all_split : (e b m : X → Bool) (xs : List X) → list_all (λ x. not (e x || b x) || m x) xs ≡ (list_all (λ x. not (e x) || m x) xs && list_all (λ x. not (b x) || m x) xs)
  all_split e b m [] = refl
  all_split e b m (x ∷ xs) = rw (all_split e b m xs) (by (e x) (b x) (m x) (list_all (λ x. not (e x) || m x) xs) (list_all (λ x. not (b x) || m x) xs)) where
    by : (e b m u v : Bool) → ((not (e || b) || m) && (u && v)) ≡ (((not e || m) && u) && ((not b || m) && v))
    by true b true u v = both (not b || true) u v (or_true (not b)) where
      or_true : (x : Bool) → (x || true) ≡ true
      or_true true = refl
      or_true false = refl

      both : (x u v : Bool) → x ≡ true → (u && v) ≡ (u && (x && v))
      both x u v h = rw h refl
    by true b false u v = refl
    by false true true u v = refl
    by false true false true v = refl
    by false true false false v = refl
    by false false m u v = refl

  any_split : (e b : X → Bool) (xs : List X) → list_any (λ x. e x || b x) xs ≡ (list_any e xs || list_any b xs)
  any_split e b [] = refl
  any_split e b (x ∷ xs) = rw (any_split e b xs) (by (e x) (b x) (list_any e xs) (list_any b xs)) where
    by : (a b c d : Bool) → ((a || b) || (c || d)) ≡ ((a || c) || (b || d))
    by true b c d = refl
    by false true true d = refl
    by false true false d = refl
    by false false c d = refl

  all_agree : (p q : X → Bool) → ((x : X) → p x ≡ q x) → (xs : List X) → list_all p xs ≡ list_all q xs
  all_agree p q same [] = refl
  all_agree p q same (x ∷ xs) = rw (same x, all_agree p q same xs) refl

  any_agree : (p q : X → Bool) → ((x : X) → p x ≡ q x) → (xs : List X) → list_any p xs ≡ list_any q xs
  any_agree p q same [] = refl
  any_agree p q same (x ∷ xs) = rw (same x, any_agree p q same xs) refl

  pub all-true : (p : X → Bool) (xs : List X) → ((x : X) → Has xs x → p x ≡ true) → list_all p xs ≡ true
  all-true p [] h = refl
  all-true p (x ∷ xs) h = and_from _ _ (h x (inl refl)) (all-true p xs (λ y k. h y (inr k)))

  pub all_at : (p : X → Bool) (xs : List X) (x : X) → list_all p xs ≡ true → Has xs x → p x ≡ true
  all_at p [] x h k = absurd k
  all_at p (y ∷ ys) x h (inl k) = ap p (sym k) ∙ (and_parts _ _ h).0
  all_at p (y ∷ ys) x h (inr k) = all_at p ys x (and_parts _ _ h).1 k

-- ---- trees

pub distinct : (tree : List Directory) → ascends dir_cmp tree ≡ true → AreDistinct tree
distinct [] up = tt
distinct (d ∷ ds) up = (
  All-weaken (λ (e : Directory). dir_cmp d e ≡ Less) (λ (e : Directory). d.path ≢ e.path) (λ e less same. true≢false (sym ((path_eq-Decides d.path e.path).1 same) ∙ path_eq-less d.path e.path less)) ds (below_all dir_cmp dir_cmp-total d ds up),
  distinct ds (ascends-tail dir_cmp dir_cmp-total d ds up),
)

pub has_dir-found : (tree : List Directory) (path : Components) → has_dir tree path ≡ true → (d : Directory) × Has tree d × (d.path ≡ path)
has_dir-found tree path h =
    let w = any-found (is_at path) tree h in
    (w.0, w.1, sym ((path_eq-Decides path (w.0).path).0 w.2))

pub found-has_dir : (tree : List Directory) (d : Directory) → Has tree d → has_dir tree d.path ≡ true
found-has_dir tree d h = any-some (is_at d.path) tree d h (path_eq-refl d.path)

-- each path that leads to a directory is that of a directory
pub prefix_there : (tree : List Directory) → HasTreeShape tree → (at rest : Components) (c : Directory) → Has tree c → c.path ≡ at ++ rest → (d : Directory) × Has tree d × (d.path ≡ at)
prefix_there tree shape at [] c h e = (c, h, e ∙ append-nil at)
prefix_there tree shape at (name ∷ rest) c h e =
    let w = prefix_there tree shape (at ++ name ∷ []) rest c h (e ∙ sym (append_assoc at (name ∷ []) rest)) in
    let up : has_dir tree (parent_path (w.0).path) ≡ true = all_at (λ dir. has_dir tree (parent_path dir.path)) tree w.0 shape.parents w.1 in
    has_dir-found tree at (ap (has_dir tree) (sym (parent_path-child at name) ∙ ap parent_path (sym w.2)) ∙ up)

module _ (tree : List Directory) (who : Principal) (stop : Components → Bool) where
  -- a directory of the path may be listed
  abbrev pub lists_at : Components → Bool
  lists_at path = list_any (λ dir. path_eq dir.path path && may_list who dir) tree

  abbrev pub goes_on : Components → Bool
  goes_on path = not (stop path)

  -- a directory where the walk stops is at or below the start and above the path
  abbrev pub is_stopped : Components → Components → Bool
  is_stopped start path = list_any (λ dir. is_prefix start dir.path && is_proper_prefix dir.path path) (filter (λ dir. stop dir.path) tree)

  abbrev all_between : Components → Components → Bool
  all_between start path = list_all (λ dir. not (is_between start path dir.path) || may_list who dir) tree

  module _ (shape : HasTreeShape tree) where
    apart : AreDistinct tree
    apart = distinct tree shape.order

    pub lists_at-own : (d : Directory) → Has tree d → lists_at d.path ≡ may_list who d
    lists_at-own d h = by (may_list who d) refl where
      by : (b : Bool) → may_list who d ≡ b → lists_at d.path ≡ b
      by true e = any-some _ tree d h (and_from _ _ (path_eq-refl d.path) e)
      by false e = any-none _ tree (λ x k. false_from_ne_true _ (λ f.
          let both = and_parts _ _ f in
          let same : x ≡ d = same_from_paths tree x d apart k h ((path_eq-Decides x.path d.path).0 both.0) in
          true≢false (sym both.1 ∙ ap (may_list who) same ∙ e)))

    -- of all directories the one of the path decides
    own_decides : (d : Directory) → Has tree d → list_all (λ dir. not (path_eq dir.path d.path) || may_list who dir) tree ≡ may_list who d
    own_decides d h = by (may_list who d) refl where
      by : (b : Bool) → may_list who d ≡ b → list_all (λ dir. not (path_eq dir.path d.path) || may_list who dir) tree ≡ b
      by true e = all-true _ tree (λ x k. at_one x k (path_eq x.path d.path) refl) where
        at_one : (x : Directory) → Has tree x → (b : Bool) → path_eq x.path d.path ≡ b → (not b || may_list who x) ≡ true
        at_one x k true q = ap (may_list who) (same_from_paths tree x d apart k h ((path_eq-Decides x.path d.path).0 q)) ∙ e
        at_one x k false q = refl
      by false e = false_from_ne_true _ (λ f.
          let own : (not (path_eq d.path d.path) || may_list who d) ≡ true = all_at (λ dir. not (path_eq dir.path d.path) || may_list who dir) tree d f h in
          let no : (not true || may_list who d) ≡ true = ap (λ b. not b || may_list who d) (sym (path_eq-refl d.path)) ∙ own in
          true≢false (sym no ∙ e))

    stops_own : (d : Directory) → Has tree d → list_any (λ dir. path_eq dir.path d.path) (filter (λ dir. stop dir.path) tree) ≡ stop d.path
    stops_own d h = by (stop d.path) refl where
      by : (b : Bool) → stop d.path ≡ b → list_any (λ dir. path_eq dir.path d.path) (filter (λ dir. stop dir.path) tree) ≡ b
      by true e = any-some _ (filter (λ dir. stop dir.path) tree) d (filter-Has (λ dir. stop dir.path) tree d h e) (path_eq-refl d.path)
      by false e = any-none _ (filter (λ dir. stop dir.path) tree) (λ x k. false_from_ne_true _ (λ f.
          let w = Has-filter (λ dir. stop dir.path) tree x k in
          true≢false (sym w.1 ∙ ap stop ((path_eq-Decides x.path d.path).0 f) ∙ e)))

    reached_from-flat : (at rest : Components) (c : Directory) → Has tree c → c.path ≡ at ++ rest
        → reached_from lists_at goes_on at rest ≡ (all_between at (at ++ rest) && not (is_stopped at (at ++ rest)))
    reached_from-flat at [] c h e =
        let here : c.path ≡ at = e ∙ append-nil at in
        let listed : all_between at at ≡ may_list who c =
        all_agree _ (λ dir. not (path_eq dir.path at) || may_list who dir) (λ dir. ap (λ b. not b || may_list who dir) (both_ways at dir.path)) tree
        ∙ ap (λ p. list_all (λ dir. not (path_eq dir.path p) || may_list who dir) tree) (sym here) ∙ own_decides c h in
        let free : is_stopped at at ≡ false = any-none _ (filter (λ dir. stop dir.path) tree) (λ x k. none_above at x.path) in
        ap lists_at (sym here) ∙ lists_at-own c h ∙ sym (ap (λ p. all_between at p && not (is_stopped at p)) (append-nil at) ∙ ap (λ b. b && not (is_stopped at at)) listed ∙ ap (λ b. may_list who c && not b) free ∙ and_true (may_list who c)) where
          and_true : (b : Bool) → (b && true) ≡ b
          and_true true = refl
          and_true false = refl
    reached_from-flat at (name ∷ rest) c h e =
        let next : Components = at ++ name ∷ [] in
        let path : Components = at ++ name ∷ rest in
        let w = prefix_there tree shape at (name ∷ rest) c h e in
        let d : Directory = w.0 in
        let joined : next ++ rest ≡ path = append_assoc at (name ∷ []) rest in
        let ih : reached_from lists_at goes_on next rest ≡ (all_between next path && not (is_stopped next path)) =
        reached_from-flat next rest c h (e ∙ sym joined) ∙ ap (λ p. all_between next p && not (is_stopped next p)) joined in
        let listed : all_between at path ≡ (lists_at at && all_between next path) =
        all_agree _ (λ dir. not (path_eq dir.path at || is_between next path dir.path) || may_list who dir) (λ dir. ap (λ b. not b || may_list who dir) (between_next at dir.path rest name)) tree
        ∙ all_split (λ dir. path_eq dir.path at) (λ dir. is_between next path dir.path) (may_list who) tree
        ∙ ap (λ b. b && all_between next path)
        (ap (λ p. list_all (λ dir. not (path_eq dir.path p) || may_list who dir) tree) (sym w.2) ∙ own_decides d w.1 ∙ sym (lists_at-own d w.1) ∙ ap lists_at w.2) in
        let stopped : is_stopped at path ≡ (stop at || is_stopped next path) =
        any_agree _ (λ dir. path_eq dir.path at || (is_prefix next dir.path && is_proper_prefix dir.path path)) (λ dir. above_next at dir.path rest name) (filter (λ dir. stop dir.path) tree)
        ∙ any_split (λ dir. path_eq dir.path at) (λ dir. is_prefix next dir.path && is_proper_prefix dir.path path) (filter (λ dir. stop dir.path) tree)
        ∙ ap (λ b. b || is_stopped next path)
        (ap (λ p. list_any (λ dir. path_eq dir.path p) (filter (λ dir. stop dir.path) tree)) (sym w.2) ∙ stops_own d w.1 ∙ ap stop w.2) in
        ap (λ b. cond (not (stop at)) (lists_at at && b) false) ih ∙ by (stop at) (lists_at at) (all_between next path) (is_stopped next path) ∙ sym (ap (λ b. b && not (is_stopped at path)) listed ∙ ap (λ b. (lists_at at && all_between next path) && not b) stopped) where
          by : (s a l u : Bool) → cond (not s) (a && (l && not u)) false ≡ ((a && l) && not (s || u))
          by true true true u = refl
          by true true false u = refl
          by true false l u = refl
          by false true l u = refl
          by false false l u = refl

    -- where there is a directory, the descent reaches it exactly where each directory between may be listed and none above it stops the walk
    pub reached-flat : (start : Components) (c : Directory) → Has tree c
        → reached lists_at goes_on start c.path ≡ (is_listed tree who start c.path && not (is_stopped start c.path))
    reached-flat start c h = by (rest_after start c.path) refl where
      by : (o : Option Components) → rest_after start c.path ≡ o → reached_at lists_at goes_on start o ≡ (is_listed tree who start c.path && not (is_stopped start c.path))
      by None e = sym (ap (λ b. ((b && has_dir tree c.path) && all_between start c.path) && not (is_stopped start c.path)) (is_prefix-none start c.path e))
      by (Some rest) e =
          let p : c.path ≡ start ++ rest = rest_after-Some start c.path rest e in
          let leads : is_prefix start c.path ≡ true = ap (is_prefix start) p ∙ is_prefix-append start rest in
          reached_from-flat start rest c h p ∙ ap (λ q. all_between start q && not (is_stopped start q)) (sym p)
          ∙ sym (ap (λ b. ((b && has_dir tree c.path) && all_between start c.path) && not (is_stopped start c.path)) leads
          ∙ ap (λ b. (b && all_between start c.path) && not (is_stopped start c.path)) (found-has_dir tree c h))
