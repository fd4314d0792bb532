-- What is reached from a directory: itself, and what is reached from its children.
use Rattle.std.proofs.Common.{◌≡◌, ◌≢◌, ℕ, inl, inr, Bool, true, false, not, cond, ◌||◌, ◌&&◌, Option, Some, None, List, [], ◌∷◌, ◌++◌, refl, sym, ap, ◌∙◌, subst}
use Rattle.std.specs.List.{AllByRecursion, filter, flat_map, list_any}
use Rattle.std.specs.List.Sorted.{IsPermutation}
use Rattle.std.proofs.lemmas.Bool.{false≢true, false_from_ne_true, and_parts, and_from}
use Rattle.std.proofs.lemmas.List.{append-nil}
use Rattle.std.proofs.lemmas.List.Sorted.{IsPermutation-trans, IsPermutation-cons}
use Rattle.std.specs.Prelude.{bytes_eq}
use Rattle.std.proofs.lemmas.Slice.Eq.{bytes_eq-Decides}
use Rattle.gufi_base.specs.Basics.{is_empty}
use Rattle.gufi_base.specs.Paths.{Components, path_eq, parent_path, is_child_of}
use Rattle.gufi_tree.specs.Tree.{Directory}
use Rattle.gufi_tree.proofs.Built.{Has, All-Has, All-from_Has, path_eq-Decides, path_eq-refl, parent_path-child}
use Rattle.gufi_tree.proofs.Filters.{filter-agree, filter-either, filter-none, any-none, any-some, Has-filter, filter-Has, AreApart, filter-any}
use Rattle.gufi_tree.proofs.Rests.{rest_after, none≢some, path_eq-other, bytes_eq-refl, rest_after-append, rest_after-push, rest_after-short, rest_after-Some, rest_after-None, next_same, longer_differs}

-- ok holds at a path and at each longer one up to all of the rest, and go at each but the last
abbrev pub reached_from : (Components → Bool) → (Components → Bool) → Components → Components → Bool
reached_from ok go at [] = ok at
reached_from ok go at (name ∷ rest) = cond (go at) (ok at && reached_from ok go (at ++ name ∷ []) rest) false

abbrev pub reached_at : (Components → Bool) → (Components → Bool) → Components → Option Components → Bool
reached_at ok go start None = false
reached_at ok go start (Some rest) = reached_from ok go start rest

-- the start leads to the path, and ok and go hold as far as it
abbrev pub reached : (Components → Bool) → (Components → Bool) → Components → Components → Bool
reached ok go start path = reached_at ok go start (rest_after start path)

abbrev pub reached_dirs : (Components → Bool) → (Components → Bool) → List Directory → Components → List Directory
reached_dirs ok go tree start = filter (λ d. reached ok go start d.path) tree

-- no two directories have one path
abbrev pub AreDistinct : List Directory → Type 0
AreDistinct [] = Unit {0}
AreDistinct (d ∷ ds) = AllByRecursion (λ e. d.path ≢ e.path) ds × AreDistinct ds

-- a path that isn't the root's is its parent's and one name
pub split_last : (path : Components) → not (is_empty path) ≡ true → (name : List ℕ) × (path ≡ parent_path path ++ name ∷ [])
split_last [] some = absurd (false≢true some)
split_last (n ∷ []) some = (n, refl)
split_last (n ∷ m ∷ path) some = let rest = split_last (m ∷ path) refl in (rest.0, ap (λ (xs : Components). n ∷ xs) rest.1)

-- a child is the path and one name
pub child_name : (s path : Components) → is_child_of s path ≡ true → (name : List ℕ) × (path ≡ s ++ name ∷ [])
child_name s path e =
    let both = and_parts (not (is_empty path)) (path_eq s (parent_path path)) e in
    let last = split_last path both.0 in
    (last.0, last.1 ∙ ap (λ (p : Components). p ++ last.0 ∷ []) (sym ((path_eq-Decides s (parent_path path)).0 both.1)))

pub is_child_of-push : (s : Components) (name : List ℕ) → is_child_of s (s ++ name ∷ []) ≡ true
is_child_of-push s name = and_from _ _ (some_name s) (ap (path_eq s) (parent_path-child s name) ∙ path_eq-refl s) where
  some_name : (s : Components) → not (is_empty (s ++ name ∷ [])) ≡ true
  some_name [] = refl
  some_name (n ∷ s) = refl

pub AreDistinct-filter : (p : Directory → Bool) (ds : List Directory) → AreDistinct ds → AreDistinct (filter p ds)
AreDistinct-filter p [] h = tt
AreDistinct-filter p (d ∷ ds) h = with_first (p d) (All-from_Has _ (filter p ds) (λ e k. All-Has _ ds e h.0 (Has-filter p ds e k).0)) (AreDistinct-filter p ds h.1) where
  with_first : (b : Bool) → AllByRecursion (λ e. d.path ≢ e.path) (filter p ds) → AreDistinct (filter p ds) → AreDistinct (cond b (d ∷ filter p ds) (filter p ds))
  with_first true a u = (a, u)
  with_first false a u = u

-- the one directory of a path
pub filter-path_eq : (ds : List Directory) (d : Directory) → AreDistinct ds → Has ds d → filter (λ e. path_eq d.path e.path) ds ≡ d ∷ []
filter-path_eq [] d h k = absurd k
filter-path_eq (x ∷ xs) d h (inl k) =
    rw (k, path_eq-refl d.path) (ap (λ l. d ∷ l) (filter-none _ xs (λ e m. path_eq-other d.path e.path (subst (λ y. y.path ≢ e.path) k (All-Has _ xs e h.0 m)))))
filter-path_eq (x ∷ xs) d h (inr k) =
    rw (path_eq-other d.path x.path (λ e. All-Has _ xs d h.0 k (sym e))) (filter-path_eq xs d h.1 k)

pub same_from_paths : (ds : List Directory) (d e : Directory) → AreDistinct ds → Has ds d → Has ds e → d.path ≡ e.path → d ≡ e
same_from_paths [] d e h k m p = absurd k
same_from_paths (x ∷ xs) d e h (inl k) (inl m) p = sym k ∙ m
same_from_paths (x ∷ xs) d e h (inl k) (inr m) p = absurd (All-Has _ xs e h.0 m (ap (λ y. y.path) k ∙ p))
same_from_paths (x ∷ xs) d e h (inr k) (inl m) p = absurd (All-Has _ xs d h.0 k (ap (λ y. y.path) m ∙ sym p))
same_from_paths (x ∷ xs) d e h (inr k) (inr m) p = same_from_paths xs d e h.1 k m p

module _ (ok go : Components → Bool) where
  -- what is reached leaves some rest, and is ok where it begins
  pub reached_rest : (s path : Components) → reached ok go s path ≡ true → (rest : Components) × (rest_after s path ≡ Some rest)
  reached_rest s path e = by_rest (rest_after s path) e where
    by_rest : (o : Option Components) → reached_at ok go s o ≡ true → (rest : Components) × (o ≡ Some rest)
    by_rest None e = absurd (false≢true e)
    by_rest (Some rest) e = (rest, refl)

  reached_from-ok : (at rest : Components) → reached_from ok go at rest ≡ true → ok at ≡ true
  reached_from-ok at [] e = e
  reached_from-ok at (name ∷ rest) e = when (go at) e where
    when : (b : Bool) → cond b (ok at && reached_from ok go (at ++ name ∷ []) rest) false ≡ true → ok at ≡ true
    when true e = (and_parts (ok at) _ e).0
    when false e = absurd (false≢true e)

  module _ (tree : List Directory) (apart : AreDistinct tree) (found : (q : Components) → ok q ≡ true → (k : Directory) × Has tree k × (k.path ≡ q)) where
    -- the children that are ok
    abbrev pub next_dirs : Components → List Directory
    next_dirs s = filter (λ k. ok k.path) (filter (λ k. is_child_of s k.path) tree)

    next_name : (s : Components) (k : Directory) → Has (next_dirs s) k → (name : List ℕ) × (k.path ≡ s ++ name ∷ [])
    next_name s k h = child_name s k.path (Has-filter (λ j. is_child_of s j.path) tree k (Has-filter (λ j. ok j.path) (filter (λ j. is_child_of s j.path) tree) k h).0).1

    -- a directory that isn't s is reached from s exactly where it is from one of the next
    none_from : (s path : Components) → ((name : List ℕ) → reached ok go (s ++ name ∷ []) path ≡ false) → list_any (λ k. reached ok go k.path path) (next_dirs s) ≡ false
    none_from s path h = any-none _ (next_dirs s) (λ k m. let w = next_name s k m in ap (λ q. reached ok go q path) w.1 ∙ h w.0)

    through : (s : Components) (name first : List ℕ) (rest : Components) → reached_from ok go (s ++ first ∷ []) rest ≡ false → reached ok go (s ++ name ∷ []) (s ++ first ∷ rest) ≡ false
    through s name first rest e = ap (reached_at ok go (s ++ name ∷ [])) (rest_after-push s name first rest) ∙ by_name (bytes_eq name first) refl where
      by_name : (b : Bool) → bytes_eq name first ≡ b → reached_at ok go (s ++ name ∷ []) (cond b (Some rest) None) ≡ false
      by_name true q = ap (λ n. reached_from ok go (s ++ n ∷ []) rest) ((bytes_eq-Decides name first).0 q) ∙ e
      by_name false q = refl

    any_through : (s : Components) (first : List ℕ) (rest : Components) (b : Bool) → reached_from ok go (s ++ first ∷ []) rest ≡ b
        → list_any (λ k. reached ok go k.path (s ++ first ∷ rest)) (next_dirs s) ≡ b
    any_through s first rest false e = none_from s (s ++ first ∷ rest) (λ name. through s name first rest e)
    any_through s first rest true e =
        let w = found (s ++ first ∷ []) (reached_from-ok (s ++ first ∷ []) rest e) in
        let k : Directory = w.0 in
        let child : Has (filter (λ j. is_child_of s j.path) tree) k = filter-Has (λ j. is_child_of s j.path) tree k w.1 (ap (is_child_of s) w.2 ∙ is_child_of-push s first) in
        let next : Has (next_dirs s) k = filter-Has (λ j. ok j.path) (filter (λ j. is_child_of s j.path) tree) k child (ap ok w.2 ∙ reached_from-ok (s ++ first ∷ []) rest e) in
        any-some _ (next_dirs s) k next
        (ap (λ q. reached ok go q (s ++ first ∷ rest)) w.2
        ∙ ap (reached_at ok go (s ++ first ∷ [])) (rest_after-push s first first rest ∙ ap (λ b. cond b (Some rest) None) (bytes_eq-refl first)) ∙ e)

    split_at : (s path : Components) → ok s ≡ true → go s ≡ true → (o : Option Components) → rest_after s path ≡ o
        → reached ok go s path ≡ (path_eq s path || list_any (λ k. reached ok go k.path path) (next_dirs s))
    split_at s path on deeper None e =
        let other : path_eq s path ≡ false = path_eq-other s path (λ q. none≢some (sym e ∙ ap (rest_after s) (sym q ∙ sym (append-nil s)) ∙ rest_after-append s [])) in
        rw (e, other) (sym (none_from s path (λ name. ap (reached_at ok go (s ++ name ∷ [])) (rest_after-None s name path e))))
    split_at s path on deeper (Some []) e =
        let q : path ≡ s = rest_after-Some s path [] e ∙ append-nil s in
        ap (reached_at ok go s) e ∙ on ∙ sym (ap (λ b. b || list_any (λ k. reached ok go k.path path) (next_dirs s)) (ap (path_eq s) q ∙ path_eq-refl s))
    split_at s path on deeper (Some (first ∷ rest)) e =
        let q : path ≡ s ++ first ∷ rest = rest_after-Some s path (first ∷ rest) e in
        let other : path_eq s path ≡ false = path_eq-other s path (λ p. longer_differs s first rest (p ∙ q)) in
        let any : list_any (λ k. reached ok go k.path path) (next_dirs s) ≡ reached_from ok go (s ++ first ∷ []) rest =
        ap (λ p. list_any (λ k. reached ok go k.path p) (next_dirs s)) q ∙ any_through s first rest _ refl in
        rw (e, other, deeper, on, any) refl

    -- no directory is reached from two of the next
    apart_next : (s : Components) (ks : List Directory) → ((k : Directory) → Has ks k → (name : List ℕ) × (k.path ≡ s ++ name ∷ [])) → AreDistinct ks
        → AreApart (λ k d. reached ok go k.path d.path) ks tree
    apart_next s [] named h = tt
    apart_next s (k ∷ ks) named h = (
      (λ x m e. any-none _ ks (λ j n. false_from_ne_true _ (λ f.
          let a = named k (inl refl) in
          let b = named j (inr n) in
          let r = reached_rest (s ++ a.0 ∷ []) x.path (ap (λ q. reached ok go q x.path) (sym a.1) ∙ e) in
          let q = reached_rest (s ++ b.0 ∷ []) x.path (ap (λ q. reached ok go q x.path) (sym b.1) ∙ f) in
          All-Has _ ks j h.0 n (a.1 ∙ ap (λ n. s ++ n ∷ []) (next_same s x.path a.0 b.0 r.0 q.0 r.1 q.1) ∙ sym b.1)))),
      apart_next s ks (λ j n. named j (inr n)) h.1,
    )

    -- a directory that is ok: it, and what is reached from the next
    pub reached_dirs-step : (d : Directory) → Has tree d → ok d.path ≡ true → go d.path ≡ true
        → IsPermutation (reached_dirs ok go tree d.path) (d ∷ flat_map (λ k. reached_dirs ok go tree k.path) (next_dirs d.path))
    reached_dirs-step d in_tree on deeper =
        let s : Components = d.path in
        let r : Directory → Directory → Bool = λ k x. reached ok go k.path x.path in
        let agree = filter-agree (λ x. reached ok go s x.path) (λ x. path_eq s x.path || list_any (λ k. r k x) (next_dirs s)) tree (λ x m. split_at s x.path on deeper (rest_after s x.path) refl) in
        let either = filter-either (λ x. path_eq s x.path) (λ x. list_any (λ k. r k x) (next_dirs s)) tree
        (λ x m e. let q : s ≡ x.path = (path_eq-Decides s x.path).0 e in
        none_from s x.path (λ name. ap (λ p. reached ok go (s ++ name ∷ []) p) (sym q) ∙ ap (reached_at ok go (s ++ name ∷ [])) (rest_after-short s name))) in
        let own = filter-path_eq tree d apart in_tree in
        let distinct = AreDistinct-filter (λ k. ok k.path) _ (AreDistinct-filter (λ k. is_child_of s k.path) tree apart) in
        rw (agree) (IsPermutation-trans _ _ _ either (rw own (IsPermutation-cons d _ _ (filter-any r (next_dirs s) tree (apart_next s (next_dirs s) (next_name s) distinct)))))

    stopped_at : (s path : Components) → ok s ≡ true → go s ≡ false → (o : Option Components) → rest_after s path ≡ o → reached ok go s path ≡ path_eq s path
    stopped_at s path on stop None e =
        let other : path_eq s path ≡ false = path_eq-other s path (λ q. none≢some (sym e ∙ ap (rest_after s) (sym q ∙ sym (append-nil s)) ∙ rest_after-append s [])) in
        rw (e, other) refl
    stopped_at s path on stop (Some []) e =
        let q : path ≡ s = rest_after-Some s path [] e ∙ append-nil s in
        ap (reached_at ok go s) e ∙ on ∙ sym (ap (path_eq s) q ∙ path_eq-refl s)
    stopped_at s path on stop (Some (first ∷ rest)) e =
        let other : path_eq s path ≡ false = path_eq-other s path (λ p. longer_differs s first rest (p ∙ rest_after-Some s path (first ∷ rest) e)) in
        rw (e, other, stop) refl

    -- where nothing deeper is reached, the directory alone is
    pub reached_dirs-stop : (d : Directory) → Has tree d → ok d.path ≡ true → go d.path ≡ false → reached_dirs ok go tree d.path ≡ d ∷ []
    reached_dirs-stop d in_tree on stop =
        filter-agree _ (λ x. path_eq d.path x.path) tree (λ x m. stopped_at d.path x.path on stop (rest_after d.path x.path) refl) ∙ filter-path_eq tree d apart in_tree
