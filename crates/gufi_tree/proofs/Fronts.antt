-- The directories that a walk meets from a start: by the descent, and below a directory that covers what is below it.
use Rattle.std.proofs.Common.{◌≡◌, inl, inr, subst, Bool, true, false, not, ◌&&◌, List, [], ◌∷◌, ◌++◌, refl, sym, ap, ◌∙◌, append_assoc}
use Rattle.std.specs.List.{filter, flat_map, list_any}
use Rattle.std.specs.List.Sorted.{IsPermutation}
use Rattle.std.proofs.lemmas.Bool.{false≢true, false_from_ne_true, and_parts, and_from}
use Rattle.std.proofs.lemmas.List.{append-nil}
use Rattle.gufi_base.specs.Paths.{Components, path_eq, is_prefix, is_proper_prefix, is_child_of}
use Rattle.gufi_access.specs.declared.class.Principal.{Principal}
use Rattle.gufi_access.specs.Access.{Covers}
use Rattle.gufi_tree.specs.Tree.{Directory, rights_of, subdirs, may_list, HasTreeShape}
use Rattle.gufi_tree.specs.Listed.{is_listed}
use Rattle.gufi_tree.proofs.Built.{Has, path_eq-Decides}
use Rattle.gufi_tree.proofs.Filters.{filter-agree, filter-none, Has-filter, any-found}
use Rattle.gufi_tree.proofs.Rests.{rest_after, rest_after-append}
use Rattle.gufi_tree.proofs.Descent.{reached, reached_at, reached_from, reached_dirs, reached_dirs-step, reached_dirs-stop, is_child_of-push}
use Rattle.gufi_tree.proofs.Flat.{distinct, prefix_there, lists_at, goes_on, is_stopped, lists_at-own, reached-flat, is_prefix-append, is_prefix-rest}

module _ {X Y : Type 0} (f g : X → List Y) where
  pub flat_map-agree : (xs : List X) → ((x : X) → Has xs x → f x ≡ g x) → flat_map f xs ≡ flat_map g xs
  flat_map-agree [] h = refl
  flat_map-agree (x ∷ xs) h = ap (λ l. l ++ flat_map f xs) (h x (inl refl)) ∙ ap (λ l. g x ++ l) (flat_map-agree xs (λ y k. h y (inr k)))

module _ (tree : List Directory) (who : Principal) where
  -- the directories that are listed from the start
  abbrev pub listed_dirs : Components → List Directory
  listed_dirs start = filter (λ dir. is_listed tree who start dir.path) tree

  -- the subdirectories that the principal may list
  abbrev pub open_dirs : Components → List Directory
  open_dirs path = filter (may_list who) (subdirs tree path)

  module _ (stop : Components → Bool) where
    -- the listed directories with none above them, at or below the start, where the walk stops
    abbrev pub front_dirs : Components → List Directory
    front_dirs start = filter (λ dir. is_listed tree who start dir.path && not (is_stopped tree who stop start dir.path)) tree

  module _ (shape : HasTreeShape tree) where
    front_dirs-reached : (stop : Components → Bool) (start : Components) → reached_dirs (lists_at tree who stop) (goes_on tree who stop) tree start ≡ front_dirs stop start
    front_dirs-reached stop start = filter-agree _ _ tree (λ c h. reached-flat tree who stop shape start c h)

    open_dirs-ok : (stop : Components → Bool) (path : Components) → filter (λ k. lists_at tree who stop k.path) (filter (λ k. is_child_of path k.path) tree) ≡ open_dirs path
    open_dirs-ok stop path = filter-agree _ (may_list who) (filter (λ k. is_child_of path k.path) tree) (λ k h. lists_at-own tree who stop shape k (Has-filter (λ j. is_child_of path j.path) tree k h).0)

    found_ok : (stop : Components → Bool) (path : Components) → lists_at tree who stop path ≡ true → (k : Directory) × Has tree k × (k.path ≡ path)
    found_ok stop path e =
        let w = any-found (λ dir. path_eq dir.path path && may_list who dir) tree e in
        (w.0, w.1, (path_eq-Decides (w.0).path path).0 (and_parts _ _ w.2).0)

    module _ (d : Directory) (there : Has tree d) (on : may_list who d ≡ true) where
      -- where the walk goes on from a directory: it, and what is met from the subdirectories that may be listed
      pub front_dirs-step : (stop : Components → Bool) → stop d.path ≡ false → IsPermutation (front_dirs stop d.path) (d ∷ flat_map (λ k. front_dirs stop k.path) (open_dirs d.path))
      front_dirs-step stop goes =
          let ok = lists_at tree who stop in
          let go = goes_on tree who stop in
          let step = reached_dirs-step ok go tree (distinct tree shape.order) (found_ok stop) d there (lists_at-own tree who stop shape d there ∙ on) (ap not goes) in
          let each : flat_map (λ k. reached_dirs ok go tree k.path) (filter (λ k. ok k.path) (filter (λ k. is_child_of d.path k.path) tree)) ≡ flat_map (λ k. front_dirs stop k.path) (open_dirs d.path) =
          ap (flat_map (λ k. reached_dirs ok go tree k.path)) (open_dirs-ok stop d.path)
          ∙ flat_map-agree (λ k. reached_dirs ok go tree k.path) (λ k. front_dirs stop k.path) (open_dirs d.path) (λ k h. front_dirs-reached stop k.path) in
          subst (λ l. IsPermutation l (d ∷ flat_map (λ k. front_dirs stop k.path) (open_dirs d.path))) (front_dirs-reached stop d.path)
          (subst (λ l. IsPermutation (reached_dirs ok go tree d.path) (d ∷ l)) each step)

      -- where it stops, the directory alone
      pub front_dirs-stop : (stop : Components → Bool) → stop d.path ≡ true → front_dirs stop d.path ≡ d ∷ []
      front_dirs-stop stop stops =
          sym (front_dirs-reached stop d.path)
          ∙ reached_dirs-stop (lists_at tree who stop) (goes_on tree who stop) tree (distinct tree shape.order) (found_ok stop) d there (lists_at-own tree who stop shape d there ∙ on) (ap not stops)

    -- a walk that stops nowhere meets what is listed
    none_stopped : (start path : Components) → is_stopped tree who (λ p. false) start path ≡ false
    none_stopped start path = ap (list_any (λ dir. is_prefix start dir.path && is_proper_prefix dir.path path)) (filter-none (λ _. false) tree (λ _ _. refl))

    pub listed_dirs-front : (start : Components) → front_dirs (λ p. false) start ≡ listed_dirs start
    listed_dirs-front start = filter-agree _ _ tree (λ c h. ap (λ b. is_listed tree who start c.path && not b) (none_stopped start c.path) ∙ and_true (is_listed tree who start c.path)) where
      and_true : (b : Bool) → (b && true) ≡ b
      and_true true = refl
      and_true false = refl

    pub listed_dirs-step : (d : Directory) → Has tree d → may_list who d ≡ true → IsPermutation (listed_dirs d.path) (d ∷ flat_map (λ k. listed_dirs k.path) (open_dirs d.path))
    listed_dirs-step d there on =
        subst (λ l. IsPermutation l (d ∷ flat_map (λ k. listed_dirs k.path) (open_dirs d.path))) (listed_dirs-front d.path)
        (subst (λ l. IsPermutation (front_dirs (λ p. false) d.path) (d ∷ l)) (flat_map-agree (λ k. front_dirs (λ p. false) k.path) (λ k. listed_dirs k.path) (open_dirs d.path) (λ k h. listed_dirs-front k.path))
        (front_dirs-step d there on (λ p. false) refl))

    -- each directory below the path is covered by the directory that it lies in
    abbrev pub AreCovered : Components → Type 0
    AreCovered top = (p c : Directory) → Has tree p → Has tree c → is_prefix top p.path ≡ true → is_child_of p.path c.path ≡ true → Covers (rights_of p.rec) (rights_of c.rec)

    module _ (top : Components) (covered : AreCovered top) where
      all_reached : (done rest : Components) (p c : Directory) → Has tree p → p.path ≡ top ++ done → may_list who p ≡ true → Has tree c → c.path ≡ p.path ++ rest
          → reached_from (lists_at tree who (λ q. false)) (goes_on tree who (λ q. false)) p.path rest ≡ true
      unfolding Covers
      all_reached done [] p c in_tree e on h f = lists_at-own tree who (λ q. false) shape p in_tree ∙ on
      all_reached done (name ∷ rest) p c in_tree e on h f =
          let ok = lists_at tree who (λ q. false) in
          let w = prefix_there tree shape (p.path ++ name ∷ []) rest c h (f ∙ sym (append_assoc p.path (name ∷ []) rest)) in
          let next : Directory = w.0 in
          let more : next.path ≡ top ++ (done ++ name ∷ []) = w.2 ∙ ap (λ q. q ++ name ∷ []) e ∙ append_assoc top done (name ∷ []) in
          let child : is_child_of p.path next.path ≡ true = ap (is_child_of p.path) w.2 ∙ is_child_of-push p.path name in
          let on_next : may_list who next ≡ true = covered p next in_tree w.1 (ap (is_prefix top) e ∙ is_prefix-append top done) child who on in
          let rest_of : c.path ≡ next.path ++ rest = f ∙ sym (append_assoc p.path (name ∷ []) rest) ∙ ap (λ q. q ++ rest) (sym w.2) in
          and_from _ _ (lists_at-own tree who (λ q. false) shape p in_tree ∙ on)
          (ap (λ q. reached_from ok (goes_on tree who (λ q. false)) q rest) (sym w.2) ∙ all_reached (done ++ name ∷ []) rest next c w.1 more on_next h rest_of)

    -- who may list such a directory lists all that is below it, and nothing else
    pub is_listed-covered : (d : Directory) → Has tree d → may_list who d ≡ true → AreCovered d.path → (c : Directory) → Has tree c → is_listed tree who d.path c.path ≡ is_prefix d.path c.path
    is_listed-covered d there on covered c h = by (is_prefix d.path c.path) refl where
      by : (b : Bool) → is_prefix d.path c.path ≡ b → is_listed tree who d.path c.path ≡ b
      by true e =
          let w = is_prefix-rest d.path c.path e in
          let found : reached (lists_at tree who (λ q. false)) (goes_on tree who (λ q. false)) d.path c.path ≡ true =
          ap (reached_at (lists_at tree who (λ q. false)) (goes_on tree who (λ q. false)) d.path) (ap (rest_after d.path) w.1 ∙ rest_after-append d.path w.0)
          ∙ all_reached d.path covered [] w.0 d c there (sym (append-nil d.path)) on h w.1 in
          (and_parts _ _ (sym (reached-flat tree who (λ q. false) shape d.path c h) ∙ found)).0
      by false e = false_from_ne_true _ (λ f. false≢true (sym e ∙ (and_parts _ _ (and_parts _ _ f).0).0))
