-- Going along a path, a directory at a time.
use Rattle.std.proofs.Common.{◌≡◌, ℕ, zero, suc, ◌+◌, ◌<◌, ◌≤◌, Bool, true, false, not, ◌&&◌, ◌||◌, cond, eqb, List, [], ◌∷◌, ◌++◌, length, take, drop, get_or, Option, Some, None, is_some, refl, sym, ap, ◌∙◌, arith, subst, ◌⊎◌, inl, inr}
use Rattle.std.specs.Prelude.{unwrap_or, position}
use Rattle.std.specs.declared.cmp.Ordering.TheVariants.{Less, Equal, Greater}
use Rattle.std.specs.Ordering.{ordering_then, ordering_reverse}
use Rattle.std.specs.List.{AllByRecursion, list_any, list_all, position_or_len}
use Rattle.std.proofs.lemmas.Bool.{true≢false, false≢true, and_parts, and_from, cases_order, cond-true, cond-false, lt-ltb}
use Rattle.std.proofs.lemmas.Cmp.{nat_list_cmp_total, tied_itself}
use Rattle.std.proofs.lemmas.List.{length_push, length-append, append_assoc, drop_at, take_at, drop_all, length-drop, length-take-le, take-append-drop}
use Rattle.std.proofs.lemmas.List.Folds.{list_all-append}
use Rattle.gufi_base.proofs.Names.{name_has_no, names-kept_text, IsText-kept_text}
use Rattle.gufi_base.proofs.Texts.{kept_text_push}
use Rattle.gufi_base.proofs.Below.{closed_names_cons}
use Rattle.std.proofs.lemmas.List.Quantifiers.{position-Some}
use Rattle.gufi_base.specs.Basics.{is_empty, ascends}
use Rattle.gufi_base.specs.Paths.{Components, path_cmp, path_eq, parent_path, base_name}
use Rattle.gufi_base.proofs.Cuts.{all_but_last_and_last}
use Rattle.gufi_base.proofs.SortedOnce.{below_all, ascends-tail}
use Rattle.gufi_access.specs.declared.class.Principal.{Principal}
use Rattle.gufi_access.specs.Access.{can_list, may_search}
use Rattle.gufi_tree.specs.declared.resolve.Resolved.{Resolved}
use Rattle.gufi_tree.specs.declared.resolve.Resolved.TheVariants.{Found, NoSuch, NotDir}
use Rattle.gufi_tree.specs.Tree.{Directory, dir_cmp, rights_of, is_at, dir_at, place_of, has_dir, has_entry, has_entry_named, HasTreeShape}
use Rattle.gufi_tree.specs.Places.{path_at}
use Rattle.gufi_base.specs.Names.{is_name}
use Rattle.gufi_base.specs.PathTexts.{closed_names, kept_text, names, IsText}
use Rattle.gufi_tree.specs.Resolve.{denied_at, found_at, missing_at, missing_in, start_at, resolve_from, resolve}
use Rattle.gufi_tree.specs.Reached.{IsReached}
use Rattle.gufi_tree.proofs.Built.{path_cmp-total, dir_cmp-total, path_eq-Decides, path_eq-more, path_eq-less, parent_path-child, base_name-child}
use Rattle.gufi_tree.proofs.Searched.{in_order, place_of-at}
use Rattle.gufi_tree.proofs.Homes.{no_place}
use Rattle.gufi_tree.proofs.Linked.{path_at-get, list_all-get, some_place, some_injective, root_first}

-- a test that holds of the one directory with a path alone
module _ (path : Components) (q : Directory → Bool) where
  none_other : (ds : List Directory) → AllByRecursion (λ (v : Directory). path_eq path v.path ≡ false) ds → list_any (λ dir. is_at path dir && q dir) ds ≡ false
  none_other [] h = refl
  none_other (d ∷ ds) h = rw h.0 (none_other ds h.1)

  pub only_at : (tree : List Directory) (k : ℕ) (d : Directory) → ascends dir_cmp tree ≡ true → k < length tree → path ≡ (get_or tree k d).path → list_any (λ dir. is_at path dir && q dir) tree ≡ q (get_or tree k d)
  only_at [] k d up lt e = absurd (omega arith)
  only_at (x ∷ tree) zero d up lt e =
      let here : path_eq path x.path ≡ true = (path_eq-Decides path x.path).1 e in
      let rest : list_any (λ dir. is_at path dir && q dir) tree ≡ false = none_other tree (others tree (below_all dir_cmp dir_cmp-total x tree up)) in
      rw (here, rest) (or_false (q x)) where
        or_false : (b : Bool) → (b || false) ≡ b
        or_false true = refl
        or_false false = refl

        others : (ds : List Directory) → AllByRecursion (λ (v : Directory). dir_cmp x v ≡ Less) ds → AllByRecursion (λ (v : Directory). path_eq path v.path ≡ false) ds
        others [] h = tt
        others (v ∷ ds) h = (path_eq-less path v.path (ap (λ (p : Components). path_cmp p v.path) e ∙ h.0), others ds h.1)
  only_at (x ∷ tree) (suc k) d up lt e =
      let before : path_cmp x.path path ≡ Less = ap (path_cmp x.path) e ∙ in_order (x ∷ tree) up 0 (suc k) d (omega arith) lt in
      rw (path_eq-more path x.path before) (only_at tree k d (ascends-tail dir_cmp dir_cmp-total x tree up) (omega arith) e)

pub dir_at-get : (tree : List Directory) (path : Components) (k : ℕ) (d : Directory) → ascends dir_cmp tree ≡ true → k < length tree → path ≡ (get_or tree k d).path → dir_at tree path ≡ Some (get_or tree k d)
dir_at-get [] path k d up lt e = absurd (omega arith)
dir_at-get (x ∷ tree) path zero d up lt e = rw ((path_eq-Decides path x.path).1 e) refl
dir_at-get (x ∷ tree) path (suc k) d up lt e =
    let before : path_cmp x.path path ≡ Less = ap (path_cmp x.path) e ∙ in_order (x ∷ tree) up 0 (suc k) d (omega arith) lt in
    rw (path_eq-more path x.path before) (dir_at-get tree path k d (ascends-tail dir_cmp dir_cmp-total x tree up) (omega arith) e)

pub dir_at-none : (tree : List Directory) (path : Components) → has_dir tree path ≡ false → dir_at tree path ≡ None
dir_at-none [] path h = refl
dir_at-none (x ∷ tree) path h = by (path_eq path x.path) h (dir_at-none tree path) where
  by : (b : Bool) → (b || has_dir tree path) ≡ false → (has_dir tree path ≡ false → dir_at tree path ≡ None) → cond b (Some x) (dir_at tree path) ≡ None
  by true e rest = absurd (true≢false e)
  by false e rest = rest e

-- a parent is before its child
parent_less : (p : Components) → is_empty p ≡ false → path_cmp (parent_path p) p ≡ Less
parent_less [] e = absurd (true≢false e)
parent_less (n ∷ []) e = refl
parent_less (n ∷ m ∷ p) e = ap (λ o. ordering_then o (path_cmp (parent_path (m ∷ p)) (m ∷ p))) (tied_itself nat_list_cmp_total n) ∙ parent_less (m ∷ p) refl

length-parent : (p : Components) → is_empty p ≡ false → length p ≡ length (parent_path p) + 1
length-parent [] e = absurd (true≢false e)
length-parent (n ∷ p) e = sym (ap length (all_but_last_and_last (47 ∷ []) n p)) ∙ length_push (parent_path (n ∷ p)) (base_name (n ∷ p))

module _ (tree : List Directory) (shape : HasTreeShape tree) where
  pub parent_before : (k j : ℕ) (d : Directory) → k < length tree → is_empty (get_or tree k d).path ≡ false → place_of tree (parent_path (get_or tree k d).path) ≡ Some j → (j < k) × ((get_or tree j d).path ≡ parent_path (get_or tree k d).path)
  parent_before k j d lt some e =
      let at = position-Some (is_at (parent_path (get_or tree k d).path)) tree j d e in
      let same : (get_or tree j d).path ≡ parent_path (get_or tree k d).path = sym ((path_eq-Decides (parent_path (get_or tree k d).path) (get_or tree j d).path).0 at.1) in
      let less : path_cmp (get_or tree j d).path (get_or tree k d).path ≡ Less = ap (λ (p : Components). path_cmp p (get_or tree k d).path) same ∙ parent_less (get_or tree k d).path some in
      (earlier at.0 less (cases_order j k), same) where
        earlier : j < length tree → path_cmp (get_or tree j d).path (get_or tree k d).path ≡ Less → (j ≡ k) ⊎ ((j < k) ⊎ (k < j)) → j < k
        earlier in' less (inl same) =
            let no : Equal ≡ Less = sym (tied_itself path_cmp-total (get_or tree k d).path) ∙ ap (λ n. path_cmp (get_or tree n d).path (get_or tree k d).path) (sym same) ∙ less in
            cc
        earlier in' less (inr (inl below)) = below
        earlier in' less (inr (inr above)) =
            let back : path_cmp (get_or tree k d).path (get_or tree j d).path ≡ Less = in_order tree shape.order k j d above in' in
            let no : Greater ≡ Less = sym (path_cmp-total.antisymm (get_or tree k d).path (get_or tree j d).path ∙ ap ordering_reverse less) ∙ back in
            cc

  -- a directory has no more names than its place says
  pub depth_within : (n k : ℕ) (d : Directory) → k < n → k < length tree → length (get_or tree k d).path ≤ k
  depth_within zero k d below lt = absurd (omega arith)
  depth_within (suc n) k d below lt = by (λ j l m. depth_within n j d l m) (is_empty (get_or tree k d).path) refl where
    nothing : (p : Components) → is_empty p ≡ true → length p ≤ k
    nothing [] e = omega arith
    nothing (m ∷ p) e = absurd (true≢false (sym e))

    from : ((j : ℕ) → j < n → j < length tree → length (get_or tree j d).path ≤ j) → (o : Option ℕ) → place_of tree (parent_path (get_or tree k d).path) ≡ o → is_some o ≡ true → is_empty (get_or tree k d).path ≡ false → length (get_or tree k d).path ≤ k
    from shorter None e some e' = absurd (false≢true some)
    from shorter (Some j) e some e' =
        let at = parent_before k j d lt e' e in
        let lower : j < k = at.0 in
        let ih : length (get_or tree j d).path ≤ j = shorter j (omega (arith, lower)) (omega (arith, lower)) in
        let here = length-parent (get_or tree k d).path e' in
        omega (arith, ih, here, ap length at.1, lower)

    by : ((j : ℕ) → j < n → j < length tree → length (get_or tree j d).path ≤ j) → (b : Bool) → is_empty (get_or tree k d).path ≡ b → length (get_or tree k d).path ≤ k
    by shorter true e = nothing (get_or tree k d).path e
    by shorter false e =
        let there = list_all-get (λ (v : Directory). has_dir tree (parent_path v.path)) tree k d shape.parents lt in
        from shorter (place_of tree (parent_path (get_or tree k d).path)) refl (some_place tree (parent_path (get_or tree k d).path) shape.order there) e

-- a name that no directory has
missing_from : (tree : List Directory) (who : Principal) (path rest : Components) → dir_at tree path ≡ None → resolve_from tree who path rest ≡ missing_at tree path
missing_from tree who path [] e = ap (start_at tree who path) e
missing_from tree who path (n ∷ rest) e = rw (e, resolve_from) refl

searched_from : (tree : List Directory) (who : Principal) (path : Components) (n : List ℕ) (rest : Components) (dir : Directory) → dir_at tree path ≡ Some dir
    → resolve_from tree who path (n ∷ rest) ≡ cond (may_search who (rights_of dir.rec)) (resolve_from tree who (path ++ n ∷ []) rest) (denied_at who dir)
searched_from tree who path n rest dir e = rw (e, resolve_from) refl

module _ (tree : List Directory) (who : Principal) (shape : HasTreeShape tree) (k : ℕ) (s : Directory) (lt : k < length tree) (is : s ≡ get_or tree k s) where
  there : get_or tree k s ≡ s
  there = sym is

  path_there : path_at tree k ≡ s.path
  path_there = path_at-get tree k s lt ∙ ap (λ (d : Directory). d.path) there

  here : dir_at tree (path_at tree k) ≡ Some s
  here = dir_at-get tree (path_at tree k) k s shape.order lt (path_at-get tree k s lt) ∙ ap (λ (d : Directory). Some d) there

  pub depth_at : length s.path ≤ k
  depth_at =
      let h = depth_within tree shape (k + 1) k s (omega arith) lt in
      subst (λ (d : Directory). length d.path ≤ k) there h

  pub arrive_found : can_list who (rights_of s.rec) ≡ true → Found (record { 0 = k }) ≡ resolve_from tree who (path_at tree k) []
  arrive_found e =
      let at : place_of tree s.path ≡ Some k = place_of-at tree s.path k s shape.order lt (ap (λ (d : Directory). d.path) there) in
      sym (ap (start_at tree who (path_at tree k)) here ∙ cond-true (can_list who (rights_of s.rec)) (found_at tree s) (denied_at who s) e
      ∙ ap (λ (o : Option ℕ). Found (record { 0 = unwrap_or o 0 })) at)

  pub arrive_denied : can_list who (rights_of s.rec) ≡ false → denied_at who s ≡ resolve_from tree who (path_at tree k) []
  arrive_denied e =
      sym (ap (start_at tree who (path_at tree k)) here ∙ cond-false (can_list who (rights_of s.rec)) (found_at tree s) (denied_at who s) e)

  pub step_denied : (name : List ℕ) (rest : Components) → may_search who (rights_of s.rec) ≡ false → denied_at who s ≡ resolve_from tree who (path_at tree k) (name ∷ rest)
  step_denied name rest e =
      sym (searched_from tree who (path_at tree k) name rest s here
      ∙ cond-false (may_search who (rights_of s.rec)) (resolve_from tree who (path_at tree k ++ name ∷ []) rest) (denied_at who s) e)

  pub step_on : (name : List ℕ) (rest : Components) → may_search who (rights_of s.rec) ≡ true
      → resolve_from tree who (path_at tree k) (name ∷ rest) ≡ resolve_from tree who (path_at tree k ++ name ∷ []) rest
  step_on name rest e =
      searched_from tree who (path_at tree k) name rest s here
      ∙ cond-true (may_search who (rights_of s.rec)) (resolve_from tree who (path_at tree k ++ name ∷ []) rest) (denied_at who s) e

  some_child : (p : Components) (name : List ℕ) → is_empty (p ++ name ∷ []) ≡ false
  some_child [] name = refl
  some_child (n ∷ p) name = refl

  entry_there : (name : List ℕ) → has_entry tree (path_at tree k ++ name ∷ []) ≡ has_entry_named name s
  entry_there name =
      rw (some_child (path_at tree k) name, parent_path-child (path_at tree k) name, base_name-child (path_at tree k) name)
      (only_at (path_at tree k) (has_entry_named name) tree k s shape.order lt (path_at-get tree k s lt)
      ∙ ap (has_entry_named name) there)

  pub step_missing : (name : List ℕ) (rest : Components) → place_of tree (path_at tree k ++ name ∷ []) ≡ None
      → missing_in s name ≡ resolve_from tree who (path_at tree k ++ name ∷ []) rest
  step_missing name rest e =
      let none = dir_at-none tree (path_at tree k ++ name ∷ []) (no_place tree (path_at tree k ++ name ∷ []) shape.order e) in
      let depth : length (path_at tree k ++ name ∷ []) ≡ length s.path + 1 = length_push (path_at tree k) name ∙ ap (λ (p : Components). length p + 1) path_there in
      sym (missing_from tree who (path_at tree k ++ name ∷ []) rest none
      ∙ ap (λ b. cond b (NotDir (length (path_at tree k ++ name ∷ []))) (NoSuch (length (path_at tree k ++ name ∷ [])))) (entry_there name)
      ∙ ap (λ n. cond (has_entry_named name s) (NotDir n) (NoSuch n)) depth)

pub place_path : (tree : List Directory) (path : Components) (k : ℕ) → place_of tree path ≡ Some k → path_at tree k ≡ path
place_path [] path k e = absurd cc
place_path (x ∷ tree) path k e =
    let at = position-Some (is_at path) (x ∷ tree) k x e in
    path_at-get (x ∷ tree) k x at.0 ∙ sym ((path_eq-Decides path (get_or (x ∷ tree) k x).path).0 at.1)

-- the first name of a rest of a text
slash_first : (name rest : List ℕ) → list_all (λ b. not (eqb b 47)) name ≡ true → position_or_len (λ b. eqb b 47) (name ++ 47 ∷ rest) ≡ length name
slash_first [] rest h = refl
slash_first (b ∷ name) rest h =
    let both = and_parts (not (eqb b 47)) (list_all (λ c. not (eqb c 47)) name) h in
    let more : position_or_len (λ c. eqb c 47) (name ++ 47 ∷ rest) ≡ length name = slash_first name rest both.1 in
    let start : position_or_len (λ c. eqb c 47) (b ∷ (name ++ 47 ∷ rest)) ≡ 1 + position_or_len (λ c. eqb c 47) (name ++ 47 ∷ rest) = cond-true (not (eqb b 47)) (1 + position_or_len (λ c. eqb c 47) (name ++ 47 ∷ rest)) 0 both.0 in
    omega (arith, start, more)

pub slash_place : (name rest : List ℕ) → list_all (λ b. not (eqb b 47)) name ≡ true → position (λ b. eqb b 47) (name ++ 47 ∷ rest) ≡ Some (length name)
slash_place name rest h =
    let at = slash_first name rest h in
    let lt : length name < length (name ++ 47 ∷ rest) = omega (arith, length-append name (47 ∷ rest)) in
    rw at (cond-true _ (Some (length name)) None (lt-ltb (length name) (length (name ++ 47 ∷ rest)) lt))

pub cut_name : (text front name rest : List ℕ) (offset k : ℕ) → text ≡ front ++ (name ++ 47 ∷ rest) → length front ≡ offset → list_all (λ b. not (eqb b 47)) name ≡ true → position (λ b. eqb b 47) (drop offset text) ≡ Some k
    → (k ≡ length name) × ((take (offset + k + 1) text ≡ front ++ (name ++ 47 ∷ [])) × (take k (drop offset text) ≡ name))
cut_name text front name rest offset k same len none at =
    let behind : drop offset text ≡ name ++ 47 ∷ rest = ap (drop offset) same ∙ drop_at front (name ++ 47 ∷ rest) offset len in
    let is : k ≡ length name = some_injective k (length name) (sym at ∙ ap (λ (t : List ℕ). position (λ b. eqb b 47) t) behind ∙ slash_place name rest none) in
    let whole : text ≡ (front ++ (name ++ 47 ∷ [])) ++ rest = same ∙ ap (λ (t : List ℕ). front ++ t) (sym (append_assoc name (47 ∷ []) rest)) ∙ sym (append_assoc front (name ++ 47 ∷ []) rest) in
    let size : length (front ++ (name ++ 47 ∷ [])) ≡ offset + k + 1 = omega (arith, length-append front (name ++ 47 ∷ []), length-append name (47 ∷ []), len, is) in
    (is, (ap (take (offset + k + 1)) whole ∙ take_at (front ++ (name ++ 47 ∷ [])) rest (offset + k + 1) size, ap (take k) behind ∙ take_at name (47 ∷ rest) k (sym is)))

resolve_is : (tree : List Directory) (who : Principal) (p : Components) → resolve tree who p ≡ resolve_from tree who [] p
unfolding resolve
resolve_is tree who p = refl

-- the name that comes next on a walk
pub record HasNext (tree : List Directory) (who : Principal) (text : List ℕ) (offset place : ℕ) : Type 0 where
  pub name : List ℕ
  pub rest : Components
  pub whole : text ≡ take offset text ++ (name ++ 47 ∷ closed_names rest)
  pub len : length (take offset text) ≡ offset
  pub plain : list_all (λ b. not (eqb b 47)) name ≡ true
  pub next : take offset text ++ (name ++ 47 ∷ []) ≡ kept_text (path_at tree place ++ name ∷ [])
  pub known : list_all is_name (path_at tree place ++ name ∷ []) ≡ true
  pub named : list_all is_name rest ≡ true
  pub same : resolve_from tree who (path_at tree place) (name ∷ rest) ≡ resolve tree who (names text)

-- how far a walk along a text has come
module _ (tree : List Directory) (who : Principal) (text : List ℕ) where
  pub reached_start : HasTreeShape tree → IsText text → IsReached tree who text 1 0
  reached_start shape is = by tree shape where
    by : (ds : List Directory) → HasTreeShape ds → IsReached ds who text 1 0
    by [] s = absurd (false≢true s.root)
    by (d ∷ ds) s =
        let root : path_at (d ∷ ds) 0 ≡ [] = root_first (d ∷ ds) s.order s.root in
        record {
          rest = names text;
          within = omega arith;
          behind = ap (take 1) (sym is.whole) ∙ ap kept_text (sym root);
          ahead = ap (drop 1) (sym is.whole);
          named = is.each;
          known = ap (list_all is_name) root;
          same = ap (λ (p : Components). resolve_from (d ∷ ds) who p (names text)) root ∙ sym (resolve_is (d ∷ ds) who (names text));
        }

  pub next_of : (offset place : ℕ) → IsReached tree who text offset place → offset < length text → HasNext tree who text offset place
  next_of offset place r lt = by r.rest r.ahead r.named r.same where
    by : (rest : Components) → drop offset text ≡ closed_names rest → list_all is_name rest ≡ true → resolve_from tree who (path_at tree place) rest ≡ resolve tree who (names text) → HasNext tree who text offset place
    by [] ahead named same = absurd (omega (arith, ap length ahead, length-drop offset text, lt))
    by (name ∷ rest) ahead named same =
        let both = and_parts (is_name name) (list_all is_name rest) named in
        let opened : closed_names (name ∷ rest) ≡ name ++ 47 ∷ closed_names rest = closed_names_cons name rest in
        record {
          name = name;
          rest = rest;
          whole = sym (take-append-drop offset text) ∙ ap (λ (t : List ℕ). take offset text ++ t) (ahead ∙ opened);
          len = length-take-le offset text (omega arith);
          plain = name_has_no name both.0;
          next = ap (λ (t : List ℕ). t ++ (name ++ 47 ∷ [])) r.behind ∙ sym (kept_text_push (path_at tree place) name);
          known = list_all-append is_name (path_at tree place) (name ∷ []) ∙ and_from (list_all is_name (path_at tree place)) (is_name name && true) r.known (and_from (is_name name) true both.0 refl);
          named = both.1;
          same = same;
        }

  module _ (offset place : ℕ) (h : HasNext tree who text offset place) where
    pub next_slash : is_some (position (λ b. eqb b 47) (drop offset text)) ≡ true
    next_slash =
        let behind : drop offset text ≡ h.name ++ 47 ∷ closed_names h.rest = ap (drop offset) h.whole ∙ drop_at (take offset text) (h.name ++ 47 ∷ closed_names h.rest) offset h.len in
        ap (λ (t : List ℕ). is_some (position (λ b. eqb b 47) t)) behind ∙ ap is_some (slash_place h.name (closed_names h.rest) h.plain)

    pub next_text : (next : List ℕ) → next ≡ take offset text ++ (h.name ++ 47 ∷ []) → IsText next
    next_text next e = subst IsText (sym (e ∙ h.next)) (IsText-kept_text (path_at tree place ++ h.name ∷ []) h.known)

    pub next_names : (next name : List ℕ) → next ≡ take offset text ++ (h.name ++ 47 ∷ []) → name ≡ h.name → names next ≡ path_at tree place ++ name ∷ []
    next_names next name e f =
        ap names (e ∙ h.next) ∙ names-kept_text (path_at tree place ++ h.name ∷ []) h.known ∙ ap (λ (n : List ℕ). path_at tree place ++ n ∷ []) (sym f)

    pub refused_is : (name : List ℕ) (refused : Resolved) → name ≡ h.name → ((rest : Components) → refused ≡ resolve_from tree who (path_at tree place) (name ∷ rest)) → refused ≡ resolve tree who (names text)
    refused_is name refused f g = g h.rest ∙ ap (λ (n : List ℕ). resolve_from tree who (path_at tree place) (n ∷ h.rest)) f ∙ h.same

    pub reached_next : (next name : List ℕ) (found : ℕ) → next ≡ take offset text ++ (h.name ++ 47 ∷ []) → name ≡ h.name → found < length tree → path_at tree found ≡ names next
        → ((rest : Components) → resolve_from tree who (path_at tree place) (name ∷ rest) ≡ resolve_from tree who (names next) rest) → IsReached tree who text (length next) found
    reached_next next name found e f in' path on =
        let here : names next ≡ path_at tree place ++ h.name ∷ [] = ap names (e ∙ h.next) ∙ names-kept_text (path_at tree place ++ h.name ∷ []) h.known in
        let there : path_at tree found ≡ path_at tree place ++ h.name ∷ [] = path ∙ here in
        let whole : text ≡ next ++ closed_names h.rest =
        h.whole ∙ ap (λ (t : List ℕ). take offset text ++ t) (sym (append_assoc h.name (47 ∷ []) (closed_names h.rest))) ∙ sym (append_assoc (take offset text) (h.name ++ 47 ∷ []) (closed_names h.rest))
        ∙ ap (λ (t : List ℕ). t ++ closed_names h.rest) (sym e) in
        record {
          rest = h.rest;
          within = in';
          behind = ap (take (length next)) whole ∙ take_at next (closed_names h.rest) (length next) refl ∙ e ∙ h.next ∙ ap kept_text (sym there);
          ahead = ap (drop (length next)) whole ∙ drop_at next (closed_names h.rest) (length next) refl;
          named = h.named;
          known = ap (list_all is_name) there ∙ h.known;
          same = ap (λ (p : Components). resolve_from tree who p h.rest) path ∙ sym (on h.rest) ∙ ap (λ (n : List ℕ). resolve_from tree who (path_at tree place) (n ∷ h.rest)) f ∙ h.same;
        }

    pub next_longer : (next : List ℕ) → next ≡ take offset text ++ (h.name ++ 47 ∷ []) → offset < length next
    next_longer next e = omega (arith, ap length e, length-append (take offset text) (h.name ++ 47 ∷ []), length-append h.name (47 ∷ []), h.len)

  pub reached_end : (offset place : ℕ) → IsReached tree who text offset place → length text ≤ offset → resolve_from tree who (path_at tree place) [] ≡ resolve tree who (names text)
  reached_end offset place r past = by r.rest r.ahead r.same where
    by : (rest : Components) → drop offset text ≡ closed_names rest → resolve_from tree who (path_at tree place) rest ≡ resolve tree who (names text) → resolve_from tree who (path_at tree place) [] ≡ resolve tree who (names text)
    by [] ahead same = same
    by (name ∷ rest) ahead same =
        let none : length (drop offset text) ≡ 0 = ap length (drop_all offset text past) in
        absurd (omega (arith, none, ap length (ahead ∙ closed_names_cons name rest), length-append name (47 ∷ closed_names rest)))
