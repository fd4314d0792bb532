-- Where a start is found, it is a directory that may be listed.
use Rattle.std.proofs.Common.{◌≡◌, ℕ, ◌<◌, Bool, true, false, cond, Option, Some, None, List, [], ◌∷◌, ◌++◌, length, get_or, refl, sym, ap, ◌∙◌, append_assoc, inl, inr, subst, is_some}
use Rattle.std.specs.Prelude.{find, unwrap_or}
use Rattle.std.proofs.lemmas.Bool.{false≢true}
use Rattle.std.proofs.lemmas.List.{append-nil}
use Rattle.std.proofs.lemmas.List.Quantifiers.{position-Some}
use Rattle.gufi_base.specs.Paths.{Components}
use Rattle.gufi_access.specs.declared.class.Principal.{Principal}
use Rattle.gufi_access.specs.Access.{may_search}
use Rattle.gufi_tree.specs.declared.tree.DirId.{DirId}
use Rattle.gufi_tree.specs.declared.resolve.Resolved.TheVariants.{Found, NoSuch, NotDir}
use Rattle.gufi_tree.specs.Tree.{Directory, rights_of, is_at, dir_at, has_entry, place_of, may_list, HasTreeShape}
use Rattle.gufi_tree.specs.Places.{path_at}
use Rattle.gufi_tree.specs.Resolve.{denied_at, found_at, missing_at, start_at, resolve_from, resolve}
use Rattle.gufi_tree.proofs.Built.{Has, path_eq-Decides}
use Rattle.gufi_tree.proofs.Flat.{found-has_dir}
use Rattle.gufi_tree.proofs.Linked.{some_place, path_at-get}

find-Has : {X : Type 0} (p : X → Bool) (xs : List X) (x : X) → find p xs ≡ Some x → Has xs x × (p x ≡ true)
find-Has p [] x e = cc
find-Has {X} p (y ∷ ys) x e = by (p y) refl e (find-Has p ys x) where
  by : (b : Bool) → p y ≡ b → cond b (Some y) (find p ys) ≡ Some x → (find p ys ≡ Some x → Has ys x × (p x ≡ true)) → Has (y ∷ ys) x × (p x ≡ true)
  by true q e rest = let same : y ≡ x = cc in (inl same, ap p (sym same) ∙ q)
  by false q e rest = let w = rest e in (inr w.0, w.1)

dir_at-found : (tree : List Directory) (path : Components) (d : Directory) → dir_at tree path ≡ Some d → Has tree d × (d.path ≡ path)
dir_at-found tree path d e = let w = find-Has (is_at path) tree d e in (w.0, sym ((path_eq-Decides path d.path).0 w.1))

-- the directory that is found, at its place
record IsFoundAt (tree : List Directory) (who : Principal) (path : Components) (id : DirId) : Type 0 where
  dir : Directory
  there : Has tree dir
  at : dir.path ≡ path
  on : may_list who dir ≡ true
  place : id.0 ≡ unwrap_or (place_of tree dir.path) 0

not_missing : (tree : List Directory) (path : Components) (id : DirId) → missing_at tree path ≡ Found id → ⊥
not_missing tree path id e = by (has_entry tree path) e where
  by : (b : Bool) → cond b (NotDir (length path)) (NoSuch (length path)) ≡ Found id → ⊥
  by true e = cc
  by false e = cc

found_from : (tree : List Directory) (who : Principal) (path rest : Components) (id : DirId) → resolve_from tree who path rest ≡ Found id → IsFoundAt tree who (path ++ rest) id
found_from tree who path [] id e = by (dir_at tree path) refl e where
  by : (o : Option Directory) → dir_at tree path ≡ o → start_at tree who path o ≡ Found id → IsFoundAt tree who (path ++ []) id
  by None q e = absurd (not_missing tree path id e)
  by (Some d) q e = listed (may_list who d) refl e where
    listed : (b : Bool) → may_list who d ≡ b → cond b (found_at tree d) (denied_at who d) ≡ Found id → IsFoundAt tree who (path ++ []) id
    listed true on e =
        let w = dir_at-found tree path d q in
        let same : record { 0 = unwrap_or (place_of tree d.path) 0 } ≡ id = cc in
        record { dir = d; there = w.0; at = w.1 ∙ sym (append-nil path); on = on; place = sym (ap (λ (i : DirId). i.0) same) }
    listed false on e = absurd (no e) where
      no : denied_at who d ≡ Found id → ⊥
      no e = cc
found_from tree who path (name ∷ rest) id e = by (dir_at tree path) e (found_from tree who (path ++ name ∷ []) rest id) where
  by : (o : Option Directory)
      → elim o [ None ↦ missing_at tree path | Some dir ↦ cond (may_search who (rights_of dir.rec)) (resolve_from tree who (path ++ name ∷ []) rest) (denied_at who dir) ] ≡ Found id
      → (resolve_from tree who (path ++ name ∷ []) rest ≡ Found id → IsFoundAt tree who ((path ++ name ∷ []) ++ rest) id) → IsFoundAt tree who (path ++ name ∷ rest) id
  by None e further = absurd (not_missing tree path id e)
  by (Some d) e further = searched (may_search who (rights_of d.rec)) e where
    searched : (b : Bool) → cond b (resolve_from tree who (path ++ name ∷ []) rest) (denied_at who d) ≡ Found id → IsFoundAt tree who (path ++ name ∷ rest) id
    searched true e = let P : Components → Type 0 = λ p. IsFoundAt tree who p id in subst P (append_assoc path (name ∷ []) rest) (further e)
    searched false e = absurd (no e) where
      no : denied_at who d ≡ Found id → ⊥
      no e = cc

-- the place that is found is that of the start, whose directory may be listed
pub record IsFoundPlace (tree : List Directory) (who : Principal) (start : Components) (id : DirId) : Type 0 where
  pub within : id.0 < length tree
  pub path : path_at tree id.0 ≡ start
  pub dir : Directory
  pub there : Has tree dir
  pub at : dir.path ≡ start
  pub on : may_list who dir ≡ true

pub found_place_of_start : (tree : List Directory) (who : Principal) (start : Components) (id : DirId) → HasTreeShape tree → resolve tree who start ≡ Found id → IsFoundPlace tree who start id
unfolding resolve
found_place_of_start tree who start id shape e =
    let f = found_from tree who [] start id e in
    let some = some_place tree (f.dir).path shape.order (found-has_dir tree f.dir f.there) in
    by f (place_of tree (f.dir).path) refl some where
      by : (f : IsFoundAt tree who start id) (o : Option ℕ) → place_of tree (f.dir).path ≡ o → is_some o ≡ true → IsFoundPlace tree who start id
      by f None q some = absurd (false≢true some)
      by f (Some k) q some =
          let at = position-Some (is_at (f.dir).path) tree k f.dir q in
          let place : id.0 ≡ k = f.place ∙ ap (λ (o : Option ℕ). unwrap_or o 0) q in
          let path : path_at tree k ≡ start = path_at-get tree k f.dir at.0 ∙ sym ((path_eq-Decides (f.dir).path (get_or tree k f.dir).path).0 at.1) ∙ f.at in
          let P : ℕ → Type 0 = λ n. n < length tree in
          record { within = subst P (sym place) at.0; path = ap (path_at tree) place ∙ path; dir = f.dir; there = f.there; at = f.at; on = f.on }
