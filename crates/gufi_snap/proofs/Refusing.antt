-- What a refresh gives, by the tests that are made one by one.
use Rattle.std.proofs.Common.{◌≡◌, ℕ, ◌<◌, true, false, List, length, get_or, None, Some, Ok, Err, refl, sym, ap, ◌∙◌}
use Rattle.std.specs.Prelude.{option_map}
use Rattle.std.proofs.lemmas.List.Quantifiers.{position-Some}
use Rattle.gufi_base.specs.Paths.{Components}
use Rattle.gufi_tree.specs.declared.tree.DirId.{DirId}
use Rattle.gufi_tree.specs.Tree.{Directory, has_dir, is_at, place_of, is_too_large, HasTreeShape}
use Rattle.gufi_tree.specs.Places.{dir_id, path_at}
use Rattle.gufi_tree.specs.Graft.{graft, is_too_deep}
use Rattle.gufi_tree.proofs.Built.{path_eq-Decides}
use Rattle.gufi_tree.proofs.Flat.{found-has_dir}
use Rattle.gufi_tree.proofs.Homes.{no_place}
use Rattle.gufi_tree.proofs.Kids.{at_place}
use Rattle.gufi_tree.proofs.Linked.{path_at-get, place_within}
use Rattle.gufi_snap.proofs.Ancestors.{found_none, found_some}
use Rattle.gufi_snap.specs.Refreshed.{refreshed}
use Rattle.gufi_snap.specs.Snap.{Snap}
use Rattle.gufi_snap.specs.declared.refresh.RefreshFault.TheVariants.{NotThere, TooMany, TooDeep}

-- the directory at a place is there
pub is_there : (tree : List Directory) (k : ℕ) → k < length tree → has_dir tree (path_at tree k) ≡ true
is_there tree k within = let w = at_place tree k within in ap (has_dir tree) (sym w.2) ∙ found-has_dir tree w.0 w.1

module _ (snap : Snap) (path : Components) (part : List Directory) where
  pub gives_not_there : has_dir snap.tree path ≡ false → refreshed snap path part ≡ Err NotThere
  gives_not_there h = rw h refl

  module _ (there : has_dir snap.tree path ≡ true) where
    pub gives_too_many : is_too_large (graft snap.tree path part) ≡ true → refreshed snap path part ≡ Err TooMany
    gives_too_many h = rw (there, h) refl

    pub gives_too_deep : is_too_large (graft snap.tree path part) ≡ false → is_too_deep (graft snap.tree path part) ≡ true → refreshed snap path part ≡ Err TooDeep
    gives_too_deep h g = rw (there, h, g) refl

    pub gives_graft : is_too_large (graft snap.tree path part) ≡ false → is_too_deep (graft snap.tree path part) ≡ false → refreshed snap path part ≡ Ok (record { tree = graft snap.tree path part; limit = snap.limit })
    gives_graft h g = rw (there, h, g) refl

-- what a search by the path found
module _ (tree : List Directory) (path : Components) where
  pub not_found : HasTreeShape tree → option_map dir_id (place_of tree path) ≡ None → has_dir tree path ≡ false
  not_found shape e = no_place tree path shape.order (found_none (place_of tree path) e)

  pub found_path : (id : DirId) → option_map dir_id (place_of tree path) ≡ Some id → path_at tree id.0 ≡ path
  found_path id e =
      let at = found_some (place_of tree path) id e in
      let within = place_within tree path id.0 at in
      let d = (at_place tree id.0 within).0 in
      path_at-get tree id.0 d within ∙ sym ((path_eq-Decides path (get_or tree id.0 d).path).0 (position-Some (is_at path) tree id.0 d at).1)
