-- A snapshot with a subtree replaced by another tree.
use Rattle.std.specs.Prelude.{not, List, Result, Ok}
use Rattle.gufi_base.specs.Basics.{◌>>=◌, ◌>>◌, refuse}
use Rattle.gufi_base.specs.Paths.{Components}
use Rattle.gufi_tree.specs.Tree.{Directory, has_dir, is_too_large}
use Rattle.gufi_tree.specs.Graft.{graft, is_too_deep}
use Rattle.gufi_snap.specs.declared.refresh.RefreshFault.{RefreshFault}
use Rattle.gufi_snap.specs.declared.refresh.RefreshFault.TheVariants.{NotThere, TooMany, TooDeep}
use Rattle.gufi_snap.specs.Snap.{Snap}

-- the tree after a refresh, or why there is none
abbrev pub refreshed_tree : List Directory → Components → List Directory → Result (List Directory) RefreshFault
refreshed_tree tree path part =
    refuse (not (has_dir tree path)) NotThere
    >> refuse (is_too_large (graft tree path part)) TooMany
    >> refuse (is_too_deep (graft tree path part)) TooDeep
    >> Ok (graft tree path part)

-- the same with the limit of the snapshot before
abbrev pub refreshed : Snap → Components → List Directory → Result Snap RefreshFault
refreshed snap path part = refreshed_tree snap.tree path part >>= λ tree. Ok (record { tree = tree; limit = snap.limit })
