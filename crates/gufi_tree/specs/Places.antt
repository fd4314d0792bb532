-- Directories by their places.
use Rattle.std.specs.Prelude.{ℕ, ◌+◌, Bool, ◌==◌, List, [], ◌∷◌, map, slice_index_or, Option, None, option_map, if◌then◌else◌}
use Rattle.gufi_base.specs.Paths.{Components, parent_path, is_child_of}
use Rattle.gufi_tree.specs.declared.tree.DirId.{DirId}
use Rattle.gufi_tree.specs.Tree.{Directory, place_of}

abbrev pub dir_id : ℕ → DirId
dir_id k = record { 0 = k }

-- the path of the directory at a place
abbrev pub path_at : List Directory → ℕ → Components
path_at tree k = slice_index_or (map (λ dir. dir.path) tree) k []

-- where the parent of the directory at a place is; the root has none
abbrev pub parent_id : List Directory → ℕ → Option DirId
parent_id tree k = if k == 0 then None else option_map dir_id (place_of tree (parent_path (path_at tree k)))

-- the places, from the first on, of the directories that pass a test
abbrev pub ids_from : (Directory → Bool) → ℕ → List Directory → List DirId
ids_from test k [] = []
ids_from test k (dir ∷ rest) = if test dir then dir_id k ∷ ids_from test (k + 1) rest else ids_from test (k + 1) rest

-- the places of the directories right below a path, in path order
abbrev pub child_ids : List Directory → Components → List DirId
child_ids tree path = ids_from (λ dir. is_child_of path dir.path) 0 tree
