-- Pathname resolution (XBD 4.13 in part), from the root, a component at a time.
use Rattle.std.specs.Prelude.{ℕ, ◌+◌, Bool, true, false, List, [], ◌∷◌, ◌++◌, length, Option, Some, None, unwrap_or, if◌then◌else◌}
use Rattle.gufi_base.specs.Paths.{Components}
use Rattle.gufi_access.specs.declared.class.Principal.{Principal}
use Rattle.gufi_access.specs.Access.{class_for, may_search}
use Rattle.gufi_tree.specs.declared.resolve.Resolved.{Resolved}
use Rattle.gufi_tree.specs.declared.resolve.Resolved.TheVariants.{Found, Denied, NoSuch, NotDir}
use Rattle.gufi_tree.specs.Tree.{Directory, rights_of, dir_at, place_of, has_entry, has_entry_named, may_list}

abbrev pub denied_at : Principal → Directory → Resolved
denied_at who dir = Denied (length dir.path) (class_for who (rights_of dir.rec))

abbrev pub found_at : List Directory → Directory → Resolved
found_at tree dir = Found (record { 0 = unwrap_or (place_of tree dir.path) 0 })

-- a path at which there is no directory: an entry is there, or nothing
abbrev pub missing_at : List Directory → Components → Resolved
missing_at tree path = if has_entry tree path then NotDir (length path) else NoSuch (length path)

-- the same of a name in a directory
abbrev pub missing_in : Directory → List ℕ → Resolved
missing_in dir name = if has_entry_named name dir then NotDir (length dir.path + 1) else NoSuch (length dir.path + 1)

-- the start of a walk, where a directory is there
abbrev pub start_at : List Directory → Principal → Components → Option Directory → Resolved
start_at tree who path None = missing_at tree path
start_at tree who path (Some dir) = if may_list who dir then found_at tree dir else denied_at who dir

-- the components that are left, behind those that are done
abbrev pub resolve_from : List Directory → Principal → Components → Components → Resolved
resolve_from tree who path [] = start_at tree who path (dir_at tree path)
resolve_from tree who path (name ∷ rest) =
    elim (dir_at tree path) [
      | None ↦ missing_at tree path
      | Some dir ↦ if may_search who (rights_of dir.rec) then resolve_from tree who (path ++ name ∷ []) rest else denied_at who dir
    ]

unfoldable pub resolve : List Directory → Principal → Components → Resolved
resolve tree who path = resolve_from tree who [] path

abbrev pub is_found : Resolved → Bool
is_found (Found id) = true
is_found (Denied depth class) = false
is_found (NoSuch depth) = false
is_found (NotDir depth) = false
