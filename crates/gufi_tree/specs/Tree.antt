-- A tree is the list of its directories, in path order.
use Rattle.std.specs.Prelude.{◌||◌, nat_lt, nat_le, ℕ, Bool, not, ◌&&◌, List, [], ◌∷◌, ◌++◌, length, filter, map, find, position, sum_by, Option, bytes_eq, IsTrue}
use Rattle.std.specs.List.{list_any, list_all, flat_map}
use Rattle.std.specs.declared.cmp.Ordering.{Ordering}
use Rattle.std.specs.Ordering.{nat_cmp}
use Rattle.std.specs.Cmp.Lexicographic.{slice_cmp}
use Rattle.gufi_base.specs.declared.record.Rec.{Rec}
use Rattle.gufi_base.specs.declared.record.Row.{Row}
use Rattle.gufi_base.specs.Limits.{max_dirs, max_entries, max_link}
use Rattle.gufi_base.specs.Basics.{is_empty, ascends}
use Rattle.gufi_base.specs.Names.{is_name, is_path_byte}
use Rattle.gufi_base.specs.Xattrs.{are_xattrs}
use Rattle.gufi_base.specs.Paths.{Components, path_cmp, path_eq, parent_path, base_name, is_prefix, is_child_of}
use Rattle.gufi_base.specs.Kinds.{is_dir}
use Rattle.gufi_base.specs.Rows.{home, sort_rows, row_fits_types}
use Rattle.gufi_access.specs.declared.class.Principal.{Principal}
use Rattle.gufi_access.specs.Access.{Rights, can_list}
use Rattle.gufi_access.specs.Acl.{is_acl_or_none}
use Rattle.gufi_tree.specs.declared.tree.Entry.{Entry}

-- a directory with its path, its record and its entries
pub record Directory : Type 0 where
  pub path : List (List ℕ)
  pub rec : Rec
  pub entries : List Entry

-- a mode of 12 bits, a link of at most 4,096 bytes without 0x00 and newline, names of extended attributes, and an access control list or none
abbrev pub is_well_formed : Rec → Bool
is_well_formed rec =
    nat_le rec.meta.mode 4095 && nat_le (length rec.link) max_link && list_all is_path_byte rec.link && are_xattrs rec.xattrs && is_acl_or_none rec.acl

-- what decides the access to the file of a record
abbrev pub rights_of : Rec → Rights
rights_of rec = record { uid = rec.meta.uid; gid = rec.meta.gid; mode = rec.meta.mode; acl = rec.acl }

abbrev pub is_at : Components → Directory → Bool
is_at path dir = path_eq path dir.path

-- the directory at a path, and its place among all
abbrev pub dir_at : List Directory → Components → Option Directory
dir_at tree path = find (is_at path) tree

abbrev pub place_of : List Directory → Components → Option ℕ
place_of tree path = position (is_at path) tree

abbrev pub has_dir : List Directory → Components → Bool
has_dir tree path = list_any (is_at path) tree

-- an entry of the directory that the path lies in
abbrev pub has_entry_named : List ℕ → Directory → Bool
has_entry_named name dir = list_any (λ entry. bytes_eq name entry.name) dir.entries

abbrev pub has_entry : List Directory → Components → Bool
has_entry tree path = not (is_empty path) && list_any (λ dir. is_at (parent_path path) dir && has_entry_named (base_name path) dir) tree

-- the directories right below a path, in path order
abbrev pub subdirs : List Directory → Components → List Directory
subdirs tree path = filter (λ dir. is_child_of path dir.path) tree

-- whether the principal may list the directory
abbrev pub may_list : Principal → Directory → Bool
may_list who dir = can_list who (rights_of dir.rec)

-- how many entries there are
abbrev pub entry_count : List Directory → ℕ
entry_count tree = sum_by (λ dir. length dir.entries) tree

-- what a tree is
abbrev pub dir_cmp : Directory → Directory → Ordering
dir_cmp a b = path_cmp a.path b.path

abbrev pub entry_cmp : Entry → Entry → Ordering
entry_cmp a b = slice_cmp nat_cmp a.name b.name

abbrev pub is_entry_of : List Directory → Components → Entry → Bool
is_entry_of tree path entry = not (is_dir entry.rec.meta.kind) && is_well_formed entry.rec && is_name entry.name && not (has_dir tree (path ++ entry.name ∷ []))

abbrev pub is_directory_of : List Directory → Directory → Bool
is_directory_of tree dir =
    is_dir dir.rec.meta.kind && is_well_formed dir.rec && list_all is_name dir.path && has_dir tree (parent_path dir.path)
    && ascends entry_cmp dir.entries && list_all (is_entry_of tree dir.path) dir.entries

-- The root is there and each parent; no two names in a directory are equal; records are sound.
abbrev pub is_tree : List Directory → Bool
is_tree tree = has_dir tree [] && ascends dir_cmp tree && list_all (is_directory_of tree) tree

-- the directory's record is a directory's, and its entries' are not
abbrev pub is_kinded : Directory → Bool
is_kinded d = is_dir d.rec.meta.kind && list_all (λ (e : Entry). not (is_dir e.rec.meta.kind)) d.entries

-- What is known of a tree that was built: the root and each parent are there, paths and names ascend, and no entry has the name of a
-- subdirectory.
pub record HasTreeShape (tree : List Directory) : Type 0 where
  pub root : IsTrue (has_dir tree [])
  pub order : IsTrue (ascends dir_cmp tree)
  pub parents : IsTrue (list_all (λ dir. has_dir tree (parent_path dir.path)) tree)
  pub entries : IsTrue (list_all (λ dir. ascends entry_cmp dir.entries) tree)
  pub kinds : IsTrue (list_all is_kinded tree)
  pub apart : IsTrue (list_all (λ dir. list_all (λ entry. not (has_dir tree (dir.path ++ entry.name ∷ []))) dir.entries) tree)

-- one row for a directory and one for each entry; all rows in path order
abbrev pub dir_row : Directory → Row
dir_row dir = record { path = dir.path; rec = dir.rec }

abbrev pub entry_row : Components → Entry → Row
entry_row path entry = record { path = path ++ entry.name ∷ []; rec = entry.rec }

abbrev pub own_rows : Directory → List Row
own_rows dir = dir_row dir ∷ map (entry_row dir.path) dir.entries

abbrev pub all_rows : List Directory → List Row
all_rows tree = sort_rows (flat_map own_rows tree)

-- the rows with their home at the path or below it, and those with their home at the path itself
abbrev pub subtree_rows : List Directory → Components → List Row
subtree_rows tree path = filter (λ row. is_prefix path (home row)) (all_rows tree)

abbrev pub home_rows : List Directory → Components → List Row
home_rows tree path = filter (λ row. path_eq path (home row)) (all_rows tree)

-- a tree whose records are those of the program's types
abbrev pub is_program_tree : List Directory → Bool
is_program_tree tree = is_tree tree && list_all row_fits_types (flat_map own_rows tree)

-- more directories or entries than an index may have
abbrev pub is_too_large : List Directory → Bool
is_too_large tree = nat_lt max_dirs (length tree) || nat_lt max_entries (entry_count tree)
