-- How the parts of an image lie to those before them.
use Rattle.std.specs.Prelude.{◌≡◌, ℕ, ◌+◌, ◌≤◌, ◌<◌, ◌^◌, true, false, not, ◌||◌, List, [], ◌∷◌, ◌++◌, length, slice_get, slice_index, Some, IsTrue}
use Rattle.std.specs.List.{list_all, flat_map}
use Rattle.gufi_base.specs.Basics.{is_empty, ascends}
use Rattle.gufi_base.specs.Kinds.{is_dir}
use Rattle.gufi_base.specs.Paths.{Components, parent_path}
use Rattle.gufi_tree.specs.declared.tree.Entry.{Entry}
use Rattle.gufi_tree.specs.Tree.{Directory, dir_cmp, entry_cmp, entry_count, has_dir, has_entry_named, is_kinded, own_rows, HasTreeShape}
use Rattle.gufi_tree.specs.Places.{path_at}
use Rattle.gufi_image.specs.declared.directory.Open.{Open}
use Rattle.gufi_image.specs.Directories.{follows}

-- entries in name order, of which none is a directory
pub record AreEntries (entries : List Entry) : Type 0 where
  pub order : IsTrue (ascends entry_cmp entries)
  pub kinds : IsTrue (list_all (λ (e : Entry). not (is_dir e.rec.meta.kind)) entries)

-- a path with one name more than the parent's, which no entry of the parent has
pub record IsBelow (parent : Directory) (path : Components) : Type 0 where
  pub name : List ℕ
  pub is : path ≡ parent.path ++ name ∷ []
  pub free : has_entry_named name parent ≡ false

-- a path above those before it, below one of them
pub record IsChild (dirs : List Directory) (path : Components) : Type 0 where
  pub parent : Directory
  pub number : ℕ
  pub there : slice_get dirs number ≡ Some parent
  pub below : IsBelow parent path
  pub above : follows dirs path ≡ true

-- the root is the first
abbrev pub IsPlaced : List Directory → Components → Type 0
IsPlaced [] path = path ≡ []
IsPlaced (first ∷ dirs) path = IsChild (first ∷ dirs) path

-- a directory behind those before it, with which all entries are at most so many
pub record IsNext (total : ℕ) (dirs : List Directory) (dir : Directory) : Type 0 where
  pub few : entry_count dirs + length dir.entries ≤ total
  pub kind : IsTrue (is_dir dir.rec.meta.kind)
  pub entries : AreEntries dir.entries
  pub placed : IsPlaced dirs dir.path

-- Directories that begin a tree: all that a tree's shape asks but that the root is there.
pub record IsFront (dirs : List Directory) : Type 0 where
  pub order : IsTrue (ascends dir_cmp dirs)
  pub parents : IsTrue (list_all (λ dir. has_dir dirs (parent_path dir.path)) dirs)
  pub entries : IsTrue (list_all (λ dir. ascends entry_cmp dir.entries) dirs)
  pub kinds : IsTrue (list_all is_kinded dirs)
  pub apart : IsTrue (list_all (λ dir. list_all (λ entry. not (has_dir dirs (dir.path ++ entry.name ∷ []))) dir.entries) dirs)
  pub root : IsTrue (is_empty dirs || has_dir dirs [])

-- the directory at a place is the one that a path lies in
abbrev pub IsAbove : List Directory → ℕ → Components → Type 0
IsAbove dirs number path = (number < length dirs) × (path_at dirs number ≡ parent_path path)

-- the place of the directory that a path behind these lies in; the root lies in itself
abbrev pub LiesIn : List Directory → Components → ℕ → Type 0
LiesIn [] path number = number ≡ 0
LiesIn (first ∷ dirs) path number = IsAbove (first ∷ dirs) number path

-- each number is the place of the directory that the one at its place lies in
pub record AreParents (dirs : List Directory) (numbers : List ℕ) : Type 0 where
  pub len : length numbers ≡ length dirs
  pub each : (k : ℕ) → k < length dirs → IsAbove dirs (slice_index numbers k) (path_at dirs k)

-- so many directories, with so many entries at most
pub record AreDirectories (number total : ℕ) (dirs : List Directory) : Type 0 where
  pub front : IsFront dirs
  pub count : length dirs ≡ number
  pub few : entry_count dirs ≤ total

-- directories that are a whole tree, with fewer rows than a tree may have
pub record IsWholeTree (dirs : List Directory) : Type 0 where
  pub shape : HasTreeShape dirs
  pub dirs_fit : length dirs < 2 ^ 32
  pub rows_fit : length (flat_map own_rows dirs) < 2 ^ 32

-- a directory that comes next, before its entries
pub record IsOpen (total : ℕ) (dirs : List Directory) (part : Open) : Type 0 where
  pub few : entry_count dirs + part.count ≤ total
  pub kind : IsTrue (is_dir part.rec.meta.kind)
  pub placed : IsPlaced dirs part.path
  pub parent : LiesIn dirs part.path part.parent

-- the same, of which some entries are read
pub record IsPart (total : ℕ) (dirs : List Directory) (part : Open) (entries : List Entry) : Type 0 where
  pub heading : IsOpen total dirs part
  pub entries_are : AreEntries entries
  pub within : length entries ≤ part.count
