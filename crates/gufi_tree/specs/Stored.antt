-- How the code keeps a directory.
use Rattle.std.specs.Prelude.{List, map, IsTrue}
use Rattle.gufi_base.specs.Basics.{ascends}
use Rattle.gufi_tree.specs.declared.tree.Stored.{Stored}
use Rattle.gufi_tree.specs.Tree.{Directory, dir_cmp}

abbrev pub directory_of : Stored → Directory
directory_of s = record { path = s.path; rec = s.rec; entries = s.entries.items }

abbrev pub directories_of : List Stored → List Directory
directories_of stored = map directory_of stored

abbrev pub AreInOrder : List Stored → Type 0
AreInOrder stored = IsTrue (ascends dir_cmp (directories_of stored))
