-- Directories by their places in bundles.
use Rattle.std.specs.Prelude.{◌≡◌, ℕ, ◌<◌, pos, List, [], ◌∷◌, ◌++◌, length, map, slice_index_or, Option, Some, None}
use Rattle.std.specs.declared.sync.Arc.{Arc}
use Rattle.std.specs.Arc.{arc_value}
use Rattle.gufi_base.specs.declared.record.Kind.TheVariants.{Dir}
use Rattle.gufi_tree.specs.declared.dirs.Place.{Place}
use Rattle.gufi_tree.specs.Tree.{Directory}

-- the directories of each bundle: of those that are shared, and then of the last one
abbrev pub lists_of : {Z : Type 0} → List (Arc (List Directory) Z) → List Directory → List (List Directory)
lists_of bundles last = map arc_value bundles ++ last ∷ []

-- what stands past the end of a bundle
abbrev pub no_directory : Directory
no_directory = record {
  path = [];
  rec = record {
    link = [];
    xattrs = [];
    acl = [];
    meta = record { kind = Dir; inode = 0; mode = 0; nlink = 0; uid = 0; gid = 0; size = 0; blksize = 0; blocks = 0; atime = pos 0; mtime = pos 0; ctime = pos 0 };
  };
  entries = [];
}

abbrev pub directory_at : List (List Directory) → Place → Directory
directory_at lists place = slice_index_or (slice_index_or lists place.bundle []) place.head no_directory

abbrev pub directories_at : List (List Directory) → List Place → List Directory
directories_at lists places = map (directory_at lists) places

-- there is a directory at the place
pub record Stands (lists : List (List Directory)) (place : Place) : Type 0 where
  pub bundle : place.bundle < length lists
  pub within : place.head < length (slice_index_or lists place.bundle [])

-- at each place there is the same directory as before
pub record Keep (lists after : List (List Directory)) : Type 0 where
  pub stand : (place : Place) → Stands lists place → Stands after place
  pub same : (place : Place) → Stands lists place → directory_at after place ≡ directory_at lists place

-- bundles that were taken over: each has its number, by that which it had
pub record AreTaken (numbers : List (Option ℕ)) (lists after : List (List Directory)) : Type 0 where
  pub each : (k n : ℕ) → slice_index_or numbers k None ≡ Some n → (k < length lists) × (n < length after) × (slice_index_or after n [] ≡ slice_index_or lists k [])

abbrev pub renumbered : ℕ → Place → Place
renumbered n place = record { bundle = n; head = place.head }

-- where a place's bundle has a number, the directory stands under it too
pub record Share (numbers : List (Option ℕ)) (lists after : List (List Directory)) : Type 0 where
  pub stand : (place : Place) (n : ℕ) → slice_index_or numbers place.bundle None ≡ Some n → Stands lists place → Stands after (renumbered n place)
  pub same : (place : Place) (n : ℕ) → slice_index_or numbers place.bundle None ≡ Some n → Stands lists place → directory_at after (renumbered n place) ≡ directory_at lists place
