-- The directories of an image.
use Rattle.std.specs.Prelude.{ℕ, ◌+◌, ◌-◌, ◌^◌, Bool, true, not, ◌==◌, nat_lt, List, [], ◌∷◌, ◌++◌, length, slice_get, Result, Ok, ok_or, if◌then◌else◌}
use Rattle.std.specs.Int.{w8, w32}
use Rattle.std.specs.Ordering.{is_lt}
use Rattle.gufi_base.specs.declared.record.Kind.TheVariants.{Dir}
use Rattle.gufi_base.specs.declared.record.Rec.{Rec}
use Rattle.gufi_base.specs.Basics.{is_empty, last_of, ◌>>=◌, ◌>>◌}
use Rattle.gufi_base.specs.Paths.{Components, path_cmp}
use Rattle.gufi_tree.specs.declared.tree.Entry.{Entry}
use Rattle.gufi_tree.specs.Tree.{Directory, has_entry_named, entry_count}
use Rattle.gufi_image.specs.declared.fault.Flaw.{Flaw}
use Rattle.gufi_image.specs.declared.fault.ImageKind.TheVariants as kinds
use Rattle.gufi_image.specs.declared.directory.Flag.{Flag}
use Rattle.gufi_image.specs.declared.width.Width.{Width}
use Rattle.gufi_image.specs.Fields.{flaw, wrong, number_at, record_at}
use Rattle.gufi_image.specs.Names.{name_at}
use Rattle.gufi_image.specs.Repeated.{repeated}
use Rattle.gufi_image.specs.Entries.{entries_at}

-- the root's empty name
unfoldable pub root_at : List ℕ → Result (Components × List ℕ) Flaw
root_at bytes = do
  count ← number_at w8 bytes
  wrong (not (count.0 == 0)) bytes kinds.Name
  Ok ([], count.1)

-- a name below the parent, which has no such entry
unfoldable pub below_at : Directory → List ℕ → Result (Components × List ℕ) Flaw
below_at parent bytes = do
  name ← name_at parent.path bytes
  wrong (has_entry_named name.0 parent) bytes kinds.Name
  Ok (parent.path ++ name.0 ∷ [], name.1)

-- the path is above that of the last directory before
abbrev pub follows : List Directory → Components → Bool
follows [] path = true
follows (first ∷ dirs) path = is_lt (path_cmp (last_of first dirs).path path)

-- The first directory is the root, whose parent's number is all ones.
unfoldable pub first_at : ℕ → List ℕ → List ℕ → Result (Components × List ℕ) Flaw
first_at number rest bytes = wrong (not (number == 2 ^ 32 - 1)) bytes kinds.Parent >> root_at rest

-- Another one's parent is one of those before it.
unfoldable pub other_at : List Directory → ℕ → List ℕ → List ℕ → Result (Components × List ℕ) Flaw
other_at dirs number rest bytes = do
  parent ← ok_or (slice_get dirs number) (flaw bytes kinds.Parent)
  path ← below_at parent rest
  wrong (not (follows dirs path.0)) bytes kinds.Order
  Ok path

-- the path of a directory behind those before it
unfoldable pub path_at : List Directory → List ℕ → Result (Components × List ℕ) Flaw
path_at dirs bytes = do
  number ← number_at w32 bytes
  if is_empty dirs then first_at number.0 number.1 bytes else other_at dirs number.0 number.1 bytes

unfoldable pub flag_at : List ℕ → Result (Flag × List ℕ) Flaw
flag_at bytes = do
  byte ← number_at w8 bytes
  wrong (nat_lt 1 byte.0) bytes kinds.Number
  Ok (record { set = byte.0 == 1; left = length bytes }, byte.1)

-- what stands before the entries of a directory
pub record Heading : Type 0 where
  pub path : Components
  pub rec : Rec
  pub flag : Flag
  pub count : ℕ

-- that of a directory behind those before it, of which all entries together may be so many
unfoldable pub heading_at : Width → ℕ → List Directory → List ℕ → Result (Heading × List ℕ) Flaw
heading_at width total dirs bytes = do
  path ← path_at dirs bytes
  flag ← flag_at path.1
  rec ← record_at width Dir flag.1
  count ← number_at w32 rec.1
  wrong (nat_lt total (entry_count dirs + count.0)) rec.1 kinds.Number
  Ok (record { path = path.0; rec = rec.0; flag = flag.0; count = count.0 }, count.1)

-- a directory with its flag
pub record Flagged : Type 0 where
  pub dir : Directory
  pub flag : Flag

abbrev pub with_entries : Heading → List Entry → Flagged
with_entries h entries = record { dir = record { path = h.path; rec = h.rec; entries = entries }; flag = h.flag }

unfoldable pub directory_at : Width → ℕ → List Directory → List ℕ → Result (Flagged × List ℕ) Flaw
directory_at width total dirs bytes = do
  heading ← heading_at width total dirs bytes
  entries ← entries_at width heading.0.count heading.0.path heading.1
  Ok (with_entries heading.0 entries.0, entries.1)

-- directories with their flags
pub record Front : Type 0 where
  pub dirs : List Directory
  pub flags : List Flag

abbrev pub with_one : Front → Flagged → Front
with_one front found = record { dirs = front.dirs ++ found.dir ∷ []; flags = front.flags ++ found.flag ∷ [] }

abbrev pub one_directory : Width → ℕ → Front → List ℕ → Result (Front × List ℕ) Flaw
one_directory width total front bytes = directory_at width total front.dirs bytes >>= λ found. Ok (with_one front found.0, found.1)

abbrev pub no_front : Front
no_front = record { dirs = []; flags = [] }

unfoldable pub directories_at : Width → ℕ → ℕ → List ℕ → Result (Front × List ℕ) Flaw
directories_at width count total bytes = repeated (one_directory width total) count no_front bytes
