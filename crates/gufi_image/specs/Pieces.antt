-- Reading an image whose bytes come in pieces.
use Rattle.std.specs.Prelude.{◌≡◌, ◌<◌, ◌≤◌, ℕ, ◌+◌, ◌-◌, ◌^◌, Bool, not, ◌==◌, ◌&&◌, List, [], ◌++◌, length, Option, Some, None, Result, Ok, Err}
use Rattle.gufi_base.specs.Limits.{max_dirs, max_entries, max_image}
use Rattle.gufi_base.specs.Basics.{◌>>=◌, result_map_err}
use Rattle.gufi_base.specs.Paths.{Components}
use Rattle.gufi_tree.specs.declared.tree.Entry.{Entry}
use Rattle.gufi_tree.specs.Packs.{Packs, entries_of}
use Rattle.gufi_tree.specs.Tree.{Directory, entry_count}
use Rattle.gufi_snap.specs.Snap.{Snap}
use Rattle.gufi_image.specs.declared.fault.Flaw.{Flaw}
use Rattle.gufi_image.specs.declared.fault.ImageError.{ImageError}
use Rattle.gufi_image.specs.declared.fault.ImageError.TheVariants as errors
use Rattle.gufi_image.specs.declared.fault.ImageKind.TheVariants as kinds
use Rattle.gufi_image.specs.declared.fault.Refused.{Refused}
use Rattle.gufi_image.specs.declared.fault.Refused.TheVariants as refusals
use Rattle.gufi_image.specs.declared.head.Head.{Head}
use Rattle.gufi_image.specs.declared.directory.Open.{Open}
use Rattle.gufi_image.specs.declared.progress.Directories.{Directories as Kept}
use Rattle.gufi_image.specs.declared.progress.Progress.{Progress}
use Rattle.gufi_image.specs.declared.width.Width.{Width}
use Rattle.gufi_image.specs.Widths.{has_names, tree_needs}
use Rattle.gufi_image.specs.Repeated.{repeated}
use Rattle.gufi_image.specs.Entries.{one_entry}
use Rattle.gufi_image.specs.Directories.{Front, with_entries, with_one, one_directory}
use Rattle.gufi_image.specs.Reading.{Counts, is_bare, all_from, rolled, snapshot_at, fault_in}
use Rattle.gufi_image.specs.Placed.{AreDirectories, AreParents, IsPart}
use Rattle.gufi_image.specs.Parts.{counted}
use Rattle.gufi_image.specs.Views.{headed, front_near}

-- ---- faults

-- The same fault, where so many bytes more are left.
abbrev pub later : ℕ → Flaw → Flaw
later count f = record { left = f.left + count; kind = f.kind }

-- A fault of bytes is one of the bytes and more, unless more was all that was missing.
abbrev pub Stops : {Y : Type 0} → Flaw → List ℕ → Result Y Flaw → Type 0
Stops f more read = (f.kind ≡ kinds.Cut → more ≡ []) → read ≡ Err (later (length more) f)

abbrev pub OnFlaw : Refused → (Flaw → Type 0) → Type 0
OnFlaw refusals.Memory says = Unit {0}
OnFlaw (refusals.Flaw f) says = says f

abbrev pub UnlessMemory : Result (Unit {0}) Refused → Type 0 → Type 0
UnlessMemory (Ok u) says = says
UnlessMemory (Err refusals.Memory) says = Unit {0}
UnlessMemory (Err (refusals.Flaw f)) says = says

-- What is read with any more bytes is the same, or has the fault. The longest image that may be has so many more bytes than have come, and
-- what is read is told how many bytes fewer than that the image has.
abbrev pub Alike : {Y : Type 0} → ℕ → (ℕ → List ℕ → Y) → (ℕ → List ℕ → Y) → Type 0
Alike room read again = (more : List ℕ) → length more ≤ room → read (room - length more) more ≡ again (room - length more) more

abbrev pub Halts : {Y : Type 0} → ℕ → (ℕ → List ℕ → Result Y Flaw) → Flaw → Type 0
Halts room read f = (more : List ℕ) → length more ≤ room → Stops f more (read (room - length more) more)

-- ---- what is still to come

-- the entries of a directory
abbrev pub entries_from : Width → Components → ℕ → List Entry → List ℕ → Result (List Entry × List ℕ) Flaw
entries_from width path count before bytes = repeated (one_entry width path) (count - length before) before bytes

-- directories
abbrev pub rest_from : Width → ℕ → ℕ → Front → List ℕ → Result (Front × List ℕ) Flaw
rest_from width total count front bytes = repeated (one_directory width total) (count - length front.dirs) front bytes

-- directories behind one whose entries these are
abbrev pub rest_with : Width → ℕ → ℕ → ℕ → Front → Open → Result (List Entry × List ℕ) Flaw → Result (Front × List ℕ) Flaw
rest_with width total count k front part entries = entries >>= λ es. rest_from width total count (with_one front (with_entries (headed k part) es.0)) es.1

abbrev pub rest_behind : ℕ → Head → Kept → Option Open → List ℕ → Result (Front × List ℕ) Flaw
rest_behind k head before None bytes = rest_from head.width head.entries head.dirs (front_near k before) bytes
rest_behind k head before (Some part) bytes = rest_with head.width head.entries head.dirs k (front_near k before) part (entries_from head.width part.path part.count (entries_of before.packing.pending) bytes)

abbrev pub rest_of : ℕ → Progress → List ℕ → Result (Front × List ℕ) Flaw
rest_of k p bytes = rest_behind k p.head p.directories p.part bytes

abbrev pub rest_by : Progress → List ℕ → ℕ → List ℕ → Result (Front × List ℕ) Flaw
rest_by p bytes k more = rest_of k p (bytes ++ more)

-- the snapshot of directories that were read behind these counts
abbrev pub judged : Counts → Result (Front × List ℕ) Flaw → Result Snap Flaw
judged head read = all_from head read >>= rolled

abbrev pub resume : ℕ → Option Progress → List ℕ → Result Snap Flaw
resume k None bytes = snapshot_at bytes
resume k (Some p) bytes = judged (counted k p.head) (rest_of k p bytes)

abbrev pub resumed : Option Progress → List ℕ → ℕ → List ℕ → Result Snap Flaw
resumed p bytes k more = resume k p (bytes ++ more)

-- six bytes tell whether an image begins as one does
abbrev pub Tells : List ℕ → List ℕ → Type 0
Tells bytes more = length bytes < 6 → more ≡ []

-- an error is that of any image that has so many bytes and more
abbrev pub Fails : ℕ → (ℕ → List ℕ → Result Snap Flaw) → ImageError → Type 0
Fails room read errors.Memory = Unit {0}
Fails room read (errors.Fault offset kind) = (bytes more : List ℕ) → length more ≤ room → length bytes + (room - length more) ≡ max_image
    → result_map_err (fault_in bytes) (read (room - length more) more) ≡ Err (errors.Fault offset kind)

-- the directories are what the head says
abbrev pub is_as_said : Head → List Directory → Bool
is_as_said head dirs = (entry_count dirs == head.entries) && not (is_bare head.width dirs)

-- ---- what was read

pub record HasFew (head : Head) : Type 0 where
  pub some : 0 < head.dirs
  pub few : head.dirs ≤ max_dirs
  pub entries : head.entries ≤ max_entries
  pub left : head.left < 2 ^ 63 + max_image

-- so many directories with the one whose entries are being read
abbrev pub IsNextOpen : ℕ → ℕ → Packs → Option Open → Type 0
IsNextOpen count total packs None = (length packs.dirs ≤ count) × (packs.pending ≡ [])
IsNextOpen count total packs (Some part) = (length packs.dirs < count) × IsPart total packs.dirs part (entries_of packs.pending)

pub record IsRead (p : Progress) : Type 0 where
  pub head : HasFew p.head
  pub directories : AreDirectories (length p.directories.packing.dirs) p.head.entries p.directories.packing.dirs
  pub parents : AreParents p.directories.packing.dirs p.directories.parents.items
  pub count : p.directories.entries ≡ entry_count p.directories.packing.dirs
  pub needed : p.directories.needed ≡ (has_names p.head.width && tree_needs p.head.width p.directories.packing.dirs)
  pub part : IsNextOpen p.head.dirs p.head.entries p.directories.packing p.part

abbrev pub IsReadBy : Option Progress → Type 0
IsReadBy None = Unit {0}
IsReadBy (Some p) = IsRead p

-- no directory is read yet
pub record IsBegun (p : Progress) : Type 0 where
  pub dirs : p.directories.packing.dirs ≡ []
  pub flags : p.directories.flags.items ≡ []
  pub part : p.part ≡ None
