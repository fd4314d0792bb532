-- What the bytes of an image mean, or the first fault from the left.
use Rattle.std.specs.Prelude.{ℕ, ◌+◌, ◌-◌, Bool, true, false, not, ◌&&◌, ◌==◌, nat_lt, List, [], ◌∷◌, length, drop, Result, Ok, ok_or}
use Rattle.std.specs.List.{starts_with}
use Rattle.std.specs.Bool.{nat_eq}
use Rattle.std.specs.Int.{w16, w32, w64}
use Rattle.gufi_base.specs.Limits.{max_dirs, max_entries}
use Rattle.gufi_base.specs.Basics.{is_empty, ◌>>=◌, ◌>>◌, refuse, result_map_err}
use Rattle.gufi_tree.specs.Tree.{Directory, entry_count}
use Rattle.gufi_roll.specs.CanRoll.{roll_flags}
use Rattle.gufi_snap.specs.Snap.{Snap}
use Rattle.gufi_image.specs.declared.fault.Flaw.{Flaw}
use Rattle.gufi_image.specs.declared.fault.ImageError.{ImageError}
use Rattle.gufi_image.specs.declared.fault.ImageError.TheVariants.{Fault}
use Rattle.gufi_image.specs.declared.fault.ImageKind.TheVariants as kinds
use Rattle.gufi_image.specs.declared.directory.Flag.{Flag}
use Rattle.gufi_image.specs.Bytes.{magic}
use Rattle.gufi_image.specs.declared.width.Width.{Width}
use Rattle.gufi_image.specs.Widths.{has_names, width_in, tree_needs}
use Rattle.gufi_image.specs.Fields.{flaw, wrong, number_at}
use Rattle.gufi_image.specs.Directories.{Front, directories_at}

-- The counts of the head, what the records hold, and how many bytes are left from the count of entries on.
pub record Counts : Type 0 where
  pub width : Width
  pub limit : ℕ
  pub dirs : ℕ
  pub entries : ℕ
  pub left : ℕ

-- the counts, behind the mark and the version
unfoldable pub counts_at : Width → List ℕ → Result (Counts × List ℕ) Flaw
counts_at width bytes = do
  limit ← number_at w64 bytes
  dirs ← number_at w32 limit.1
  wrong (nat_lt max_dirs dirs.0) limit.1 (kinds.TooMany max_dirs)
  wrong (dirs.0 == 0) limit.1 kinds.Number
  entries ← number_at w32 dirs.1
  wrong (nat_lt max_entries entries.0) dirs.1 (kinds.TooMany max_entries)
  Ok (record { width = width; limit = limit.0; dirs = dirs.0; entries = entries.0; left = length dirs.1 }, entries.1)

-- the version, which tells what the records hold
unfoldable pub version_at : List ℕ → Result (Width × List ℕ) Flaw
version_at bytes = do
  version ← number_at w16 bytes
  width ← ok_or (width_in version.0) (flaw bytes kinds.Magic)
  Ok (width, version.1)

unfoldable pub head_at : List ℕ → Result (Counts × List ℕ) Flaw
head_at bytes = do
  wrong (not (starts_with nat_eq bytes magic)) bytes kinds.Magic
  version ← version_at (drop 6 bytes)
  counts_at version.0 version.1

-- all directories, with their flags as they stand
pub record Flags : Type 0 where
  pub limit : ℕ
  pub front : Front

-- no row has what no lesser width holds: a lesser version holds the directories
abbrev pub is_bare : Width → List Directory → Bool
is_bare width dirs = has_names width && not (tree_needs width dirs)

-- Those of directories that were read behind these counts. The version stands fourteen bytes before the count of entries.
abbrev pub all_from : Counts → Result (Front × List ℕ) Flaw → Result Flags Flaw
all_from head read = do
  found ← read
  refuse (not (entry_count (found.0.dirs) == head.entries)) (record { left = head.left; kind = kinds.Number })
  refuse (is_bare head.width (found.0.dirs)) (record { left = head.left + 14; kind = kinds.Number })
  wrong (not (is_empty found.1)) found.1 kinds.Trailing
  Ok (record { limit = head.limit; front = found.0 })

unfoldable pub all_at : List ℕ → Result Flags Flaw
all_at bytes = do
  head ← head_at bytes
  all_from head.0 (directories_at head.0.width head.0.dirs head.0.entries head.1)

abbrev pub differs : Bool → Bool → Bool
differs true rolled = not rolled
differs false rolled = rolled

-- the least flag that differs from the rule
abbrev pub wrong_flag : List Bool → List Flag → Result (Unit {0}) Flaw
wrong_flag [] flags = Ok tt
wrong_flag (rolled ∷ rest) [] = Ok tt
wrong_flag (rolled ∷ rest) (flag ∷ flags) = refuse (differs flag.set rolled) (record { left = flag.left; kind = kinds.Roll }) >> wrong_flag rest flags

-- the snapshot of directories whose flags are those of the rule
abbrev pub rolled : Flags → Result Snap Flaw
rolled all = wrong_flag (roll_flags all.front.dirs all.limit) all.front.flags >> Ok (record { tree = all.front.dirs; limit = all.limit })

unfoldable pub snapshot_at : List ℕ → Result Snap Flaw
snapshot_at bytes = all_at bytes >>= rolled

-- the offset of a fault
abbrev pub fault_in : List ℕ → Flaw → ImageError
fault_in bytes f = Fault (length bytes - f.left) f.kind

unfoldable pub image_means : List ℕ → Result Snap ImageError
image_means bytes = result_map_err (fault_in bytes) (snapshot_at bytes)
