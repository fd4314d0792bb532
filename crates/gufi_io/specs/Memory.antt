-- What a shelf and a sink in memory hold, how often they failed, and what their next call answers.
use Rattle.std.specs.Prelude.{◌≡◌, ℕ, ◌+◌, ◌-◌, min, Bool, true, false, ◌||◌, List, [], length, nat_eq, take, drop, Option, Some, None, Result, Ok, Err, unwrap_or, if◌then◌else◌}
use Rattle.std.specs.Option.{is_some}
use Rattle.gufi_io.specs.Files.{Files}
use Rattle.gufi_io.specs.Held.{MemFiles, held, bytes_at}
use Rattle.gufi_io.specs.Calls.{last_count, next_is_bad, bad_calls}
use Rattle.gufi_io.specs.declared.shelf.OpenFault.{OpenFault}
use Rattle.gufi_io.specs.declared.shelf.OpenFault.TheVariants.{NoFile, Failed}
use Rattle.gufi_io.specs.declared.memory.Hand.{Hand}
use Rattle.gufi_io.specs.declared.memory.MemShelf.{MemShelf}
use Rattle.gufi_io.specs.declared.memory.MemSink.{MemSink}

abbrev pub shelf_files : MemShelf → Files
shelf_files s = held s.files.items

-- the largest piece of a read, and the numbers of the calls that are to fail
abbrev pub shelf_piece : MemShelf → ℕ
shelf_piece s = s.piece

abbrev pub shelf_bad_opens : MemShelf → List ℕ
shelf_bad_opens s = s.bad_opens.items

abbrev pub shelf_bad_reads : MemShelf → List ℕ
shelf_bad_reads s = s.bad_reads.items

-- the calls so far
abbrev pub shelf_opens : MemShelf → ℕ
shelf_opens s = s.opens

abbrev pub shelf_reads : MemShelf → ℕ
shelf_reads s = s.reads

abbrev pub shelf_in_hand : MemShelf → Bool
shelf_in_hand s = is_some s.hand

abbrev pub left_of : MemFiles → Option Hand → Option (List ℕ)
left_of files None = None
left_of files (Some hand) = Some (drop hand.at (bytes_at files hand.file))

abbrev pub shelf_left : MemShelf → Option (List ℕ)
shelf_left s = left_of s.files.items s.hand

-- how many of the calls so far were to fail
abbrev pub shelf_faults : MemShelf → ℕ
shelf_faults s = bad_calls s.bad_opens.items s.opens + bad_calls s.bad_reads.items s.reads

-- how many opens found no file of their name, as a counter has them
abbrev pub shelf_absents : MemShelf → ℕ
shelf_absents s = s.absents

-- what no call changes: the files, the largest piece, and which calls are to fail
pub record IsSameShelf (old new : MemShelf) : Type 0 where
  pub files : new.files ≡ old.files
  pub piece : new.piece ≡ old.piece
  pub bad_opens : new.bad_opens ≡ old.bad_opens
  pub bad_reads : new.bad_reads ≡ old.bad_reads

-- ---- the next call of a shelf

abbrev pub open_fails : MemShelf → Bool
open_fails s = next_is_bad s.bad_opens.items s.opens

abbrev pub found : Option (List ℕ) → Result (Unit {0}) OpenFault
found None = Err NoFile
found (Some bytes) = Ok tt

-- what the next open of a name answers
abbrev pub open_answer : MemShelf → List ℕ → Result (Unit {0}) OpenFault
open_answer s name = if open_fails s then Err Failed else found (shelf_files s name)

abbrev pub is_no_file : {T : Type 0} → Result T OpenFault → Bool
is_no_file (Ok x) = false
is_no_file (Err NoFile) = true
is_no_file (Err Failed) = false

abbrev pub read_fails : MemShelf → Bool
read_fails s = next_is_bad s.bad_reads.items s.reads

-- how many bytes the next read into so much room gives: as many as are left, as fit, and as a piece has
abbrev pub read_count : MemShelf → ℕ → ℕ
read_count s room = min (min (length (unwrap_or (shelf_left s) [])) room) s.piece

abbrev pub sink_room : MemSink → List ℕ
sink_room s = s.room.items

abbrev pub sink_piece : MemSink → ℕ
sink_piece s = s.piece

abbrev pub sink_bad_writes : MemSink → List ℕ
sink_bad_writes s = s.bad_writes.items

abbrev pub sink_writes : MemSink → ℕ
sink_writes s = s.writes

abbrev pub sink_taken : MemSink → List ℕ
sink_taken s = take s.taken s.room.items

-- how many of the calls so far were to fail or found no room, as a counter has them
abbrev pub sink_faults : MemSink → ℕ
sink_faults s = min (bad_calls s.bad_writes.items s.writes + s.full) last_count

-- what no call changes: how much room there is, the largest piece, and which calls are to fail
pub record IsSameSink (old new : MemSink) : Type 0 where
  pub room : length new.room.items ≡ length old.room.items
  pub piece : new.piece ≡ old.piece
  pub bad_writes : new.bad_writes ≡ old.bad_writes

-- ---- the next call of a sink

-- the bytes for which there is room left
abbrev pub sink_free : MemSink → ℕ
sink_free s = length s.room.items - s.taken

-- the next write is to fail, or finds no room
abbrev pub write_fails : MemSink → Bool
write_fails s = next_is_bad s.bad_writes.items s.writes || nat_eq (sink_free s) 0

-- how many of so many bytes the next write takes: as many as there are, as fit, and as a piece has
abbrev pub write_count : MemSink → ℕ → ℕ
write_count s bytes = min (min bytes (sink_free s)) s.piece
