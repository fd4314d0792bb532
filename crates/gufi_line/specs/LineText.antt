-- What the lines of a trace mean, one behind another; or the first fault.
use Rattle.std.specs.Prelude.{ℕ, ◌+◌, ◌%◌, Bool, true, false, not, ◌==◌, ◌||◌, nat_lt, nat_le, List, [], ◌∷◌, ◌++◌, length, reverse, drop, count_by, Option, Result, Ok, Err, ok_or, if◌then◌else◌, codes, decimal}
use Rattle.std.specs.List.{list_any}
use Rattle.std.specs.Result.{is_err, result_unwrap_or}
use Rattle.gufi_base.specs.declared.record.Kind.{Kind}
use Rattle.gufi_base.specs.declared.record.Meta.{Meta}
use Rattle.gufi_base.specs.declared.record.Line.{Line}
use Rattle.gufi_base.specs.declared.path.PathFault.{PathFault}
use Rattle.gufi_base.specs.declared.path.PathFault.TheVariants as paths
use Rattle.gufi_base.specs.Limits.{max_dirs, max_entries, max_link}
use Rattle.gufi_base.specs.Basics.{part_at, split, result_map_err, ◌>>=◌, ◌>>◌, refuse}
use Rattle.gufi_base.specs.Numbers.{read_u32, read_u64, read_i64}
use Rattle.gufi_base.specs.Paths.{Components, read_path, is_prefix}
use Rattle.gufi_base.specs.Kinds.{read_kind, is_dir}
use Rattle.gufi_tree.specs.Build.{is_dir_line}
use Rattle.gufi_tree.specs.StanzaLines.{stanza_holds}
use Rattle.gufi_line.specs.declared.fault.TraceKind.{TraceKind}
use Rattle.gufi_line.specs.declared.fault.TraceKind.TheVariants.{Short, BadPath, LongName, BadType, BadNumber, BadXattr, BadAcl, TooManyEntries, NotUnderRoot, WrongStanza, TooMany, CutLine}
use Rattle.gufi_line.specs.AttributeField.{xattrs_of}
use Rattle.gufi_line.specs.AclField.{acl_field}
use Rattle.gufi_line.specs.declared.fault.TraceFault.{TraceFault}
use Rattle.gufi_line.specs.declared.fault.TraceError.{TraceError}
use Rattle.gufi_line.specs.declared.fault.TraceError.TheVariants.{Fault}

-- a path whose fault is a line's BadPath
abbrev pub is_bad_path : Result Components PathFault → Bool
is_bad_path (Ok path) = false
is_bad_path (Err paths.DotDot) = true
is_bad_path (Err paths.BadByte) = true
is_bad_path (Err paths.LongName) = false
is_bad_path (Err paths.Memory) = false

unfoldable pub read_line_path : List (List ℕ) → Result Components TraceKind
read_line_path fields =
    let path = read_path (part_at fields 1) in
    let link = part_at fields 14 in do
      refuse (is_bad_path path || list_any (λ b. b == 0) link) BadPath
      refuse (is_err path || nat_lt max_link (length link)) LongName
      Ok (result_unwrap_or path [])

-- a number of fields 3 to 13, or that field's fault
abbrev pub number_field : {A : Type 0} → (List ℕ → Option A) → List (List ℕ) → ℕ → Result A TraceKind
number_field read fields k = ok_or (read (part_at fields k)) (BadNumber k)

unfoldable pub read_meta : List (List ℕ) → Result Meta TraceKind
read_meta fields = do
  kind ← ok_or (read_kind (part_at fields 2)) BadType
  inode ← number_field read_u64 fields 3
  mode ← number_field read_u32 fields 4
  nlink ← number_field read_u64 fields 5
  uid ← number_field read_u32 fields 6
  gid ← number_field read_u32 fields 7
  size ← number_field read_u64 fields 8
  blksize ← number_field read_u64 fields 9
  blocks ← number_field read_u64 fields 10
  atime ← number_field read_i64 fields 11
  mtime ← number_field read_i64 fields 12
  ctime ← number_field read_i64 fields 13
  Ok (record { kind = kind; inode = inode; mode = mode % 4096; nlink = nlink; uid = uid; gid = gid; size = size; blksize = blksize; blocks = blocks; atime = atime; mtime = mtime; ctime = ctime })

-- Of the earlier lines, the newest first: the directory of the stanza, and how many are directories and entries.
abbrev pub is_in_stanza : List Line → Kind → Components → Bool
is_in_stanza earlier kind path = is_dir kind || stanza_holds earlier path

abbrev pub too_many : List Line → Kind → Result (Unit {0}) TraceKind
too_many earlier kind =
    if is_dir kind then refuse (nat_le max_dirs (count_by is_dir_line earlier)) (TooMany max_dirs)
    else refuse (nat_le max_entries (count_by (λ line. not (is_dir_line line)) earlier)) (TooMany max_entries)

-- The line that follows the earlier ones, below the root, or the first of its faults.
unfoldable pub read_line : ℕ → Components → List Line → List ℕ → Result Line TraceKind
read_line delim root earlier text =
    let fields = split delim text in do
      refuse (nat_lt (length fields) 14) Short
      path ← read_line_path fields
      meta ← read_meta fields
      xattrs ← xattrs_of (part_at fields 15)
      acl ← acl_field (part_at fields 16)
      refuse (not (is_prefix root path)) NotUnderRoot
      refuse (not (is_in_stanza earlier meta.kind (drop (length root) path))) WrongStanza
      too_many earlier meta.kind
      Ok (record { number = length earlier + 1; path = drop (length root) path; rec = record { meta = meta; link = part_at fields 14; xattrs = xattrs; acl = acl } })

abbrev pub fault_at : ℕ → TraceKind → TraceError
fault_at n kind = Fault (record { line = n; kind = kind })

-- the lines behind the earlier ones, or the least faulty one
unfoldable pub read_lines : ℕ → Components → List Line → List (List ℕ) → Result (List Line) TraceError
read_lines delim root earlier [] = Ok (reverse earlier)
read_lines delim root earlier (text ∷ rest) =
    result_map_err (fault_at (length earlier + 1)) (read_line delim root earlier text) >>= λ line. read_lines delim root (line ∷ earlier) rest

-- the components of the first line's path
abbrev pub root_of : ℕ → List (List ℕ) → Components
root_of delim [] = []
root_of delim (text ∷ rest) = result_unwrap_or (read_path (part_at (split delim text) 1)) []

-- a fault as it is printed: its line and its kind
abbrev pub trace_kind_text : TraceKind → List ℕ
trace_kind_text Short = codes "Short"
trace_kind_text BadPath = codes "BadPath"
trace_kind_text LongName = codes "LongName"
trace_kind_text BadType = codes "BadType"
trace_kind_text (BadNumber field) = codes "BadNumber " ++ decimal field
trace_kind_text BadXattr = codes "BadXattr"
trace_kind_text BadAcl = codes "BadAcl"
trace_kind_text TooManyEntries = codes "TooManyEntries"
trace_kind_text NotUnderRoot = codes "NotUnderRoot"
trace_kind_text WrongStanza = codes "WrongStanza"
trace_kind_text (TooMany limit) = codes "TooMany " ++ decimal limit
trace_kind_text CutLine = codes "CutLine"

abbrev pub fault_text : TraceFault → List ℕ
fault_text fault = decimal fault.line ++ codes " " ++ trace_kind_text fault.kind
