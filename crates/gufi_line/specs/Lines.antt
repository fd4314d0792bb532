-- A line from its fields, behind the earlier lines.
use Rattle.std.specs.Prelude.{ℕ, ◌+◌, ◌%◌, not, ◌==◌, ◌||◌, nat_lt, nat_le, List, [], length, drop, count_by, Option, Some, None, Result, Ok, Err, ok_or, if◌then◌else◌}
use Rattle.std.specs.List.{list_any}
use Rattle.std.specs.Result.{is_err, result_unwrap_or}
use Rattle.gufi_base.specs.declared.record.Kind.{Kind}
use Rattle.gufi_base.specs.declared.record.Meta.{Meta}
use Rattle.gufi_base.specs.declared.record.Line.{Line}
use Rattle.gufi_base.specs.declared.path.PathFault.{PathFault}
use Rattle.gufi_base.specs.Limits.{max_dirs, max_entries, max_link}
use Rattle.gufi_base.specs.Basics.{◌>>=◌, ◌>>◌, refuse}
use Rattle.gufi_base.specs.Numbers.{read_u32, read_u64, read_i64}
use Rattle.gufi_base.specs.Paths.{Components, read_path, is_prefix}
use Rattle.gufi_base.specs.Kinds.{read_kind, is_dir}
use Rattle.gufi_tree.specs.Build.{is_dir_line}
use Rattle.gufi_tree.specs.StanzaLines.{stanza_holds}
use Rattle.gufi_line.specs.declared.fault.TraceKind.{TraceKind}
use Rattle.gufi_line.specs.declared.fault.TraceKind.TheVariants.{BadPath, LongName, BadType, BadNumber, NotUnderRoot, WrongStanza, TooMany}
use Rattle.gufi_line.specs.LineText.{is_bad_path}
use Rattle.gufi_line.specs.AttributeField.{xattrs_of}
use Rattle.gufi_line.specs.AclField.{acl_field}
use Rattle.gufi_line.specs.Fields.{Texts, fields_in}

-- a number, or the fault of its field
abbrev pub numbered : {A : Type 0} → ℕ → Option A → Result A TraceKind
numbered field given = ok_or given (BadNumber field)

-- the path, unless it or the link has a fault: those of their bytes come before those of their lengths
abbrev pub path_with_link : Result Components PathFault → List ℕ → Result Components TraceKind
path_with_link path link = do
  refuse (is_bad_path path || list_any (λ b. b == 0) link) BadPath
  refuse (is_err path || nat_lt max_link (length link)) LongName
  Ok (result_unwrap_or path [])

unfoldable pub meta_in : Texts → Result Meta TraceKind
meta_in f = do
  kind ← ok_or (read_kind f.kind) BadType
  inode ← numbered 3 (read_u64 f.inode)
  mode ← numbered 4 (read_u32 f.mode)
  nlink ← numbered 5 (read_u64 f.nlink)
  uid ← numbered 6 (read_u32 f.uid)
  gid ← numbered 7 (read_u32 f.gid)
  size ← numbered 8 (read_u64 f.size)
  blksize ← numbered 9 (read_u64 f.blksize)
  blocks ← numbered 10 (read_u64 f.blocks)
  atime ← numbered 11 (read_i64 f.atime)
  mtime ← numbered 12 (read_i64 f.mtime)
  ctime ← numbered 13 (read_i64 f.ctime)
  Ok (record { kind = kind; inode = inode; mode = mode % 4096; nlink = nlink; uid = uid; gid = gid; size = size; blksize = blksize; blocks = blocks; atime = atime; mtime = mtime; ctime = ctime })

abbrev pub dirs_of : List Line → ℕ
dirs_of earlier = count_by is_dir_line earlier

abbrev pub entries_of : List Line → ℕ
entries_of earlier = count_by (λ line. not (is_dir_line line)) earlier

-- what is wrong with a line at its place, behind the earlier ones
unfoldable pub place_fault : List Line → Kind → Components → Option TraceKind
place_fault earlier kind path =
    if is_dir kind then (if nat_le max_dirs (dirs_of earlier) then Some (TooMany max_dirs) else None)
    else if stanza_holds earlier path then (if nat_le max_entries (entries_of earlier) then Some (TooMany max_entries) else None)
    else Some WrongStanza

abbrev pub unless_fault : {A : Type 0} → Option TraceKind → A → Result A TraceKind
unless_fault None x = Ok x
unless_fault (Some kind) x = Err kind

-- the path below the root
abbrev pub below_root : Components → Components → Result Components TraceKind
below_root root path = if is_prefix root path then Ok (drop (length root) path) else Err NotUnderRoot

-- a line from its fields
unfoldable pub line_in : Components → List Line → Texts → Result Line TraceKind
line_in root earlier f = do
  path ← path_with_link (read_path f.path) f.link
  meta ← meta_in f
  xattrs ← xattrs_of f.xattrs
  acl ← acl_field f.acl
  below ← below_root root path
  unless_fault (place_fault earlier meta.kind below) (record { number = length earlier + 1; path = below; rec = record { meta = meta; link = f.link; xattrs = xattrs; acl = acl } })

-- a line from its text
abbrev pub line_of : ℕ → Components → List Line → List ℕ → Result Line TraceKind
line_of delim root earlier text = fields_in delim text >>= line_in root earlier
