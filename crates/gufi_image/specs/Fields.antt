-- The fields of an image, read from the left.
use Rattle.std.specs.Prelude.{◌≡◌, ℕ, Bool, true, false, not, nat_lt, List, [], length, take, drop, Result, Ok, Err, ℤ, if◌then◌else◌}
use Rattle.std.specs.List.{list_all}
use Rattle.std.specs.Int.{Width as Bits, w16, w32, w64, byte_len, from_le_bytes, cast_signed}
use Rattle.gufi_base.specs.declared.record.Kind.{Kind}
use Rattle.gufi_base.specs.declared.record.Meta.{Meta}
use Rattle.gufi_base.specs.declared.record.Rec.{Rec}
use Rattle.gufi_base.specs.Limits.{max_link, max_xattrs}
use Rattle.gufi_base.specs.Basics.{◌>>=◌, ◌>>◌, refuse}
use Rattle.gufi_base.specs.Names.{is_path_byte}
use Rattle.gufi_base.specs.Xattrs.{are_xattrs}
use Rattle.gufi_access.specs.Acl.{is_acl_or_none}
use Rattle.gufi_image.specs.declared.fault.ImageKind.{ImageKind}
use Rattle.gufi_image.specs.declared.fault.ImageKind.TheVariants as kinds
use Rattle.gufi_image.specs.declared.fault.Flaw.{Flaw}
use Rattle.gufi_image.specs.declared.fault.Refused.{Refused}
use Rattle.gufi_image.specs.declared.fault.Refused.TheVariants as refusals
use Rattle.gufi_image.specs.declared.width.Width.{Width}
use Rattle.gufi_image.specs.Widths.{has_names, has_acls}

-- A reader takes the bytes from some place on, and gives a value with the bytes behind it, or a fault of the field that begins there.
abbrev pub flaw : List ℕ → ImageKind → Flaw
flaw bytes kind = record { left = length bytes; kind = kind }

abbrev pub wrong : Bool → List ℕ → ImageKind → Result (Unit {0}) Flaw
wrong test bytes kind = refuse test (flaw bytes kind)

-- What a call returned, seen by view, is what reading gives, unless memory ran out.
abbrev pub Refuses : {Y : Type 0} → Refused → Result Y Flaw → Type 0
Refuses refusals.Memory read = Unit {0}
Refuses (refusals.Flaw f) read = read ≡ Err f

abbrev pub Gives : {X Y : Type 0} → (X → Y) → Result X Refused → Result Y Flaw → Type 0
Gives view (Ok x) read = read ≡ Ok (view x)
Gives view (Err e) read = Refuses e read

-- a field that is wholly there, and what follows it
abbrev pub bytes_at : ℕ → List ℕ → Result (List ℕ × List ℕ) Flaw
bytes_at count bytes = if nat_lt (length bytes) count then Err (flaw bytes kinds.Cut) else Ok (take count bytes, drop count bytes)

-- numbers are little endian
abbrev pub number_at : Bits → List ℕ → Result (ℕ × List ℕ) Flaw
number_at w bytes = bytes_at (byte_len w) bytes >>= λ field. Ok (from_le_bytes w field.0, field.1)

abbrev pub signed_at : List ℕ → Result (ℤ × List ℕ) Flaw
signed_at bytes = number_at w64 bytes >>= λ n. Ok (cast_signed w64 n.0, n.1)

-- what a record of this kind holds before its link
unfoldable pub meta_at : Kind → List ℕ → Result (Meta × List ℕ) Flaw
meta_at kind bytes = do
  inode ← number_at w64 bytes
  mode ← number_at w16 inode.1
  wrong (nat_lt 4095 mode.0) inode.1 kinds.Number
  nlink ← number_at w64 mode.1
  uid ← number_at w32 nlink.1
  gid ← number_at w32 uid.1
  size ← number_at w64 gid.1
  blksize ← number_at w64 size.1
  blocks ← number_at w64 blksize.1
  atime ← signed_at blocks.1
  mtime ← signed_at atime.1
  ctime ← signed_at mtime.1
  Ok (record { kind = kind; inode = inode.0; mode = mode.0; nlink = nlink.0; uid = uid.0; gid = gid.0; size = size.0; blksize = blksize.0; blocks = blocks.0; atime = atime.0; mtime = mtime.0; ctime = ctime.0 }, ctime.1)

-- the target of a link, behind its length
unfoldable pub link_at : List ℕ → Result (List ℕ × List ℕ) Flaw
link_at bytes = do
  count ← number_at w16 bytes
  wrong (nat_lt max_link count.0) bytes kinds.Name
  link ← bytes_at count.0 count.1
  wrong (not (list_all is_path_byte link.0)) bytes kinds.Name
  Ok link

-- names of extended attributes, behind their length
unfoldable pub names_at : List ℕ → Result (List ℕ × List ℕ) Flaw
names_at bytes = do
  count ← number_at w16 bytes
  wrong (nat_lt max_xattrs count.0) bytes kinds.Name
  names ← bytes_at count.0 count.1
  wrong (not (are_xattrs names.0)) bytes kinds.Name
  Ok names

-- an access control list or none, behind its length
unfoldable pub acl_at : List ℕ → Result (List ℕ × List ℕ) Flaw
acl_at bytes = do
  count ← number_at w16 bytes
  acl ← bytes_at count.0 count.1
  wrong (not (is_acl_or_none acl.0)) bytes kinds.Number
  Ok acl

-- what such a reader reads, in records that have it
abbrev pub extra_at : (List ℕ → Result (List ℕ × List ℕ) Flaw) → Bool → List ℕ → Result (List ℕ × List ℕ) Flaw
extra_at read false bytes = Ok ([], bytes)
extra_at read true bytes = read bytes

-- a record of this kind
unfoldable pub record_at : Width → Kind → List ℕ → Result (Rec × List ℕ) Flaw
record_at width kind bytes = do
  meta ← meta_at kind bytes
  link ← link_at meta.1
  xattrs ← extra_at names_at (has_names width) link.1
  acl ← extra_at acl_at (has_acls width) xattrs.1
  Ok (record { meta = meta.0; link = link.0; xattrs = xattrs.0; acl = acl.0 }, acl.1)
