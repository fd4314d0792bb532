-- The fields of a line.
use Rattle.std.specs.Prelude.{ℕ, List, ◌∷◌, Option, Some, None, ok_or, Result}
use Rattle.gufi_base.specs.Basics.{split, part_at}
use Rattle.gufi_line.specs.declared.fault.TraceKind.{TraceKind}
use Rattle.gufi_line.specs.declared.fault.TraceKind.TheVariants.{Short}
use Rattle.gufi_line.specs.declared.fields.Fields.{Fields}

pub record Texts : Type 0 where
  pub path : List ℕ
  pub kind : List ℕ
  pub inode : List ℕ
  pub mode : List ℕ
  pub nlink : List ℕ
  pub uid : List ℕ
  pub gid : List ℕ
  pub size : List ℕ
  pub blksize : List ℕ
  pub blocks : List ℕ
  pub atime : List ℕ
  pub mtime : List ℕ
  pub ctime : List ℕ
  pub link : List ℕ
  pub xattrs : List ℕ
  pub acl : List ℕ

-- what the fields of the code point to
abbrev pub texts : Fields → Texts
texts f = record {
  path = f.path.now;
  kind = f.kind.now;
  inode = f.inode.now;
  mode = f.mode.now;
  nlink = f.nlink.now;
  uid = f.uid.now;
  gid = f.gid.now;
  size = f.size.now;
  blksize = f.blksize.now;
  blocks = f.blocks.now;
  atime = f.atime.now;
  mtime = f.mtime.now;
  ctime = f.ctime.now;
  link = f.link.now;
  xattrs = f.xattrs.now;
  acl = f.acl.now;
}

-- the first fourteen parts, where there are so many, and the fifteenth and sixteenth, or nothing; the others are skipped unread
unfoldable pub fields_of : List (List ℕ) → Option Texts
fields_of (path ∷ kind ∷ inode ∷ mode ∷ nlink ∷ uid ∷ gid ∷ size ∷ blksize ∷ blocks ∷ atime ∷ mtime ∷ ctime ∷ link ∷ more) =
    Some (record {
      path = path;
      kind = kind;
      inode = inode;
      mode = mode;
      nlink = nlink;
      uid = uid;
      gid = gid;
      size = size;
      blksize = blksize;
      blocks = blocks;
      atime = atime;
      mtime = mtime;
      ctime = ctime;
      link = link;
      xattrs = part_at more 1;
      acl = part_at more 2;
    })
fields_of _ = None

abbrev pub fields_in : ℕ → List ℕ → Result Texts TraceKind
fields_in delim text = ok_or (fields_of (split delim text)) Short
