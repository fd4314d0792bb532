-- The numbers of a record, where they stand.
use Rattle.std.specs.Prelude.{◌≡◌, ◌≤◌, ℕ, List, length, take, drop}
use Rattle.std.specs.Int.{Width as Bits, w16, w32, w64, byte_len, from_le_bytes, cast_signed}
use Rattle.gufi_base.specs.declared.record.Kind.{Kind}
use Rattle.gufi_base.specs.declared.record.Meta.{Meta}

-- the number of a width at a place
abbrev pub number_in : Bits → ℕ → List ℕ → ℕ
number_in w place bytes = from_le_bytes w (take (byte_len w) (drop place bytes))

-- what a record of this kind holds before its link, which begins with these bytes
unfoldable pub meta_in : Kind → List ℕ → Meta
meta_in kind bytes = record {
  kind = kind;
  inode = number_in w64 0 bytes;
  mode = number_in w16 8 bytes;
  nlink = number_in w64 10 bytes;
  uid = number_in w32 18 bytes;
  gid = number_in w32 22 bytes;
  size = number_in w64 26 bytes;
  blksize = number_in w64 34 bytes;
  blocks = number_in w64 42 bytes;
  atime = cast_signed w64 (number_in w64 50 bytes);
  mtime = cast_signed w64 (number_in w64 58 bytes);
  ctime = cast_signed w64 (number_in w64 66 bytes);
}

-- the numbers of a record are wholly there, with a mode that is one
pub record AreNumbers (bytes : List ℕ) : Type 0 where
  pub whole : length bytes ≡ 74
  pub mode : number_in w16 8 bytes ≤ 4095
