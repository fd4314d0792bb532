-- The bytes of the fields of an image. Numbers are little endian.
use Rattle.std.specs.Prelude.{ℕ, Bool, true, false, List, [], ◌∷◌, ◌++◌, length, ℤ, codes}
use Rattle.std.specs.Int.{w16, w32, w64, to_le_bytes, cast_unsigned}
use Rattle.gufi_base.specs.declared.record.Meta.{Meta}
use Rattle.gufi_base.specs.declared.record.Rec.{Rec}
use Rattle.gufi_image.specs.declared.width.Width.{Width}
use Rattle.gufi_image.specs.Widths.{has_names, has_acls}

abbrev pub magic : List ℕ
magic = codes "GUFIX" ++ 0 ∷ []

abbrev pub u8_bytes : ℕ → List ℕ
u8_bytes n = n ∷ []

unfoldable pub u16_bytes : ℕ → List ℕ
u16_bytes n = to_le_bytes w16 n

unfoldable pub u32_bytes : ℕ → List ℕ
u32_bytes n = to_le_bytes w32 n

unfoldable pub u64_bytes : ℕ → List ℕ
u64_bytes n = to_le_bytes w64 n

abbrev pub i64_bytes : ℤ → List ℕ
i64_bytes z = u64_bytes (cast_unsigned w64 z)

-- what stands before the link: who and how many, sizes, and times
unfoldable pub owner_image : Meta → List ℕ
owner_image m = u64_bytes m.inode ++ (u16_bytes m.mode ++ (u64_bytes m.nlink ++ (u32_bytes m.uid ++ u32_bytes m.gid)))

unfoldable pub size_image : Meta → List ℕ
size_image m = u64_bytes m.size ++ (u64_bytes m.blksize ++ u64_bytes m.blocks)

unfoldable pub times_image : Meta → List ℕ
times_image m = i64_bytes m.atime ++ (i64_bytes m.mtime ++ i64_bytes m.ctime)

-- bytes behind their length, in records that have them
abbrev pub extra_image : Bool → List ℕ → List ℕ
extra_image false bytes = []
extra_image true bytes = u16_bytes (length bytes) ++ bytes

-- names of extended attributes and an access control list behind the link
abbrev pub extras_image : Width → Rec → List ℕ
extras_image width rec = extra_image (has_names width) rec.xattrs ++ extra_image (has_acls width) rec.acl

unfoldable pub record_image : Width → Rec → List ℕ
record_image width rec =
    owner_image rec.meta ++ (size_image rec.meta ++ (times_image rec.meta ++ (u16_bytes (length rec.link) ++ (rec.link ++ extras_image width rec))))

abbrev pub name_image : List ℕ → List ℕ
name_image name = u8_bytes (length name) ++ name
