-- The image of one directory, byte for byte, and what the images of small trees mean.
use Rattle.std.proofs.Common.{◌≡◌, ℕ, List, [], ◌∷◌, refl}
use Rattle.std.specs.Prelude.{Ok, Err, codes, pos, slice_set}
use Rattle.gufi_base.specs.declared.record.Kind.{Kind}
use Rattle.gufi_base.specs.declared.record.Kind.TheVariants.{Dir, File}
use Rattle.gufi_base.specs.declared.record.Rec.{Rec}
use Rattle.gufi_access.specs.Acl.{entries, ascends_after, count_of, is_acl}
use Rattle.gufi_access.specs.Tried.{covers, rules_cover, rule_of, named_by}
use Rattle.gufi_tree.specs.Tree.{Directory}
use Rattle.gufi_image.specs.declared.fault.ImageError.TheVariants.{Fault}
use Rattle.gufi_image.specs.declared.fault.ImageKind.TheVariants as kinds
use Rattle.gufi_image.specs.Bytes.{u16_bytes, u32_bytes, u64_bytes, owner_image, size_image, times_image, record_image}
use Rattle.gufi_image.specs.Image.{entry_image, parts_image, head_image, image_text}
use Rattle.gufi_image.specs.Fields.{meta_at, link_at, names_at, acl_at, record_at}
use Rattle.gufi_image.specs.Names.{name_at}
use Rattle.gufi_image.specs.Entries.{entry_at, entries_at}
use Rattle.gufi_image.specs.Directories.{root_at, below_at, first_at, other_at, path_at, flag_at, heading_at, directory_at, directories_at}
use Rattle.gufi_image.specs.Reading.{counts_at, version_at, head_at, all_at, snapshot_at, image_means}

abbrev full : Kind → ℕ → ℕ → ℕ → ℕ → List ℕ → List ℕ → Rec
full kind inode mode uid gid xattrs acl = record {
  meta = record { kind = kind; inode = inode; mode = mode; nlink = 2; uid = uid; gid = gid; size = 4096; blksize = 4096; blocks = 8; atime = pos 10; mtime = pos 20; ctime = pos 30 };
  link = [];
  xattrs = xattrs;
  acl = acl;
}

abbrev rec : Kind → ℕ → ℕ → ℕ → ℕ → Rec
rec kind inode mode uid gid = full kind inode mode uid gid [] []

abbrev lone : List Directory
lone = record { path = []; rec = rec Dir 1 493 101 100; entries = [] } ∷ []

bytes_of_one : image_text lone 0 ≡
    0x47 ∷ 0x55 ∷ 0x46 ∷ 0x49 ∷ 0x58 ∷ 0 ∷ 1 ∷ 0 ∷ 0 ∷ 0 ∷ 0 ∷ 0 ∷ 0 ∷ 0 ∷ 0 ∷ 0 ∷ 1 ∷ 0 ∷ 0 ∷ 0 ∷ 0 ∷ 0 ∷ 0 ∷ 0
    ∷ 0xff ∷ 0xff ∷ 0xff ∷ 0xff ∷ 0 ∷ 0
    ∷ 1 ∷ 0 ∷ 0 ∷ 0 ∷ 0 ∷ 0 ∷ 0 ∷ 0 ∷ 0xed ∷ 1 ∷ 2 ∷ 0 ∷ 0 ∷ 0 ∷ 0 ∷ 0 ∷ 0 ∷ 0 ∷ 0x65 ∷ 0 ∷ 0 ∷ 0 ∷ 0x64 ∷ 0 ∷ 0 ∷ 0
    ∷ 0 ∷ 0x10 ∷ 0 ∷ 0 ∷ 0 ∷ 0 ∷ 0 ∷ 0 ∷ 0 ∷ 0x10 ∷ 0 ∷ 0 ∷ 0 ∷ 0 ∷ 0 ∷ 0 ∷ 8 ∷ 0 ∷ 0 ∷ 0 ∷ 0 ∷ 0 ∷ 0 ∷ 0
    ∷ 0x0a ∷ 0 ∷ 0 ∷ 0 ∷ 0 ∷ 0 ∷ 0 ∷ 0 ∷ 0x14 ∷ 0 ∷ 0 ∷ 0 ∷ 0 ∷ 0 ∷ 0 ∷ 0 ∷ 0x1e ∷ 0 ∷ 0 ∷ 0 ∷ 0 ∷ 0 ∷ 0 ∷ 0 ∷ 0 ∷ 0
    ∷ 0 ∷ 0 ∷ 0 ∷ 0 ∷ []
unfolding image_text head_image parts_image record_image owner_image size_image times_image u16_bytes u32_bytes u64_bytes covers rules_cover rule_of named_by
bytes_of_one = refl

-- with a name of an extended attribute it has version 2
bytes_of_named : image_text (record { path = []; rec = full Dir 1 493 101 100 (codes "user.k") []; entries = [] } ∷ []) 0 ≡
    0x47 ∷ 0x55 ∷ 0x46 ∷ 0x49 ∷ 0x58 ∷ 0 ∷ 2 ∷ 0 ∷ 0 ∷ 0 ∷ 0 ∷ 0 ∷ 0 ∷ 0 ∷ 0 ∷ 0 ∷ 1 ∷ 0 ∷ 0 ∷ 0 ∷ 0 ∷ 0 ∷ 0 ∷ 0
    ∷ 0xff ∷ 0xff ∷ 0xff ∷ 0xff ∷ 0 ∷ 0
    ∷ 1 ∷ 0 ∷ 0 ∷ 0 ∷ 0 ∷ 0 ∷ 0 ∷ 0 ∷ 0xed ∷ 1 ∷ 2 ∷ 0 ∷ 0 ∷ 0 ∷ 0 ∷ 0 ∷ 0 ∷ 0 ∷ 0x65 ∷ 0 ∷ 0 ∷ 0 ∷ 0x64 ∷ 0 ∷ 0 ∷ 0
    ∷ 0 ∷ 0x10 ∷ 0 ∷ 0 ∷ 0 ∷ 0 ∷ 0 ∷ 0 ∷ 0 ∷ 0x10 ∷ 0 ∷ 0 ∷ 0 ∷ 0 ∷ 0 ∷ 0 ∷ 8 ∷ 0 ∷ 0 ∷ 0 ∷ 0 ∷ 0 ∷ 0 ∷ 0
    ∷ 0x0a ∷ 0 ∷ 0 ∷ 0 ∷ 0 ∷ 0 ∷ 0 ∷ 0 ∷ 0x14 ∷ 0 ∷ 0 ∷ 0 ∷ 0 ∷ 0 ∷ 0 ∷ 0 ∷ 0x1e ∷ 0 ∷ 0 ∷ 0 ∷ 0 ∷ 0 ∷ 0 ∷ 0 ∷ 0 ∷ 0
    ∷ 6 ∷ 0 ∷ 0x75 ∷ 0x73 ∷ 0x65 ∷ 0x72 ∷ 0x2e ∷ 0x6b
    ∷ 0 ∷ 0 ∷ 0 ∷ 0 ∷ []
unfolding image_text head_image parts_image record_image owner_image size_image times_image u16_bytes u32_bytes u64_bytes covers rules_cover rule_of named_by
bytes_of_named = refl

-- with an access control list version 3
guarded : List Directory
guarded = record { path = []; rec = full Dir 1 493 101 100 [] (0 ∷ 7 ∷ 0 ∷ 0 ∷ 0 ∷ 0 ∷ 2 ∷ 5 ∷ 0 ∷ 0 ∷ 0 ∷ 0 ∷ 5 ∷ 5 ∷ 0 ∷ 0 ∷ 0 ∷ 0 ∷ []); entries = [] } ∷ []

bytes_of_guarded : image_text guarded 0 ≡
    0x47 ∷ 0x55 ∷ 0x46 ∷ 0x49 ∷ 0x58 ∷ 0 ∷ 3 ∷ 0 ∷ 0 ∷ 0 ∷ 0 ∷ 0 ∷ 0 ∷ 0 ∷ 0 ∷ 0 ∷ 1 ∷ 0 ∷ 0 ∷ 0 ∷ 0 ∷ 0 ∷ 0 ∷ 0
    ∷ 0xff ∷ 0xff ∷ 0xff ∷ 0xff ∷ 0 ∷ 0
    ∷ 1 ∷ 0 ∷ 0 ∷ 0 ∷ 0 ∷ 0 ∷ 0 ∷ 0 ∷ 0xed ∷ 1 ∷ 2 ∷ 0 ∷ 0 ∷ 0 ∷ 0 ∷ 0 ∷ 0 ∷ 0 ∷ 0x65 ∷ 0 ∷ 0 ∷ 0 ∷ 0x64 ∷ 0 ∷ 0 ∷ 0
    ∷ 0 ∷ 0x10 ∷ 0 ∷ 0 ∷ 0 ∷ 0 ∷ 0 ∷ 0 ∷ 0 ∷ 0x10 ∷ 0 ∷ 0 ∷ 0 ∷ 0 ∷ 0 ∷ 0 ∷ 8 ∷ 0 ∷ 0 ∷ 0 ∷ 0 ∷ 0 ∷ 0 ∷ 0
    ∷ 0x0a ∷ 0 ∷ 0 ∷ 0 ∷ 0 ∷ 0 ∷ 0 ∷ 0 ∷ 0x14 ∷ 0 ∷ 0 ∷ 0 ∷ 0 ∷ 0 ∷ 0 ∷ 0 ∷ 0x1e ∷ 0 ∷ 0 ∷ 0 ∷ 0 ∷ 0 ∷ 0 ∷ 0 ∷ 0 ∷ 0
    ∷ 0 ∷ 0 ∷ 18 ∷ 0 ∷ 0 ∷ 7 ∷ 0 ∷ 0 ∷ 0 ∷ 0 ∷ 2 ∷ 5 ∷ 0 ∷ 0 ∷ 0 ∷ 0 ∷ 5 ∷ 5 ∷ 0 ∷ 0 ∷ 0 ∷ 0
    ∷ 0 ∷ 0 ∷ 0 ∷ 0 ∷ []
unfolding guarded image_text head_image parts_image record_image owner_image size_image times_image u16_bytes u32_bytes u64_bytes covers rules_cover rule_of named_by
bytes_of_guarded = refl

-- a tag that there isn't is a fault at the length of the list
no_list : image_means (slice_set (image_text guarded 0) 110 9) ≡ Err (Fault 108 kinds.Number)
unfolding guarded image_text head_image parts_image record_image owner_image size_image times_image u16_bytes u32_bytes u64_bytes covers rules_cover rule_of named_by image_means snapshot_at all_at head_at version_at counts_at directories_at directory_at heading_at path_at first_at root_at flag_at record_at meta_at link_at names_at acl_at entries ascends_after count_of is_acl
no_list = refl

-- a root that isn't rolled up, since few may list the directory in it, which is
folded : List Directory
folded =
    record { path = []; rec = rec Dir 1 493 101 100; entries = [] }
    ∷ record { path = codes "c" ∷ []; rec = rec Dir 2 45 102 200; entries = record { name = codes "x"; rec = rec File 3 420 102 200 } ∷ [] }
    ∷ []

read_again : image_means (image_text folded 100) ≡ Ok (record { tree = folded; limit = 100 })
unfolding folded image_text head_image parts_image record_image owner_image size_image times_image u16_bytes u32_bytes u64_bytes entry_image covers rules_cover rule_of named_by image_means snapshot_at all_at head_at version_at counts_at directories_at directory_at heading_at path_at first_at other_at below_at root_at flag_at entries_at entry_at name_at record_at meta_at link_at
read_again = refl

other_flag : image_means (slice_set (image_text folded 100) 29 1) ≡ Err (Fault 29 kinds.Roll)
unfolding folded image_text head_image parts_image record_image owner_image size_image times_image u16_bytes u32_bytes u64_bytes entry_image covers rules_cover rule_of named_by image_means snapshot_at all_at head_at version_at counts_at directories_at directory_at heading_at path_at first_at other_at below_at root_at flag_at entries_at entry_at name_at record_at meta_at link_at
other_flag = refl
