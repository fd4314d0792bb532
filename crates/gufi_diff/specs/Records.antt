-- Whether two records are the same, field by field.
use Rattle.std.specs.Prelude.{Bool, ◌&&◌, ◌==◌, bytes_eq}
use Rattle.std.specs.Ordering.{int_eq}
use Rattle.gufi_base.specs.declared.record.Meta.{Meta}
use Rattle.gufi_base.specs.declared.record.Rec.{Rec}
use Rattle.gufi_base.specs.Kinds.{kind_letter}

abbrev pub same_owners : Meta → Meta → Bool
same_owners a b = a.uid == b.uid && a.gid == b.gid && a.mode == b.mode && kind_letter a.kind == kind_letter b.kind

abbrev pub same_sizes : Meta → Meta → Bool
same_sizes a b = a.size == b.size && a.blocks == b.blocks && a.blksize == b.blksize && a.nlink == b.nlink && a.inode == b.inode

abbrev pub same_times : Meta → Meta → Bool
same_times a b = int_eq a.atime b.atime && int_eq a.mtime b.mtime && int_eq a.ctime b.ctime

unfoldable pub same_meta : Meta → Meta → Bool
same_meta a b = same_owners a b && same_sizes a b && same_times a b

abbrev pub same_texts : Rec → Rec → Bool
same_texts a b = bytes_eq a.link b.link && (bytes_eq a.xattrs b.xattrs && bytes_eq a.acl b.acl)

unfoldable pub same_record : Rec → Rec → Bool
same_record a b = same_meta a.meta b.meta && same_texts a b
