-- Records and rows: one row for each directory and each entry.
use Rattle.std.specs.Prelude.{◌≡◌, ℕ, ◌^◌, ℤ, pos, neg_ℤ, int_lt, int_le, ◌-◌, Bool, ◌&&◌, nat_lt, List, length, IsTrue, if◌then◌else◌}
use Rattle.std.specs.List.{list_all}
use Rattle.std.specs.declared.cmp.Ordering.{Ordering}
use Rattle.gufi_base.specs.declared.record.Rec.{Rec}
use Rattle.gufi_base.specs.declared.record.Row.{Row}
use Rattle.gufi_base.specs.declared.record.RowRef.{RowRef}
pub use Rattle.gufi_base.specs.Kinds.{kind_letter, kind_of_letter, read_kind, is_dir, is_file, is_link}
use Rattle.gufi_base.specs.Basics.{sort_by}
use Rattle.gufi_base.specs.Names.{is_name}
use Rattle.gufi_base.specs.Paths.{Components, path_cmp, parent_path, base_name, stem}

-- The ranges of the types of the fields. A record of the program has them; a law over all records needs them as a premise.
abbrev pub are_bytes : List ℕ → Bool
are_bytes bytes = list_all (λ b. nat_lt b 256) bytes

abbrev pub fits_i64 : ℤ → Bool
fits_i64 z = int_le (neg_ℤ (pos (2 ^ 63))) z && int_lt z (pos (2 ^ 63))

abbrev pub fits_types : Rec → Bool
fits_types rec =
    let m = rec.meta in
    nat_lt m.inode (2 ^ 64) && nat_lt m.mode (2 ^ 16) && nat_lt m.nlink (2 ^ 64) && nat_lt m.uid (2 ^ 32) && nat_lt m.gid (2 ^ 32) && nat_lt m.size (2 ^ 64) && nat_lt m.blksize (2 ^ 64)
    && nat_lt m.blocks (2 ^ 64) && fits_i64 m.atime && fits_i64 m.mtime && fits_i64 m.ctime && are_bytes rec.link && are_bytes rec.xattrs && are_bytes rec.acl

abbrev pub row_fits_types : Row → Bool
row_fits_types row = list_all are_bytes row.path && fits_types row.rec

abbrev pub is_dir_row : Row → Bool
is_dir_row row = is_dir row.rec.meta.kind

-- the directory that a row belongs to: a directory's row to itself, any other to its parent
abbrev pub home : Row → Components
home row = if is_dir_row row then row.path else parent_path row.path

-- how many components a row lies below a start of this length
abbrev pub depth_below : ℕ → Row → ℕ
depth_below above row = length row.path - above

abbrev pub row_cmp : Row → Row → Ordering
row_cmp a b = path_cmp a.path b.path

-- the rows in path order
abbrev pub sort_rows : List Row → List Row
sort_rows rows = sort_by row_cmp rows

-- What the borrowed parts stand for. The names of the path are file names, so no two rows have the same parts.
pub record Stands (ref : RowRef) (row : Row) : Type 0 where
  pub names : IsTrue (list_all is_name row.path)
  pub stem : ref.stem.now ≡ stem row.path
  pub base : ref.base.now ≡ base_name row.path
  pub meta : ref.meta.now ≡ row.rec.meta
  pub link : ref.link.now ≡ row.rec.link
  pub xattrs : ref.xattrs.now ≡ row.rec.xattrs
  pub acl : ref.acl.now ≡ row.rec.acl

-- the parts of some row
abbrev pub StandsForSome : RowRef → Type 0
StandsForSome ref = (row : Row) × Stands ref row
