-- What rows have in common.
use Rattle.std.specs.Prelude.{ℕ, Bool, not, ◌||◌, max, List, [], ◌∷◌, length, map, Some}
use Rattle.std.specs.List.{list_any}
use Rattle.std.specs.Int.{int_min, int_max}
use Rattle.gufi_base.specs.declared.record.Rec.{Rec}
use Rattle.gufi_base.specs.declared.record.Row.{Row}
use Rattle.gufi_base.specs.Basics.{is_empty}
use Rattle.gufi_sums.specs.Total.{span, range_of}
use Rattle.gufi_info.specs.declared.census.Census.{Census}

-- the most components of a row's path
abbrev pub deepest : List Row → ℕ
deepest [] = 0
deepest (row ∷ rows) = max (length row.path) (deepest rows)

abbrev pub has_list : Rec → Bool
has_list rec = not (is_empty rec.acl)

abbrev pub has_names : Rec → Bool
has_names rec = not (is_empty rec.xattrs)

-- how deep they lie, the least and the greatest of their times, whether one has an access control list, and one names of extended attributes
abbrev pub census_of : List Row → Census
census_of rows = record {
  depth = deepest rows;
  atime = range_of int_min int_max (map (λ row. row.rec.meta.atime) rows);
  mtime = range_of int_min int_max (map (λ row. row.rec.meta.mtime) rows);
  ctime = range_of int_min int_max (map (λ row. row.rec.meta.ctime) rows);
  acls = list_any (λ row. has_list row.rec) rows;
  xattrs = list_any (λ row. has_names row.rec) rows;
}

-- the same with a row more
abbrev pub with_record : Census → ℕ → Rec → Census
with_record census depth rec = record {
  depth = max census.depth depth;
  atime = span int_min int_max census.atime (Some (rec.meta.atime, rec.meta.atime));
  mtime = span int_min int_max census.mtime (Some (rec.meta.mtime, rec.meta.mtime));
  ctime = span int_min int_max census.ctime (Some (rec.meta.ctime, rec.meta.ctime));
  acls = census.acls || has_list rec;
  xattrs = census.xattrs || has_names rec;
}
