-- The sum of a list of rows, and of two sums.
use Rattle.std.specs.Prelude.{◌≡◌, ℕ, ◌+◌, ◌*◌, ◌≤◌, Bool, false, not, ◌||◌, min, max, List, [], ◌∷◌, map, filter, sum, count_by, Option, Some, None, if◌then◌else◌, All}
use Rattle.std.specs.Int.{int_min, int_max}
use Rattle.gufi_base.specs.declared.record.Kind.{Kind}
use Rattle.gufi_base.specs.declared.record.Meta.{Meta}
use Rattle.gufi_base.specs.declared.record.Row.{Row}
use Rattle.gufi_base.specs.Kinds.{is_dir, is_file, is_link}
use Rattle.gufi_sums.specs.declared.summary.Summary.{Summary}

-- the least and the greatest of two pairs, where None has nothing in it
abbrev pub span : {A : Type 0} → (A → A → A) → (A → A → A) → Option (A × A) → Option (A × A) → Option (A × A)
span least greatest None b = b
span least greatest (Some a) None = Some a
span least greatest (Some a) (Some b) = Some (least a.0 b.0, greatest a.1 b.1)

-- the least and the greatest of a list
abbrev pub range_of : {A : Type 0} → (A → A → A) → (A → A → A) → List A → Option (A × A)
range_of least greatest [] = None
range_of least greatest (x ∷ xs) = span least greatest (Some (x, x)) (range_of least greatest xs)

abbrev pub is_other : Kind → Bool
is_other kind = not (is_dir kind || is_file kind || is_link kind)

abbrev pub file_sizes : List Meta → List ℕ
file_sizes metas = map (λ meta. meta.size) (filter (λ meta. is_file meta.kind) metas)

-- the sum of records
abbrev pub total_of : List Meta → Summary
total_of metas = record {
  dirs = count_by (λ meta. is_dir meta.kind) metas;
  files = count_by (λ meta. is_file meta.kind) metas;
  links = count_by (λ meta. is_link meta.kind) metas;
  others = count_by (λ meta. is_other meta.kind) metas;
  bytes = sum (file_sizes metas);
  size = range_of min max (file_sizes metas);
  mtime = range_of int_min int_max (map (λ meta. meta.mtime) metas);
  uid = range_of min max (map (λ meta. meta.uid) metas);
  gid = range_of min max (map (λ meta. meta.gid) metas);
}

-- the sum of rows
unfoldable pub total : List Row → Summary
total rows = total_of (map (λ row. row.rec.meta) rows)

-- the sum of no record
abbrev pub empty : Summary
empty = record { dirs = 0; files = 0; links = 0; others = 0; bytes = 0; size = None; mtime = None; uid = None; gid = None }

-- the sum of one record
abbrev pub meta_total : Meta → Summary
meta_total meta = record {
  dirs = if is_dir meta.kind then 1 else 0;
  files = if is_file meta.kind then 1 else 0;
  links = if is_link meta.kind then 1 else 0;
  others = if is_other meta.kind then 1 else 0;
  bytes = if is_file meta.kind then meta.size else 0;
  size = if is_file meta.kind then Some (meta.size, meta.size) else None;
  mtime = Some (meta.mtime, meta.mtime);
  uid = Some (meta.uid, meta.uid);
  gid = Some (meta.gid, meta.gid);
}

-- the sum of two lists joined
abbrev pub join : Summary → Summary → Summary
join a b = record {
  dirs = a.dirs + b.dirs;
  files = a.files + b.files;
  links = a.links + b.links;
  others = a.others + b.others;
  bytes = a.bytes + b.bytes;
  size = span min max a.size b.size;
  mtime = span int_min int_max a.mtime b.mtime;
  uid = span min max a.uid b.uid;
  gid = span min max a.gid b.gid;
}

-- the sum with one record more
abbrev pub add : Summary → Meta → Summary
add s meta = join s (meta_total meta)

-- the same but for its time and its owners
abbrev pub counted : Summary → Meta → Summary
counted s meta = record {
  dirs = s.dirs + (if is_dir meta.kind then 1 else 0);
  files = s.files + (if is_file meta.kind then 1 else 0);
  links = s.links + (if is_link meta.kind then 1 else 0);
  others = s.others + (if is_other meta.kind then 1 else 0);
  bytes = s.bytes + (if is_file meta.kind then meta.size else 0);
  size = span min max s.size (if is_file meta.kind then Some (meta.size, meta.size) else None);
  mtime = s.mtime;
  uid = s.uid;
  gid = s.gid;
}

-- how many rows a sum counts
abbrev pub rows_in : Summary → ℕ
rows_in s = s.dirs + s.files + s.links + s.others

-- no file is longer than a number of 64 bits can say
abbrev pub IsBounded : Summary → Type 0
IsBounded s = s.bytes ≤ 18446744073709551615 * s.files

-- none of the rows meets the query, at any depth
abbrev pub NoneMeets : (Row → ℕ → Bool) → List Row → Type 0
NoneMeets query rows = All (λ row. (depth : ℕ) → query row depth ≡ false) rows

-- it is the sum of the rows, and its bytes are those of files whose sizes are numbers of 64 bits
pub record IsTotal (sum : Summary) (rows : List Row) : Type 0 where
  pub is : sum ≡ total rows
  pub bounded : IsBounded sum
