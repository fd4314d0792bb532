-- Lists of rows: their paths, and their records with all links in one text, and right behind each link what else is kept.
use Rattle.std.specs.Prelude.{◌≡◌, ℕ, List, [], ◌∷◌, length, All, pos}
use Rattle.gufi_base.specs.declared.record.Rec.{Rec}
use Rattle.gufi_base.specs.declared.record.Row.{Row}
use Rattle.gufi_base.specs.declared.record.Kind.TheVariants.{Dir}
use Rattle.gufi_rows.specs.declared.kept.Kept.{Kept}
use Rattle.gufi_base.specs.Paths.{Components}
use Rattle.gufi_base.specs.Extras.{AreKept, kept_acl, kept_xattrs}
use Rattle.gufi_rows.specs.PathLists.{FitsBehind, IsSpan, bytes_in, span_behind}

abbrev pub rec_in : List ℕ → Kept → Rec
rec_in links kept = record {
  meta = kept.meta;
  link = bytes_in links kept.link;
  xattrs = kept_xattrs links kept.link.end kept.extras;
  acl = kept_acl links kept.link.end kept.extras;
}

-- a record, where its text stands behind another of so many bytes
abbrev pub kept_behind : ℕ → Kept → Kept
kept_behind by kept = record { meta = kept.meta; link = span_behind by kept.link; extras = kept.extras }

abbrev pub rows_in : List ℕ → List Components → List Kept → List Row
rows_in links [] records = []
rows_in links (path ∷ paths) [] = []
rows_in links (path ∷ paths) (kept ∷ records) = record { path = path; rec = rec_in links kept } ∷ rows_in links paths records

-- its link stands in the text, and what else is kept right behind it
abbrev pub IsKept : List ℕ → Kept → Type 0
IsKept links kept = IsSpan links kept.link × AreKept links kept.link.end kept.extras

-- the link's places are numbers of 32 bits, where the text stands behind another of so many bytes
abbrev pub KeptFitsBehind : ℕ → Kept → Type 0
KeptFitsBehind by kept = FitsBehind by kept.link

-- one record for each path, with all that is kept of it in the text
pub record AreRecords (links : List ℕ) (paths : List Components) (records : List Kept) : Type 0 where
  pub alike : length paths ≡ length records
  pub each : All (IsKept links) records

-- what stands past the end of a list of rows
abbrev pub no_row : Row
no_row = record {
  path = [];
  rec = record {
    meta = record { kind = Dir; inode = 0; mode = 0; nlink = 0; uid = 0; gid = 0; size = 0; blksize = 0; blocks = 0; atime = pos 0; mtime = pos 0; ctime = pos 0 };
    link = [];
    xattrs = [];
    acl = [];
  };
}
