-- The generated trace of n directories.
use Rattle.std.specs.Prelude.{ℕ, zero, suc, ◌+◌, ◌*◌, ◌/◌, ◌%◌, List, [], ◌∷◌, ◌++◌, map, slice_index, pos, ◌-ℤ◌, codes, decimal}
use Rattle.std.specs.List.{range_with_len}
use Rattle.gufi_base.specs.declared.record.Kind.{Kind}
use Rattle.gufi_base.specs.declared.record.Kind.TheVariants.{Dir, File}
use Rattle.gufi_base.specs.declared.record.Meta.{Meta}
use Rattle.gufi_base.specs.declared.record.Rec.{Rec}
use Rattle.gufi_base.specs.Paths.{Components}
use Rattle.gufi_tree.specs.declared.tree.Entry.{Entry}
use Rattle.gufi_tree.specs.Tree.{Directory}
use Rattle.gufi_trace.specs.TraceWriting.{trace_text}

-- `d` and the number, below the parent (i - 1) / 8; the fuel is at least the number
abbrev pub path_within : ℕ → ℕ → Components
path_within zero i = []
path_within (suc fuel) zero = []
path_within (suc fuel) (suc i) = path_within fuel (i / 8) ++ (codes "d" ++ decimal (suc i)) ∷ []

abbrev pub directory_path : ℕ → Components
directory_path i = path_within i i

abbrev pub directory_mode : ℕ → ℕ
directory_mode i = slice_index (493 ∷ 493 ∷ 488 ∷ 448 ∷ 457 ∷ 493 ∷ 504 ∷ 493 ∷ []) (i % 8)

-- a record with the owners and times of directory i
abbrev pub made_meta : Kind → ℕ → ℕ → ℕ → ℕ → Meta
made_meta kind i inode mode size = record {
  kind = kind;
  inode = inode;
  mode = mode;
  nlink = 1;
  uid = 1000 + i % 7;
  gid = 100 + i % 3;
  size = size;
  blksize = 4096;
  blocks = 8;
  atime = pos 1700000000 -ℤ pos i;
  mtime = pos 1700000000 -ℤ pos i;
  ctime = pos 1700000000 -ℤ pos i;
}

abbrev pub directory_meta : ℕ → Meta
directory_meta i = made_meta Dir i (i + 1) (directory_mode i) 4096

abbrev pub entry_meta : ℕ → ℕ → Meta
entry_meta i j = made_meta File i (1000000 + 5 * i + j) 420 ((37 * i + 1001 * j) % 5000)

abbrev pub linkless : Meta → Rec
linkless meta = record { meta = meta; link = []; xattrs = []; acl = [] }

abbrev pub made_file : ℕ → ℕ → Entry
made_file i j = record { name = codes "f" ++ decimal j; rec = linkless (entry_meta i j) }

-- directory i with its i mod 5 entries
abbrev pub made_dir : ℕ → Directory
made_dir i = record { path = directory_path i; rec = linkless (directory_meta i); entries = map (made_file i) (range_with_len 0 (i % 5)) }

-- n directories, in the order of their numbers
abbrev pub made_dirs : ℕ → List Directory
made_dirs n = map made_dir (range_with_len 0 n)

-- the components of the root's path, `/g`
abbrev pub made_root : Components
made_root = codes "g" ∷ []

-- a stanza for each of n directories
unfoldable pub gen_text : ℕ → ℕ → List ℕ
gen_text n delim = trace_text (made_dirs n) made_root delim
