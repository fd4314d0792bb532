-- Directories packed in a bundle: each by its record, its path, its link and what is kept behind it (names of extended attributes and an access
-- control list), and its entries by theirs, all bytes in one text.
use Rattle.std.specs.Prelude.{◌≡◌, ℕ, ◌+◌, ◌<◌, ◌≤◌, List, length, take, drop, map, All, IsTrue}
use Rattle.std.specs.List.{list_all}
use Rattle.gufi_base.specs.Names.{is_name}
use Rattle.gufi_base.specs.Paths.{parent_path}
use Rattle.gufi_base.specs.PathTexts.{kept_text, names, IsText}
use Rattle.gufi_base.specs.Extras.{kept_xattrs, kept_acl, AreKept}
use Rattle.gufi_tree.specs.declared.tree.Entry.{Entry}
use Rattle.gufi_tree.specs.declared.bundle.Packed.{Packed}
use Rattle.gufi_tree.specs.declared.bundle.Head.{Head}
use Rattle.gufi_tree.specs.Tree.{Directory}

-- so many bytes of a text from a place on
abbrev pub bytes_at : List ℕ → ℕ → ℕ → List ℕ
bytes_at text at count = take count (drop at text)

abbrev pub name_in : List ℕ → Packed → List ℕ
name_in text p = bytes_at text p.at p.name

-- an entry's link stands behind its name, and behind that its names of extended attributes and its access control list
abbrev pub entry_in : List ℕ → Packed → Entry
entry_in text p = record {
  name = name_in text p;
  rec = record {
    link = bytes_at text (p.at + p.name) p.link;
    xattrs = kept_xattrs text (p.at + p.name + p.link) p.extras;
    acl = kept_acl text (p.at + p.name + p.link) p.extras;
    meta = p.meta;
  };
}

abbrev pub entries_in : List ℕ → List Packed → List Entry
entries_in text rows = map (entry_in text) rows

-- the kept text of a directory's path
abbrev pub path_in : List ℕ → Head → List ℕ
path_in text h = bytes_at text h.at h.path

-- a directory's link stands behind its path, and behind that the same two; its entries stand side by side among those of the bundle
abbrev pub directory_in : List ℕ → List Packed → Head → Directory
directory_in text rows h = record {
  path = names (path_in text h);
  rec = record {
    link = bytes_at text (h.at + h.path) h.link;
    xattrs = kept_xattrs text (h.at + h.path + h.link) h.extras;
    acl = kept_acl text (h.at + h.path + h.link) h.extras;
    meta = h.meta;
  };
  entries = entries_in text (take h.count (drop h.first rows));
}

pub record IsPacked (text : List ℕ) (p : Packed) : Type 0 where
  pub within : AreKept text (p.at + p.name + p.link) p.extras
  pub name : IsTrue (is_name (name_in text p))

-- it tells how many names its path has, and where the last of them begins, the root's path apart
pub record IsHead (text : List ℕ) (rows : List Packed) (h : Head) : Type 0 where
  pub within : AreKept text (h.at + h.path + h.link) h.extras
  pub path : IsText (path_in text h)
  pub depth : h.depth ≡ length (names (path_in text h))
  pub last : 1 < h.path → h.last ≡ length (kept_text (parent_path (names (path_in text h))))
  pub entries : h.first + h.count ≤ length rows

-- no path has more bytes than the longest
pub record IsBundle (text : List ℕ) (rows : List Packed) (heads : List Head) (longest : ℕ) : Type 0 where
  pub each : All (IsHead text rows) heads
  pub packed : All (IsPacked text) rows
  pub short : All (λ head. head.path ≤ longest) heads

-- a directory whose names are names, with a path of at most so many bytes as it is kept
pub record IsShort (longest : ℕ) (dir : Directory) : Type 0 where
  pub path : length (kept_text dir.path) ≤ longest
  pub names : IsTrue (list_all is_name dir.path)
  pub entries : All (λ entry. IsTrue (is_name entry.name)) dir.entries
