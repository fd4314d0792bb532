-- What the values of the code stand for.
use Rattle.std.specs.Prelude.{ℕ, ◌-◌, List, map}
use Rattle.gufi_tree.specs.declared.tree.Entry.{Entry}
use Rattle.gufi_tree.specs.Tree.{Directory}
use Rattle.gufi_image.specs.declared.directory.Flag.{Flag}
use Rattle.gufi_image.specs.declared.directory.Open.{Open}
use Rattle.gufi_image.specs.declared.entry.EntryAt.{EntryAt}
use Rattle.gufi_image.specs.declared.progress.Directories.{Directories as Kept}
use Rattle.gufi_image.specs.Directories.{Heading, Front}

abbrev pub heading : Open → Heading
heading o = record { path = o.path; rec = o.rec; flag = o.flag; count = o.count }

abbrev pub directory_in : Open → List Entry → Directory
directory_in o entries = record { path = o.path; rec = o.rec; entries = entries }

abbrev pub entry_seen : EntryAt → Entry
entry_seen e = record { name = e.name.now; rec = record { meta = e.rec.numbers; link = e.rec.link.now; xattrs = e.rec.xattrs.now; acl = e.rec.acl.now } }

-- A flag that is kept has as many bytes left as in the longest image that may be. It has so many fewer in one that has so many bytes fewer.
abbrev pub nearer : ℕ → Flag → Flag
nearer k f = record { set = f.set; left = f.left - k }

abbrev pub headed : ℕ → Open → Heading
headed k o = record { path = o.path; rec = o.rec; flag = nearer k o.flag; count = o.count }

abbrev pub front_near : ℕ → Kept → Front
front_near k d = record { dirs = d.packing.dirs; flags = map (nearer k) d.flags.items }
