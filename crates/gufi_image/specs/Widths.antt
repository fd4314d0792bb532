-- What the records of an image hold behind their links, and which tree needs it.
use Rattle.std.specs.Prelude.{ℕ, Bool, true, false, not, ◌==◌, ◌||◌, List, Option, Some, None, if◌then◌else◌}
use Rattle.std.specs.List.{list_any}
use Rattle.gufi_base.specs.declared.record.Rec.{Rec}
use Rattle.gufi_base.specs.Basics.{is_empty}
use Rattle.gufi_tree.specs.declared.tree.Entry.{Entry}
use Rattle.gufi_tree.specs.Tree.{Directory}
use Rattle.gufi_image.specs.declared.width.Width.{Width}
use Rattle.gufi_image.specs.declared.width.Width.TheVariants.{Narrow, Named, Guarded}

-- names of extended attributes
abbrev pub has_names : Width → Bool
has_names Narrow = false
has_names Named = true
has_names Guarded = true

-- access control lists
abbrev pub has_acls : Width → Bool
has_acls Narrow = false
has_acls Named = false
has_acls Guarded = true

-- the version of an image with such records, and the width of a version
abbrev pub version_of : Width → ℕ
version_of Narrow = 1
version_of Named = 2
version_of Guarded = 3

abbrev pub width_in : ℕ → Option Width
width_in version = if version == 1 then Some Narrow else if version == 2 then Some Named else if version == 3 then Some Guarded else None

-- a record has what no lesser width holds; an entry has it; a directory or one of its entries; and some directory of a tree
abbrev pub record_needs : Width → Rec → Bool
record_needs Narrow rec = false
record_needs Named rec = not (is_empty rec.xattrs)
record_needs Guarded rec = not (is_empty rec.acl)

abbrev pub entries_need : Width → List Entry → Bool
entries_need width entries = list_any (λ (e : Entry). record_needs width e.rec) entries

abbrev pub directory_needs : Width → Directory → Bool
directory_needs width dir = record_needs width dir.rec || entries_need width dir.entries

abbrev pub tree_needs : Width → List Directory → Bool
tree_needs width tree = list_any (directory_needs width) tree

-- the least width that holds a tree
abbrev pub width_of : List Directory → Width
width_of tree = if tree_needs Guarded tree then Guarded else if tree_needs Named tree then Named else Narrow

-- the least width that holds lists or names, where there are some; and the wider of two
abbrev pub least : Bool → Bool → Width
least acls names = if acls then Guarded else if names then Named else Narrow

abbrev pub wider : Width → Width → Width
wider one other = least (has_acls one || has_acls other) (has_names one || has_names other)

-- the least width that holds a record, entries, and a directory with its entries
abbrev pub record_width : Rec → Width
record_width rec = least (record_needs Guarded rec) (record_needs Named rec)

abbrev pub entries_width : List Entry → Width
entries_width entries = least (entries_need Guarded entries) (entries_need Named entries)

abbrev pub directory_width : Directory → Width
directory_width dir = least (directory_needs Guarded dir) (directory_needs Named dir)
