-- Names of extended attributes, joined by single commas.
use Rattle.std.specs.Prelude.{ℕ, Bool, not, ◌&&◌, ◌||◌, nat_le, List, length, codes}
use Rattle.std.specs.List.{list_all}
use Rattle.gufi_base.specs.Basics.{is_empty, split}
use Rattle.gufi_base.specs.Limits.{max_xattr, max_xattrs}
use Rattle.gufi_base.specs.Names.{is_path_byte}

-- what field 15 of a trace's line begins with where it holds names
abbrev pub mark : List ℕ
mark = codes "xattrs/"

-- a part between commas that is a name: 1 to 255 bytes
abbrev pub is_xattr : List ℕ → Bool
is_xattr part = not (is_empty part) && nat_le (length part) max_xattr

-- nothing, or names joined by single commas: at most 4,096 bytes in all, without 0x00 and newline
abbrev pub are_xattrs : List ℕ → Bool
are_xattrs names = nat_le (length names) max_xattrs && list_all is_path_byte names && (is_empty names || list_all is_xattr (split 44 names))
