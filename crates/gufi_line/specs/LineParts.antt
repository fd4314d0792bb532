-- The parts of a written line.
use Rattle.std.specs.Prelude.{ℕ, List, [], ◌∷◌, ◌++◌, decimal, ℤ, if◌then◌else◌}
use Rattle.std.specs.Fmt.{signed_decimal}
use Rattle.gufi_base.specs.declared.record.Meta.{Meta}
use Rattle.gufi_base.specs.declared.record.Rec.{Rec}
use Rattle.gufi_base.specs.Basics.{is_empty}
use Rattle.gufi_base.specs.Kinds.{kind_letter}
use Rattle.gufi_base.specs.Xattrs.{mark}
use Rattle.gufi_acl.specs.AclTexts.{acl_text}
use Rattle.gufi_line.specs.TraceRows.{names_text}

abbrev pub number_text : ℕ → ℕ → List ℕ
number_text delim n = delim ∷ decimal n

abbrev pub signed_text : ℕ → ℤ → List ℕ
signed_text delim z = delim ∷ signed_decimal z

-- fields 2 to 7, 8 to 10 and 11 to 13, each behind a delimiter
abbrev pub owner_text : ℕ → Meta → List ℕ
owner_text delim m =
    (delim ∷ kind_letter m.kind ∷ []) ++ (number_text delim m.inode ++ (number_text delim m.mode ++ (number_text delim m.nlink ++ (number_text delim m.uid ++ number_text delim m.gid))))

abbrev pub size_text : ℕ → Meta → List ℕ
size_text delim m = number_text delim m.size ++ (number_text delim m.blksize ++ number_text delim m.blocks)

abbrev pub times_text : ℕ → Meta → List ℕ
times_text delim m = signed_text delim m.atime ++ (signed_text delim m.mtime ++ signed_text delim m.ctime)

-- the names of extended attributes, where there are some
abbrev pub xattrs_text : ℕ → List ℕ → List ℕ
xattrs_text delim names = if is_empty names then [] else delim ∷ mark ++ names

-- the names and the list, where there is a list
abbrev pub extras_text : ℕ → List ℕ → List ℕ → List ℕ
extras_text delim names acl = if is_empty acl then xattrs_text delim names else delim ∷ names_text names ++ delim ∷ acl_text acl

-- the link, the names, the list and the line's end
abbrev pub end_text : ℕ → Rec → List ℕ
end_text delim rec = delim ∷ rec.link ++ (extras_text delim rec.xattrs rec.acl ++ 10 ∷ [])

-- what follows the path in a line
unfoldable pub rec_text : ℕ → Rec → List ℕ
rec_text delim rec = owner_text delim rec.meta ++ (size_text delim rec.meta ++ (times_text delim rec.meta ++ end_text delim rec))
