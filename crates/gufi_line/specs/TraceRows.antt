-- A row as a line of a trace: fourteen fields, decimal numbers without leading zeros, and up to the last one that isn't empty the names of extended
-- attributes and the access control list.
use Rattle.std.specs.Prelude.{ℕ, Bool, ◌==◌, ◌||◌, List, [], ◌∷◌, ◌++◌, decimal, if◌then◌else◌}
use Rattle.std.specs.Fmt.{signed_decimal}
use Rattle.std.specs.List.{list_any, join_with_byte}
use Rattle.gufi_base.specs.declared.record.Rec.{Rec}
use Rattle.gufi_base.specs.declared.record.Row.{Row}
use Rattle.gufi_base.specs.Basics.{is_empty, line}
use Rattle.gufi_base.specs.Paths.{Components, path_text}
use Rattle.gufi_base.specs.Kinds.{kind_letter}
use Rattle.gufi_base.specs.Xattrs.{mark}
use Rattle.gufi_acl.specs.AclTexts.{acl_text}

-- the names behind their mark, where there are some
abbrev pub names_text : List ℕ → List ℕ
names_text names = if is_empty names then [] else mark ++ names

-- the fields behind the link: none, one, or two where there is a list
abbrev pub xattrs_fields : List ℕ → List (List ℕ)
xattrs_fields names = if is_empty names then [] else (mark ++ names) ∷ []

abbrev pub extra_fields : List ℕ → List ℕ → List (List ℕ)
extra_fields names acl = if is_empty acl then xattrs_fields names else names_text names ∷ acl_text acl ∷ []

abbrev pub row_fields : Components → Row → List (List ℕ)
row_fields root row =
    let m = row.rec.meta in
    path_text (root ++ row.path) ∷ (kind_letter m.kind ∷ []) ∷ decimal m.inode ∷ decimal m.mode ∷ decimal m.nlink ∷ decimal m.uid ∷ decimal m.gid
    ∷ decimal m.size ∷ decimal m.blksize ∷ decimal m.blocks ∷ signed_decimal m.atime ∷ signed_decimal m.mtime ∷ signed_decimal m.ctime ∷ row.rec.link ∷ extra_fields row.rec.xattrs row.rec.acl

abbrev pub row_line : ℕ → Components → Row → List ℕ
row_line delim root row = line (join_with_byte delim (row_fields root row))

-- a name of the tree or the root, a link, the names of extended attributes, or the text of an access control list hold the delimiter
abbrev pub holds_byte : ℕ → List ℕ → Bool
holds_byte delim bytes = list_any (λ b. b == delim) bytes

abbrev pub rec_holds : ℕ → Rec → Bool
rec_holds delim rec = holds_byte delim rec.link || holds_byte delim rec.xattrs || holds_byte delim (acl_text rec.acl)

abbrev pub row_holds : ℕ → Row → Bool
row_holds delim row = list_any (holds_byte delim) row.path || rec_holds delim row.rec
