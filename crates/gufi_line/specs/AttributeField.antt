-- The names of extended attributes in the fifteenth field of a line.
use Rattle.std.specs.Prelude.{ℕ, Bool, not, ◌==◌, ◌||◌, nat_lt, List, [], ◌∷◌, ◌++◌, length, take, drop, filter, bytes_eq, Result, Ok, if◌then◌else◌}
use Rattle.std.specs.List.{list_any, join_with_byte}
use Rattle.gufi_base.specs.Basics.{is_empty, split, ◌>>◌, refuse}
use Rattle.gufi_base.specs.Limits.{max_xattr, max_xattrs}
use Rattle.gufi_base.specs.Xattrs.{mark}
use Rattle.gufi_line.specs.declared.fault.TraceKind.{TraceKind}
use Rattle.gufi_line.specs.declared.fault.TraceKind.TheVariants.{BadXattr}

abbrev pub has_mark : List ℕ → Bool
has_mark field = bytes_eq (take (length mark) field) mark

abbrev pub is_long : List ℕ → Bool
is_long part = nat_lt max_xattr (length part)

-- bytes behind the mark with a 0x00, too many of them, or with too long a part
abbrev pub are_bad : List ℕ → Bool
are_bad names = list_any (λ b. b == 0) names || nat_lt max_xattrs (length names) || list_any is_long (split 44 names)

-- the parts between commas that aren't empty, joined by single commas
abbrev pub filled : List (List ℕ) → List (List ℕ)
filled parts = filter (λ part. not (is_empty part)) parts

abbrev pub joined : List ℕ → List ℕ
joined names = join_with_byte 44 (filled (split 44 names))

-- a part behind others, with a comma between them, unless it is empty
abbrev pub added : List ℕ → List ℕ → List ℕ
added out part = if is_empty part then out else (if is_empty out then part else out ++ 44 ∷ part)

-- the names of a field; one without the mark has none
unfoldable pub xattrs_of : List ℕ → Result (List ℕ) TraceKind
xattrs_of field = if has_mark field then (refuse (are_bad (drop (length mark) field)) BadXattr >> Ok (joined (drop (length mark) field))) else Ok []
