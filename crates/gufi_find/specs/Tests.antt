-- The tests of an expression, and their truth.
use Rattle.std.specs.Prelude.{ℕ, Bool, true, false, not, ◌==◌, List, ℤ, pos, ◌-ℤ◌, int_lt, int_div, bit_and}
use Rattle.std.specs.List.{list_any}
use Rattle.std.specs.Int.{div_ceil}
use Rattle.std.specs.Ordering.{int_eq}
use Rattle.gufi_base.specs.declared.record.Meta.{Meta}
use Rattle.gufi_base.specs.declared.record.Row.{Row}
use Rattle.gufi_base.specs.Paths.{path_text, base_name}
use Rattle.gufi_base.specs.Kinds.{kind_letter}
use Rattle.gufi_glob.specs.Patterns.{matches}
use Rattle.gufi_find.specs.declared.comparison.Comparison.{Comparison}
use Rattle.gufi_find.specs.declared.comparison.Comparison.TheVariants.{EqualTo, MoreThan, LessThan}
use Rattle.gufi_find.specs.declared.comparison.SizeUnit.{SizeUnit}
use Rattle.gufi_find.specs.declared.comparison.SizeUnit.TheVariants.{Bytes, Blocks, Kibibytes, Mebibytes, Gibibytes}
use Rattle.gufi_find.specs.declared.test.Test.{Test}
use Rattle.gufi_find.specs.declared.test.Test.TheVariants as tests

-- `n`, `+n` and `-n`
abbrev pub meets : Comparison → ℤ → Bool
meets (EqualTo n) x = int_eq x (pos n)
meets (MoreThan n) x = int_lt (pos n) x
meets (LessThan n) x = int_lt x (pos n)

-- how many bytes a unit has
abbrev pub unit_bytes : SizeUnit → ℕ
unit_bytes Bytes = 1
unit_bytes Blocks = 512
unit_bytes Kibibytes = 1024
unit_bytes Mebibytes = 1048576
unit_bytes Gibibytes = 1073741824

-- whole days before the moment, rounded toward zero
abbrev pub days_since : ℤ → ℤ → ℤ
days_since now time = int_div (now -ℤ time) (pos 86400)

-- the test that stands for no words at all
abbrev pub is_always : Test → Bool
is_always tests.Always = true
is_always _ = false

-- the tests of a path's text
abbrev pub is_of_text : Test → Bool
is_of_text (tests.NameMatches parts) = true
is_of_text (tests.PathMatches parts) = true
is_of_text _ = false

-- the truth of a test, of a path's text, its base name and a record
abbrev pub is_true : Test → List ℕ → List ℕ → Meta → Bool
is_true tests.Always path name meta = true
is_true tests.DepthBound path name meta = true
is_true (tests.NameMatches parts) path name meta = matches parts name
is_true (tests.PathMatches parts) path name meta = matches parts path
is_true (tests.KindIs kind) path name meta = kind_letter kind == kind_letter meta.kind
is_true (tests.SizeIs unit comparison) path name meta = meets comparison (pos (div_ceil meta.size (unit_bytes unit)))
is_true (tests.AtimeIs now comparison) path name meta = meets comparison (days_since now meta.atime)
is_true (tests.MtimeIs now comparison) path name meta = meets comparison (days_since now meta.mtime)
is_true (tests.CtimeIs now comparison) path name meta = meets comparison (days_since now meta.ctime)
is_true (tests.LinksAre comparison) path name meta = meets comparison (pos meta.nlink)
is_true (tests.ModeIs mode) path name meta = meta.mode == mode
is_true (tests.ModeHas mode) path name meta = bit_and meta.mode mode == mode
is_true (tests.UserIs uid) path name meta = meta.uid == uid
is_true (tests.GroupIs gid) path name meta = meta.gid == gid
is_true (tests.UserNotIn uids) path name meta = not (list_any (λ uid. uid == meta.uid) uids)
is_true (tests.GroupNotIn gids) path name meta = not (list_any (λ gid. gid == meta.gid) gids)

abbrev pub test_holds : Test → Row → Bool
test_holds t row = is_true t (path_text row.path) (base_name row.path) row.rec.meta
