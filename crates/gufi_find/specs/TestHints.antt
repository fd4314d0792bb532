-- What sums can bound of an expression: its tests of types, sizes, times, users and groups.
use Rattle.std.specs.Prelude.{ℕ, ◌+◌, ◌-◌, ◌*◌, ◌==◌, ℤ, pos, ◌+ℤ◌, ◌-ℤ◌, List, [], ◌∷◌, if◌then◌else◌}
use Rattle.gufi_base.specs.declared.hint.Hint.{Hint}
use Rattle.gufi_base.specs.declared.hint.Hint.TheVariants.{Kind, SizeIn, UidIn, GidIn, Unknown}
use Rattle.gufi_formula.specs.Hints.{postfix}
use Rattle.gufi_formula.specs.Ranges.{sizes_in, times_in, least_time, greatest_time}
use Rattle.gufi_find.specs.declared.comparison.Comparison.{Comparison}
use Rattle.gufi_find.specs.declared.comparison.Comparison.TheVariants.{EqualTo, MoreThan, LessThan}
use Rattle.gufi_find.specs.declared.test.Test.{Test}
use Rattle.gufi_find.specs.declared.test.Test.TheVariants as tests
use Rattle.gufi_find.specs.Expressions.{Find}
use Rattle.gufi_find.specs.Tests.{unit_bytes}

-- In units rounded up a size is n where it is above n - 1 units and at most n of them.
abbrev pub size_hint : ℕ → Comparison → Hint
size_hint unit (EqualTo n) = if n == 0 then SizeIn 0 0 else sizes_in (pos ((n - 1) * unit + 1)) (pos (n * unit))
size_hint unit (MoreThan n) = sizes_in (pos (n * unit + 1)) (pos 18446744073709551615)
size_hint unit (LessThan n) = if n == 0 then SizeIn 1 0 else sizes_in (pos 0) (pos ((n - 1) * unit))

-- the last second that is so many days before the moment, rounded toward zero
abbrev pub latest : ℤ → ℕ → ℤ
latest now days = if days == 0 then now +ℤ pos 86399 else now -ℤ pos (days * 86400)

abbrev pub mtime_hint : ℤ → Comparison → Hint
mtime_hint now (EqualTo n) = times_in (latest now (n + 1) +ℤ pos 1) (latest now n)
mtime_hint now (MoreThan n) = times_in least_time (latest now (n + 1))
mtime_hint now (LessThan n) = times_in (latest now n +ℤ pos 1) greatest_time

-- the test of no words is true of every size
abbrev pub test_hint : Test → Hint
test_hint tests.Always = SizeIn 0 18446744073709551615
test_hint (tests.KindIs kind) = Kind kind
test_hint (tests.SizeIs unit comparison) = size_hint (unit_bytes unit) comparison
test_hint (tests.MtimeIs now comparison) = mtime_hint now comparison
test_hint (tests.UserIs uid) = UidIn uid uid
test_hint (tests.GroupIs gid) = GidIn gid gid
test_hint other = Unknown

abbrev pub test_hints : Test → List Hint
test_hints t = test_hint t ∷ []

-- the bounds of depth are left out
abbrev pub find_hints : Find → List Hint
find_hints f = postfix test_hints f.expr
