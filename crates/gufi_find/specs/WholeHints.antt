-- The hint of a test is no sign, so it reads to one formula.
use Rattle.std.specs.Prelude.{◌≡◌, true, ℕ, ◌+◌, ◌-◌, ◌*◌, ◌==◌, ℤ, pos, ◌+ℤ◌, Some, refl}
use Rattle.gufi_base.specs.declared.hint.Hint.TheVariants.{SizeIn}
use Rattle.gufi_formula.specs.Formulas.{test}
use Rattle.gufi_formula.specs.Hints.{AreWhole, formula_of}
use Rattle.gufi_formula.specs.Ranges.{sizes_in, least_time, greatest_time}
use Rattle.gufi_formula.specs.Leaves.{is_leaf, leaf_formula, chosen_leaf, sizes_leaf, times_leaf}
use Rattle.gufi_find.specs.declared.comparison.Comparison.{Comparison}
use Rattle.gufi_find.specs.declared.comparison.Comparison.TheVariants.{EqualTo, MoreThan, LessThan}
use Rattle.gufi_find.specs.declared.test.Test.{Test}
use Rattle.gufi_find.specs.declared.test.Test.TheVariants as tests
use Rattle.gufi_find.specs.Tests.{unit_bytes}
use Rattle.gufi_find.specs.TestHints.{size_hint, mtime_hint, latest, test_hint, test_hints}

size_leaf : (unit : ℕ) (c : Comparison) → is_leaf (size_hint unit c) ≡ true
size_leaf unit (EqualTo n) =
    chosen_leaf (n == 0) (SizeIn 0 0) (sizes_in (pos ((n - 1) * unit + 1)) (pos (n * unit))) refl (sizes_leaf (pos ((n - 1) * unit + 1)) (pos (n * unit)))
size_leaf unit (MoreThan n) = sizes_leaf (pos (n * unit + 1)) (pos 18446744073709551615)
size_leaf unit (LessThan n) = chosen_leaf (n == 0) (SizeIn 1 0) (sizes_in (pos 0) (pos ((n - 1) * unit))) refl (sizes_leaf (pos 0) (pos ((n - 1) * unit)))

mtime_leaf : (now : ℤ) (c : Comparison) → is_leaf (mtime_hint now c) ≡ true
mtime_leaf now (EqualTo n) = times_leaf (latest now (n + 1) +ℤ pos 1) (latest now n)
mtime_leaf now (MoreThan n) = times_leaf least_time (latest now (n + 1))
mtime_leaf now (LessThan n) = times_leaf (latest now n +ℤ pos 1) greatest_time

test_leaf : (t : Test) → is_leaf (test_hint t) ≡ true
test_leaf (tests.SizeIs unit c) = size_leaf (unit_bytes unit) c
test_leaf (tests.MtimeIs now c) = mtime_leaf now c
test_leaf _ = refl

pub test_formula : (t : Test) → formula_of (test_hints t) ≡ Some (test (test_hint t))
test_formula t = leaf_formula (test_hint t) (test_leaf t)

pub tests_whole : (t : Test) → AreWhole (test_hints t)
tests_whole t = (test (test_hint t), test_formula t)
