-- A test's hint is true of a row exactly where the test is, and an expression's may hold where it does.
use Rattle.std.proofs.Common.{◌≡◌, ℕ, zero, suc, ◌+◌, ◌-◌, ◌*◌, ◌≤◌, ◌<◌, ◌^◌, Bool, true, false, refl, sym, ap, ◌∙◌, subst, arith}
use Rattle.std.specs.Prelude.{ℤ, pos, negsuc, ◌+ℤ◌, ◌-ℤ◌, int_le, int_lt, int_div, ◌&&◌, ◌==◌, nat_le, nat_lt, if◌then◌else◌}
use Rattle.std.specs.Int.{div_ceil}
use Rattle.std.specs.Ordering.{int_eq}
use Rattle.std.proofs.lemmas.Grind.{div_ceil_times}
use Rattle.std.proofs.lemmas.Nat.{mul-le}
use Rattle.std.proofs.lemmas.Bool.{and_parts, eqb-true, false≢true}
use Rattle.std.proofs.lemmas.Bool.Decides.{nat_tests}
use Rattle.std.proofs.lemmas.Int.{ints}
use Rattle.gufi_base.specs.declared.record.Meta.{Meta}
use Rattle.gufi_base.specs.declared.record.Row.{Row}
use Rattle.gufi_base.specs.declared.hint.Hint.{Hint}
use Rattle.gufi_base.specs.declared.hint.Hint.TheVariants.{SizeIn}
use Rattle.gufi_base.specs.Rows.{fits_types, fits_i64}
use Rattle.gufi_formula.specs.Formulas.{holds as truth_of}
use Rattle.gufi_formula.specs.Hints.{is_in, formula_of, certain, chance_at, chance_or, is_size, chance_told, fits_sums, may_hold}
use Rattle.gufi_formula.specs.Leaves.{tells}
use Rattle.gufi_formula.specs.Ranges.{sizes_in, least_time, greatest_time}
use Rattle.gufi_formula.proofs.HintLemmas.{Covers, told_covers, postfix_may_hold}
use Rattle.gufi_formula.proofs.RangeLemmas.{InRange, in_range, not_above, sizes_exact, sizes_speak, times_exact}
use Rattle.gufi_find.specs.declared.comparison.Comparison.{Comparison}
use Rattle.gufi_find.specs.declared.comparison.Comparison.TheVariants.{EqualTo, MoreThan, LessThan}
use Rattle.gufi_find.specs.declared.comparison.SizeUnit.{SizeUnit}
use Rattle.gufi_find.specs.declared.comparison.SizeUnit.TheVariants.{Bytes, Blocks, Kibibytes, Mebibytes, Gibibytes}
use Rattle.gufi_find.specs.declared.test.Test.{Test}
use Rattle.gufi_find.specs.declared.test.Test.TheVariants as tests
use Rattle.gufi_find.specs.Tests.{meets, days_since, unit_bytes, test_holds}
use Rattle.gufi_find.specs.TestHints.{size_hint, mtime_hint, latest, test_hint, test_hints, find_hints}
use Rattle.gufi_find.specs.WholeHints.{test_formula, tests_whole}
use Rattle.gufi_find.specs.Expressions.{Find, find_holds}

-- ---- sizes

next_unit : (k unit : ℕ) → (k + 1) * unit ≡ k * unit + unit
next_unit k unit = omega arith

-- rounded up it is at most k exactly where it has at most k units
units_at_most : (size unit k : ℕ) → 1 ≤ unit → nat_le (div_ceil size unit) k ≡ nat_le size (k * unit)
units_at_most size unit k some =
    let parts = div_ceil_times size unit some in
    both_ways (div_ceil size unit) k size (k * unit)
    (λ few. let under : div_ceil size unit * unit ≤ k * unit = (mul-le (div_ceil size unit) unit k unit few (omega arith)) in let upto : size ≤ div_ceil size unit * unit = parts.0 in omega arith)
    (λ many. let more : (k + 1) * unit ≤ div_ceil size unit * unit = mul-le (k + 1) unit (div_ceil size unit) unit (omega arith) (omega arith) in
    let last : div_ceil size unit * unit < size + unit = parts.1 in
    let next : (k + 1) * unit ≡ k * unit + unit = next_unit k unit in omega arith)
  where
    both_ways : (d k s m : ℕ) → (d ≤ k → s ≤ m) → (k < d → m < s) → nat_le d k ≡ nat_le s m
    both_ways d k s m few many = grind (arith, nat_tests)

size_equal : (d s n a b : ℕ) → nat_le d (n - 1) ≡ nat_le s a → nat_le d n ≡ nat_le s b → 1 ≤ n → (int_le (pos (a + 1)) (pos s) && int_le (pos s) (pos b)) ≡ int_eq (pos d) (pos n)
size_equal d s n a b below upto some = grind (arith, nat_tests)

size_none : (d s a : ℕ) → nat_le d 0 ≡ nat_le s a → a ≡ 0 → is_in 0 0 s ≡ int_eq (pos d) (pos 0)
size_none d s a upto none = grind (arith, nat_tests)

size_more : (d s n a top : ℕ) → nat_le d n ≡ nat_le s a → s ≤ top → (int_le (pos (a + 1)) (pos s) && int_le (pos s) (pos top)) ≡ int_lt (pos n) (pos d)
size_more d s n a top upto fits = grind (arith, nat_tests)

size_less : (d s n a : ℕ) → nat_le d (n - 1) ≡ nat_le s a → 1 ≤ n → (int_le (pos 0) (pos s) && int_le (pos s) (pos a)) ≡ int_lt (pos d) (pos n)
size_less d s n a below some = grind (arith, nat_tests)

never_less : (d s : ℕ) → is_in 1 0 s ≡ int_lt (pos d) (pos 0)
never_less d s = grind (arith, nat_tests)

some_of : (n : ℕ) → (n == 0) ≡ false → 1 ≤ n
some_of n e = grind (arith, nat_tests)

-- a choice by whether a number is none
by_none : (P : Hint → Type 0) (n : ℕ) (x y : Hint) → (n ≡ 0 → P x) → (1 ≤ n → P y) → P (if n == 0 then x else y)
by_none P n x y none some = on (n == 0) refl where
  on : (b : Bool) → (n == 0) ≡ b → P (if b then x else y)
  on true e = none (eqb-true n 0 e)
  on false e = some (some_of n e)

size_exact : (meta : Meta) (unit : ℕ) (c : Comparison) → 1 ≤ unit → nat_lt meta.size (2 ^ 64) ≡ true
    → chance_at meta (size_hint unit c) ≡ certain (meets c (pos (div_ceil meta.size unit)))
size_exact meta unit (EqualTo n) some fits =
    by_none (λ h. chance_at meta h ≡ certain (int_eq (pos (div_ceil meta.size unit)) (pos n))) n (SizeIn 0 0) (sizes_in (pos ((n - 1) * unit + 1)) (pos (n * unit)))
    (λ none. ap certain (size_none (div_ceil meta.size unit) meta.size (0 * unit) (units_at_most meta.size unit 0 some) (omega arith)) ∙ ap (λ k. certain (int_eq (pos (div_ceil meta.size unit)) (pos k))) (sym none))
    (λ more. sizes_exact meta (pos ((n - 1) * unit + 1)) (pos (n * unit)) fits
    ∙ ap certain (size_equal (div_ceil meta.size unit) meta.size n ((n - 1) * unit) (n * unit) (units_at_most meta.size unit (n - 1) some) (units_at_most meta.size unit n some) more))
size_exact meta unit (MoreThan n) some fits =
    sizes_exact meta (pos (n * unit + 1)) (pos 18446744073709551615) fits
    ∙ ap certain (size_more (div_ceil meta.size unit) meta.size n (n * unit) 18446744073709551615 (units_at_most meta.size unit n some) (at_most meta.size fits))
  where
    at_most : (s : ℕ) → nat_lt s (2 ^ 64) ≡ true → s ≤ 18446744073709551615
    at_most s h = grind (arith, nat_tests)
size_exact meta unit (LessThan n) some fits =
    by_none (λ h. chance_at meta h ≡ certain (int_lt (pos (div_ceil meta.size unit)) (pos n))) n (SizeIn 1 0) (sizes_in (pos 0) (pos ((n - 1) * unit)))
    (λ none. ap certain (never_less (div_ceil meta.size unit) meta.size) ∙ ap (λ k. certain (int_lt (pos (div_ceil meta.size unit)) (pos k))) (sym none))
    (λ more. sizes_exact meta (pos 0) (pos ((n - 1) * unit)) fits
    ∙ ap certain (size_less (div_ceil meta.size unit) meta.size n ((n - 1) * unit) (units_at_most meta.size unit (n - 1) some) more))

size_speaks : (unit : ℕ) (c : Comparison) → is_size (size_hint unit c) ≡ true
size_speaks unit (EqualTo n) =
    by_none (λ h. is_size h ≡ true) n (SizeIn 0 0) (sizes_in (pos ((n - 1) * unit + 1)) (pos (n * unit))) (λ none. refl) (λ more. sizes_speak (pos ((n - 1) * unit + 1)) (pos (n * unit)))
size_speaks unit (MoreThan n) = sizes_speak (pos (n * unit + 1)) (pos 18446744073709551615)
size_speaks unit (LessThan n) = by_none (λ h. is_size h ≡ true) n (SizeIn 1 0) (sizes_in (pos 0) (pos ((n - 1) * unit))) (λ none. refl) (λ more. sizes_speak (pos 0) (pos ((n - 1) * unit)))

-- ---- times

quotient_at_least : (x : ℤ) (k : ℕ) → int_le (pos k) (int_div x (pos 86400)) ≡ int_le (if k == 0 then negsuc 86398 else pos (k * 86400)) x
quotient_at_least (pos a) zero = grind (arith, nat_tests, ints)
quotient_at_least (pos a) (suc k) = grind (arith, nat_tests, ints)
quotient_at_least (negsuc a) zero = grind (arith, nat_tests, ints)
quotient_at_least (negsuc a) (suc k) = grind (arith, nat_tests, ints)

-- the same said of the time
moved : (now time : ℤ) (k : ℕ) → int_le (if k == 0 then negsuc 86398 else pos (k * 86400)) (now -ℤ time) ≡ int_le time (latest now k)
moved now time zero = grind (arith, ints)
moved now time (suc k) = grind (arith, ints)

-- a time is at least so many days before the moment exactly where it isn't behind the last such second
days_at_least : (now time : ℤ) (k : ℕ) → int_le (pos k) (days_since now time) ≡ int_le time (latest now k)
days_at_least now time k = quotient_at_least (now -ℤ time) k ∙ moved now time k

time_equal : (q m before upto : ℤ) (n : ℕ) → int_le (pos (n + 1)) q ≡ int_le m before → int_le (pos n) q ≡ int_le m upto → (int_le (before +ℤ pos 1) m && int_le m upto) ≡ int_eq q (pos n)
time_equal q m before upto n more some = grind (arith, ints)

time_more : (q m least before : ℤ) (n : ℕ) → int_le (pos (n + 1)) q ≡ int_le m before → int_le least m ≡ true → (int_le least m && int_le m before) ≡ int_lt (pos n) q
time_more q m least before n more fits = grind (arith, ints)

time_less : (q m upto most : ℤ) (n : ℕ) → int_le (pos n) q ≡ int_le m upto → int_le m most ≡ true → (int_le (upto +ℤ pos 1) m && int_le m most) ≡ int_lt q (pos n)
time_less q m upto most n some fits = grind (arith, ints)

mtime_exact : (meta : Meta) (now : ℤ) (c : Comparison) → fits_i64 meta.mtime ≡ true → chance_at meta (mtime_hint now c) ≡ certain (meets c (days_since now meta.mtime))
mtime_exact meta now (EqualTo n) fits =
    times_exact meta (latest now (n + 1) +ℤ pos 1) (latest now n) fits
    ∙ ap certain (time_equal (days_since now meta.mtime) meta.mtime (latest now (n + 1)) (latest now n) n (days_at_least now meta.mtime (n + 1)) (days_at_least now meta.mtime n))
mtime_exact meta now (MoreThan n) fits =
    times_exact meta least_time (latest now (n + 1)) fits
    ∙ ap certain (time_more (days_since now meta.mtime) meta.mtime least_time (latest now (n + 1)) n (days_at_least now meta.mtime (n + 1)) (and_parts (int_le least_time meta.mtime) (int_lt meta.mtime (pos (2 ^ 63))) fits).0)
mtime_exact meta now (LessThan n) fits =
    times_exact meta (latest now n +ℤ pos 1) greatest_time fits
    ∙ ap certain (time_less (days_since now meta.mtime) meta.mtime (latest now n) greatest_time n (days_at_least now meta.mtime n) (not_above meta.mtime (and_parts (int_le least_time meta.mtime) (int_lt meta.mtime (pos (2 ^ 63))) fits).1))

-- ---- tests

unit_some : (unit : SizeUnit) → 1 ≤ unit_bytes unit
unit_some Bytes = omega arith
unit_some Blocks = omega arith
unit_some Kibibytes = omega arith
unit_some Mebibytes = omega arith
unit_some Gibibytes = omega arith

every_size : (n : ℕ) → nat_lt n (2 ^ 64) ≡ true → is_in 0 18446744073709551615 n ≡ true
every_size n fits = grind (arith, nat_tests)

same_number : (a n : ℕ) → is_in a a n ≡ (n == a)
same_number a n = grind (arith, nat_tests)

test_known : (t : Test) (row : Row) → InRange row.rec.meta (test_hint t) → tells (test_hint t) ≡ true → chance_at row.rec.meta (test_hint t) ≡ certain (test_holds t row)
test_known tests.Always row r known = ap certain (every_size row.rec.meta.size (r.size refl))
test_known (tests.KindIs kind) row r known = refl
test_known (tests.SizeIs unit c) row r known = size_exact row.rec.meta (unit_bytes unit) c (unit_some unit) (r.size (size_speaks (unit_bytes unit) c))
test_known (tests.MtimeIs now c) row r known = mtime_exact row.rec.meta now c r.mtime
test_known (tests.UserIs uid) row r known = ap certain (same_number uid row.rec.meta.uid)
test_known (tests.GroupIs gid) row r known = ap certain (same_number gid row.rec.meta.gid)
test_known _ row r known = absurd (false≢true known)

-- a hint that tells something is true of a row exactly where its test is
pub test_exact : (t : Test) (row : Row) → fits_types row.rec ≡ true → tells (test_hint t) ≡ true → chance_at row.rec.meta (test_hint t) ≡ certain (test_holds t row)
test_exact t row fits known = test_known t row (in_range row.rec (test_hint t) fits) known

covers : (row : Row) → fits_sums row.rec.meta ≡ true → (t : Test) → Covers (chance_or (chance_told row.rec.meta) (formula_of (test_hints t))) (test_holds t row)
covers row fits t =
    subst (λ o. Covers (chance_or (chance_told row.rec.meta) o) (test_holds t row)) (sym (test_formula t))
    (told_covers row.rec.meta (test_hint t) (test_holds t row) fits (test_known t row))

-- the hints of an expression may hold of each row of which it is true
pub find_may_hold : (f : Find) (row : Row) (depth : ℕ) → find_holds f row depth ≡ true → may_hold (find_hints f) row ≡ true
find_may_hold f row depth holds =
    postfix_may_hold test_hints tests_whole row (λ t. test_holds t row) (covers row) f.expr
    (and_parts (truth_of (λ t. test_holds t row) f.expr) (nat_le f.least_depth depth) (and_parts _ _ holds).0).0
