-- The order of paths, by their kept texts: a slash stands before all bytes.
use Rattle.std.specs.Prelude.{ℕ, ◌+◌, ◌==◌, if◌then◌else◌}
use Rattle.std.specs.declared.cmp.Ordering.{Ordering}
use Rattle.std.specs.Ordering.{nat_cmp}

abbrev pub rank : ℕ → ℕ
rank b = if b == 47 then 0 else b + 1

abbrev pub slash_first : ℕ → ℕ → Ordering
slash_first a b = nat_cmp (rank a) (rank b)
