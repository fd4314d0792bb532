-- How deep the rows lie that are shown.
use Rattle.std.proofs.Common.{◌≡◌, ℕ, ◌≤◌, Bool, true, arith}
use Rattle.std.proofs.lemmas.Bool.{and_parts, eqb-true}
use Rattle.gufi_base.specs.declared.record.Row.{Row}
use Rattle.gufi_list.specs.Listings.{ls_asks}

pub one_below : (all : Bool) (row : Row) (depth : ℕ) → ls_asks all row depth ≡ true → depth ≤ 1
one_below all row depth asks = omega (arith, eqb-true depth 1 (and_parts _ _ asks).0)
