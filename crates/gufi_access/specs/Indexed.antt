-- Groups that are searched by halving.
use Rattle.std.specs.Prelude.{◌≡◌, ℕ, List}
use Rattle.std.specs.List.Sorted.{IsNonDecreasing}
use Rattle.gufi_access.specs.Access.{is_member}

-- an ascending list with the same members as the groups
pub record IsIndexOf (groups index : List ℕ) : Type 0 where
  pub ascends : IsNonDecreasing index
  pub same : (gid : ℕ) → is_member index gid ≡ is_member groups gid
