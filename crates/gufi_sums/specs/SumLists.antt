-- Two sums for each directory.
use Rattle.std.specs.Prelude.{List}
use Rattle.gufi_sums.specs.declared.summary.Summary.{Summary}

-- by their places: of each directory's own rows, and of the rows at and below it
pub record SumLists : Type 0 where
  pub own : List Summary
  pub below : List Summary
