use Rattle.std.proofs.Common.{◌≡◌, ◌+◌, ◌++◌, List, length, map, take}
use Rattle.gufi_base.specs.declared.record.Row.{Row}
use Rattle.gufi_base.specs.Paths.{Components}
use Rattle.gufi_tree.specs.Tree.{entry_row}
use Rattle.gufi_info.specs.Census.{census_of}
use Rattle.gufi_info.proofs.census.Census.with_entries.Given as goal

abbrev pub invariant-loop-place : goal.invariant-loop-place
invariant-loop-place l =
    (rows : List Row) (path : Components) → l.fn.self ≡ census_of rows → l.depth ≡ length path + 1 → l.census ≡ census_of (rows ++ map (entry_row path) (take l.place l.entries))
