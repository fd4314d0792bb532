use Rattle.std.proofs.Common.{◌≤◌, ◌-◌, length}
use Rattle.gufi_line.proofs.NearEnds.{IsClear}
use Rattle.gufi_line.proofs.fields.end_by_blocks.Given as goal

abbrev pub invariant-by_blocks : goal.invariant-by_blocks
invariant-by_blocks l = record {
  within : l.at ≤ length l.text;
  clear : IsClear l.delim l.text l.at;
}

abbrev pub decreases-by_blocks : goal.decreases-by_blocks
decreases-by_blocks l = length l.text - l.at
