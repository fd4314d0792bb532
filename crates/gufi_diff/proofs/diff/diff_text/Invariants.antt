use Rattle.std.proofs.Common.{◌≡◌, ◌+◌, ◌-◌, ◌≤◌, ◌++◌, length}
use Rattle.gufi_diff.specs.Changes.{diff_lines}
use Rattle.gufi_diff.specs.Passes.{lines_left}
use Rattle.gufi_diff.proofs.diff.diff_text.Given as goal

abbrev pub invariant-rows : goal.invariant-rows
invariant-rows l = record {
  in_old : l.passed.old ≤ length l.old;
  in_new : l.passed.new ≤ length l.new;
  lines : l.text.items ++ lines_left l.old l.new l.passed ≡ diff_lines l.old l.new;
}

abbrev pub decreases-rows : goal.decreases-rows
decreases-rows l = length l.old + length l.new - (l.passed.old + l.passed.new)
