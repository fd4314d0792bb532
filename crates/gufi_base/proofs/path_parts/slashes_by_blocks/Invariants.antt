use Rattle.std.proofs.Common.{◌≡◌, ◌-◌, ◌<◌, ◌==◌, length, take}
use Rattle.std.specs.List.{filter}
use Rattle.gufi_base.proofs.path_parts.slashes_by_blocks.Given as goal

abbrev pub invariant-by_blocks : goal.invariant-by_blocks
invariant-by_blocks g l = record {
  slashes : l.count ≡ length (filter (λ b. b == 47) (take l.at l.text));
  within : l.at < length l.text;
}

abbrev pub decreases-by_blocks : goal.decreases-by_blocks
decreases-by_blocks g l = length l.text - l.at
