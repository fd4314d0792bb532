use Rattle.std.proofs.Common.{◌≡◌, ◌-◌, length, drop}
use Rattle.std.specs.List.{list_all}
use Rattle.gufi_base.specs.Names.{is_path_byte_but}
use Rattle.gufi_base.proofs.bytes.are_free_by_blocks.Given as goal

abbrev pub invariant-by_blocks : goal.invariant-by_blocks
invariant-by_blocks g l = list_all (is_path_byte_but l.other) l.bytes ≡ list_all (is_path_byte_but l.other) (drop l.at l.bytes)

abbrev pub decreases-by_blocks : goal.decreases-by_blocks
decreases-by_blocks g l = length l.bytes - l.at
