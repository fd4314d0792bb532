use Rattle.std.proofs.Common.{◌≡◌, ◌++◌, take}
use Rattle.std.specs.Prelude.{All}
use Rattle.gufi_tree.specs.Bundled.{lists_of, directories_at, Keep, Stands}
use Rattle.gufi_tree.proofs.outside.push_again.Given as goal

abbrev pub invariant-loop-place : goal.invariant-loop-place
invariant-loop-place l = record {
  keep : Keep (lists_of l.fn.bundles.items l.fn.last) (lists_of l.bundles.items l.last);
  stand : All (Stands (lists_of l.bundles.items l.last)) l.places.items;
  pushed : directories_at (lists_of l.bundles.items l.last) l.places.items ≡ directories_at (lists_of l.fn.bundles.items l.fn.last) l.fn.places.items ++ directories_at (lists_of l.from l.from_last) (take l.place-index l.some);
}
