use Rattle.std.proofs.Common.{◌≡◌, ◌≤◌, ◌+◌, ◌++◌, length, map, take, vec_len}
use Rattle.std.specs.Prelude.{vec_capacity}
use Rattle.gufi_tree.specs.Rows.{placed_meta, shifted_spot}
use Rattle.gufi_tree.proofs.rows.push_parts.Given as goal

abbrev pub invariant-loop-row : goal.invariant-loop-row
invariant-loop-row l = record {
  spots : l.spots.items ≡ l.fn.spots.items ++ map (shifted_spot l.base) (take l.row-index l.entries);
  metas : l.metas.items ≡ l.fn.metas.items ++ map placed_meta (take l.row-index l.entries);
  spot_room : vec_len l.spots + length l.entries ≤ vec_capacity l.spots + l.row-index;
  meta_room : vec_len l.metas + length l.entries ≤ vec_capacity l.metas + l.row-index;
}
