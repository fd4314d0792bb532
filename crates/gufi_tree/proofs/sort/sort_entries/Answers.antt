use Rattle.std.proofs.Common.{◌∙◌, length, drop, get_or, arith, ◌<◌}
use Rattle.std.proofs.lemmas.List.{take_at, length-set, get_or_default}
use Rattle.std.specs.List.Sorted.{IsSortedBy}
use Rattle.std.specs.Ordering.{is_lt}
use Rattle.gufi_tree.specs.declared.tree.Stored.{Stored}
use Rattle.gufi_tree.specs.Tree.{entry_cmp}
use Rattle.gufi_tree.proofs.Rearranged.{rearranged_set, holds_set, rows_rearranged, kinds_rearranged, paths_rearranged}
use Rattle.gufi_tree.proofs.sort.sort_entries.Goals as goal

pub loop-dir-preserved : goal.loop-dir-preserved
loop-dir-preserved c =
    let items = c.loop-dir.dir-items in
    let i = c.loop-dir.dir-index in
    let inv = c.loop-dir.invariant in
    let lt : c.loop-dir.dir-index < length c.loop-dir.dir-items = omega arith in
    record {
      len = length-set items i c.sort_own_entries.new.dir ∙ inv.len;
      rearranged = rearranged_set c.args.stored.now.items items i (get_or items i c.dir-item.result) c.sort_own_entries.new.dir inv.len lt (get_or_default items i c.dir-item.result (get_or items i c.dir-item.result) lt)
          (record { path = c.sort_own_entries.ensures.path; rec = c.sort_own_entries.ensures.rec; entries = c.sort_own_entries.ensures.permutation }) inv.rearranged;
      sorted = holds_set (λ (s : Stored). IsSortedBy (λ x y. is_lt (entry_cmp x y)) s.entries.items) items i c.sort_own_entries.new.dir lt inv.sorted c.sort_own_entries.ensures.order;
    }

pub returns-clause-rows : goal.returns-clause-rows
returns-clause-rows c =
    let same = take_at c.loop-dir.dir-items (drop (length c.loop-dir.dir-items) c.args.stored.now.items) c.args.stored.now.len (c.loop-dir.auto.dir-items ∙ c.deref_mut-dir-items.ensures.len) in
    rw same (rows_rearranged c.args.stored.now.items c.loop-dir.dir-items c.loop-dir.invariant.len c.loop-dir.invariant.rearranged)

pub returns-clause-kinds : goal.returns-clause-kinds
returns-clause-kinds c =
    let same = take_at c.loop-dir.dir-items (drop (length c.loop-dir.dir-items) c.args.stored.now.items) c.args.stored.now.len (c.loop-dir.auto.dir-items ∙ c.deref_mut-dir-items.ensures.len) in
    rw same (kinds_rearranged c.args.stored.now.items c.loop-dir.dir-items c.loop-dir.invariant.len c.loop-dir.invariant.rearranged)

pub returns-clause-paths : goal.returns-clause-paths
returns-clause-paths c =
    let same = take_at c.loop-dir.dir-items (drop (length c.loop-dir.dir-items) c.args.stored.now.items) c.args.stored.now.len (c.loop-dir.auto.dir-items ∙ c.deref_mut-dir-items.ensures.len) in
    rw same (paths_rearranged c.args.stored.now.items c.loop-dir.dir-items c.loop-dir.invariant.len c.loop-dir.invariant.rearranged)
