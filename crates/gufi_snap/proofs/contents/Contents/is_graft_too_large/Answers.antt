use Rattle.std.proofs.Common.{◌≡◌, ◌+◌, ◌-◌, ◌||◌, ℕ, length, ap, ◌∙◌, arith}
use Rattle.std.specs.Prelude.{nat_lt}
use Rattle.gufi_base.specs.Limits.{max_dirs, max_entries}
use Rattle.gufi_tree.specs.Graft.{graft}
use Rattle.gufi_tree.specs.Tree.{entry_count}
use Rattle.gufi_tree.specs.Places.{path_at}
use Rattle.gufi_tree.proofs.Ranges.{below_within}
use Rattle.gufi_snap.proofs.Counting.{entries_within, entries_few, sizes_after}
use Rattle.gufi_snap.proofs.contents.Contents.is_graft_too_large.Goals as goal

pub overflow_sub-kept : goal.overflow_sub-kept
overflow_sub-kept c = omega (arith, c.dirs.ensures.count, ap length c.tree.ensures.tree, c.dirs_below.ensures, below_within c.args.self.now c.args.at.0 c.tree.ensures.shape.order c.requires)

pub overflow_sub-others : goal.overflow_sub-others
overflow_sub-others c =
    omega (arith, c.entries.ensures, c.entries_below.ensures, entries_within c.args.self.now c.args.part.now c.args.at.0 c.tree.ensures.shape c.tree-2.ensures.shape c.requires)

pub overflow_add-others : goal.overflow_add-others
overflow_add-others c = omega (arith, c.entries.ensures, c.entries-2.ensures, entries_few c.args.self.now c.tree.ensures.few, entries_few c.args.part.now c.tree-2.ensures.few)

pub returns : goal.returns
returns c =
    let after = graft c.args.self.now (path_at c.args.self.now c.args.at.0) c.args.part.now in
    let same = sizes_after c.args.self.now c.args.part.now c.args.at.0 c.tree.ensures.shape c.tree-2.ensures.shape c.requires in
    let dirs : c.from.result + c.from-2.result ≡ length after =
    omega (arith, same.0, c.from.ensures, c.from-2.ensures, c.dirs.ensures.count, c.dirs-2.ensures.count, c.dirs_below.ensures, ap length c.tree.ensures.tree, ap length c.tree-2.ensures.tree) in
    let entries : c.entries.result - c.entries_below.result + c.entries-2.result ≡ entry_count after = omega (arith, same.1, c.entries.ensures, c.entries_below.ensures, c.entries-2.ensures) in
    c.is_too_many.ensures ∙ ap (λ (n : ℕ). nat_lt max_dirs n || nat_lt max_entries (c.entries.result - c.entries_below.result + c.entries-2.result)) dirs
    ∙ ap (λ (n : ℕ). nat_lt max_dirs (length after) || nat_lt max_entries n) entries
