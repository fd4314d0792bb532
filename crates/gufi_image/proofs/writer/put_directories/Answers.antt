use Rattle.std.proofs.Common.{◌≡◌, ap, ◌∙◌, sym, ◌++◌, take, List, ℕ, ◌+◌, arith, append_assoc, subst}
use Rattle.gufi_tree.specs.Tree.{Directory}
use Rattle.gufi_tree.specs.Places.{path_at}
use Rattle.gufi_roll.specs.CanRoll.{can_roll}
use Rattle.gufi_image.specs.Image.{parts_image, directories_image}
use Rattle.gufi_image.proofs.Written.{directories_more}
use Rattle.gufi_image.proofs.writer.put_directories.Goals as goal

pub loop-number-preserved : goal.loop-number-preserved
loop-number-preserved c =
    let tree = c.args.snap.now.tree in
    let limit = c.args.snap.now.limit in
    let seen = c.tree-tree.result.now in
    let i = c.loop-number.number in
    let own = parts_image c.args.width c.parent_number.result c.rolled.result c.path.result c.rec.result c.entries.result in
    let same = c.tree-tree.ensures.tree in
    let flag = subst (λ (t : List Directory). c.rolled.result ≡ can_roll t limit (path_at t i)) (sym same) c.rolled.ensures in
    let more = directories_more c.args.width seen limit i c.parent_number.result c.rolled.result c.path.result c.rec.result c.entries.result c.parent_number.ensures flag c.path.ensures c.rec.ensures c.entries.ensures.value
    (omega (arith, c.loop-number-test.true, c.dirs-number-end.ensures.count))
    in
    let there = subst (λ (t : List Directory). directories_image c.args.width t limit (take (i + 1) t) ≡ directories_image c.args.width t limit (take i t) ++ own) same more in
    c.in_ok-put_directory.ensures
    ∙ ap (λ (t : List ℕ). t ++ own) c.loop-number.invariant
    ∙ append_assoc c.args.out.now.items (directories_image c.args.width tree limit (take i tree)) own
    ∙ ap (λ (t : List ℕ). c.args.out.now.items ++ t) (sym there)
