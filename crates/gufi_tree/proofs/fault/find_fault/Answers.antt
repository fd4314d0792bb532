use Rattle.std.proofs.Common.{sym, ap, ◌∙◌, ◌+◌, take, drop, reverse, arith, List}
use Rattle.std.specs.Prelude.{◌||◌, Option}
use Rattle.std.specs.List.{list_any}
use Rattle.std.specs.Option.{option_or}
use Rattle.gufi_base.specs.declared.record.Line.{Line}
use Rattle.gufi_tree.specs.declared.fault.TreeFault.{TreeFault}
use Rattle.gufi_tree.specs.Build.{least_fault}
use Rattle.gufi_tree.specs.Texts.{has_text, has_path_text}
use Rattle.gufi_tree.proofs.Sets.{reverse_more, fault_at, rooted_is, least_step, least_end, tree_rooted, tree_rootless}
use Rattle.gufi_tree.proofs.fault.find_fault.Goals as goal

pub returns-then-not-contains : goal.returns-then-not-contains
returns-then-not-contains c =
    tree_rootless c.args.lines.now (sym (rooted_is c.args.lines.now (has_text c.in_ok-dirs.dirs) c.in_ok-dirs.ensures.named c.in_ok-dirs.ensures.texts) ∙ sym c.contains.ensures ∙ c.if-not-contains.true)

pub returns-in-Some : goal.returns-in-Some
returns-in-Some c =
    let all = c.args.lines.now in
    let i = c.loop-line.line-index in
    let root = sym (rooted_is all (has_text c.in_ok-dirs.dirs) c.in_ok-dirs.ensures.named c.in_ok-dirs.ensures.texts) ∙ sym c.contains.ensures ∙ c.if-not-contains.false in
    let here = fault_at all i c.line-item.result (has_text c.loop-line.seen) (has_text c.in_ok-dirs.dirs) c.loop-line-test.true c.line-item.is c.in_ok-dirs.ensures.named c.loop-line.invariant.seen c.in_ok-dirs.ensures.texts in
    sym (tree_rooted all root ∙ sym c.loop-line.invariant.least ∙ least_step all i c.line-item.result c.loop-line-test.true c.line-item.is
    ∙ ap (λ (o : Option TreeFault). option_or o (least_fault all (reverse (take (i + 1) all)) (drop (i + 1) all))) (sym here ∙ sym c.in_ok-fault.ensures.fault ∙ c.in-Some.is))

pub loop-line-preserved : goal.loop-line-preserved
loop-line-preserved c =
    let all = c.args.lines.now in
    let i = c.loop-line.line-index in
    let here = fault_at all i c.line-item.result (has_text c.loop-line.seen) (has_text c.in_ok-dirs.dirs) c.loop-line-test.true c.line-item.is c.in_ok-dirs.ensures.named c.loop-line.invariant.seen c.in_ok-dirs.ensures.texts in
    record {
      seen = λ text. c.in_ok-fault.ensures.seen text ∙ ap (λ b. has_path_text text c.line-item.result || b) (c.loop-line.invariant.seen text)
          ∙ sym (ap (λ (xs : List Line). list_any (has_path_text text) xs) (reverse_more all i c.line-item.result c.loop-line-test.true c.line-item.is));
      least = sym (least_step all i c.line-item.result c.loop-line-test.true c.line-item.is
          ∙ ap (λ (o : Option TreeFault). option_or o (least_fault all (reverse (take (i + 1) all)) (drop (i + 1) all))) (sym here ∙ sym c.in_ok-fault.ensures.fault ∙ c.in_default.is)) ∙ c.loop-line.invariant.least;
    }

pub returns : goal.returns
returns c =
    let all = c.args.lines.now in
    let root = sym (rooted_is all (has_text c.in_ok-dirs.dirs) c.in_ok-dirs.ensures.named c.in_ok-dirs.ensures.texts) ∙ sym c.contains.ensures ∙ c.if-not-contains.false in
    sym (tree_rooted all root ∙ sym c.loop-line.invariant.least ∙ least_end all (reverse (take c.loop-line.line-index all)) c.loop-line.line-index (omega arith))
