use Rattle.std.proofs.Common.{ℕ, ◌+◌, sym, ap, ◌∙◌, arith}
use Rattle.std.specs.Prelude.{nat_le}
use Rattle.std.proofs.lemmas.Bool.{ltb-true, ltb-false}
use Rattle.gufi_tree.proofs.Kids.{at_place}
use Rattle.gufi_tree.proofs.Ranges.{below_within}
use Rattle.gufi_roll.proofs.Counted.{many, some_under, counted_one, counted_more, counted_few, counted_all, over_limit}
use Rattle.gufi_roll.proofs.Laws.{rows_below-few}
use Rattle.gufi_roll.proofs.known.has_few_rows.Goals as goal
use Rattle.gufi_roll.proofs.known.has_few_rows.Goals.{then-loop-rows-test+else-are_more, else-loop-rows-test}

pub loop-rows-init : goal.loop-rows-init
loop-rows-init c =
    let d = (at_place c.args.tree.now c.args.id.0 c.requires).0 in
    record {
      some = omega arith;
      few = omega (arith, some_under c.args.tree.now c.dirs-count.ensures.shape c.args.id.0 c.requires);
      rows = c.own_count-rows.ensures d ∙ sym (counted_one c.args.tree.now c.dirs-count.ensures.shape c.args.id.0 c.requires d);
    }

pub overflow_add-id : goal.overflow_add-id
overflow_add-id c =
    let within = below_within c.args.tree.now c.args.id.0 c.dirs-count.ensures.shape.order c.requires in
    omega (arith, within, c.loop-rows.invariant.few, c.dirs-count.ensures.count, c.dirs-count.type_inv)

pub own_count-rows-requires-in-loop-rows : goal.own_count-rows-requires-in-loop-rows
own_count-rows-requires-in-loop-rows c =
    let within = below_within c.args.tree.now c.args.id.0 c.dirs-count.ensures.shape.order c.requires in
    let more = ltb-true c.loop-rows.seen (many c.args.tree.now c.dirs-count.ensures.shape c.args.id.0 c.requires) (sym c.are_more.ensures ∙ c.if-are_more.true) in
    omega (arith, within, more)

pub overflow_add-rows : goal.overflow_add-rows
overflow_add-rows c =
    let tree = c.args.tree.now in
    let shape = c.dirs-count.ensures.shape in
    let more = ltb-true c.loop-rows.seen (many tree shape c.args.id.0 c.requires) (sym c.are_more.ensures ∙ c.if-are_more.true) in
    let d = (at_place tree c.args.id.0 c.requires).0 in
    omega (
      arith,
      c.loop-rows.invariant.rows,
      c.own_count-rows-in-loop-rows.ensures d,
      counted_more tree shape c.args.id.0 c.requires c.loop-rows.seen d more,
      counted_few tree shape c.args.id.0 c.requires (c.loop-rows.seen + 1) (omega (arith, more)),
      rows_below-few c.args.tree.now shape,
      c.dirs-count.ensures.rows,
    )

pub overflow_add-seen : goal.overflow_add-seen
overflow_add-seen c =
    let within = below_within c.args.tree.now c.args.id.0 c.dirs-count.ensures.shape.order c.requires in
    let more = ltb-true c.loop-rows.seen (many c.args.tree.now c.dirs-count.ensures.shape c.args.id.0 c.requires) (sym c.are_more.ensures ∙ c.if-are_more.true) in
    omega (arith, within, more, c.dirs-count.ensures.count, c.dirs-count.type_inv)

pub loop-rows-preserved : goal.loop-rows-preserved
loop-rows-preserved c =
    let tree = c.args.tree.now in
    let shape = c.dirs-count.ensures.shape in
    let more = ltb-true c.loop-rows.seen (many tree shape c.args.id.0 c.requires) (sym c.are_more.ensures ∙ c.if-are_more.true) in
    let d = (at_place tree c.args.id.0 c.requires).0 in
    let next = counted_more tree shape c.args.id.0 c.requires c.loop-rows.seen d more in
    record {
      some = omega arith;
      few = omega (arith, more);
      rows = omega (arith, c.loop-rows.invariant.rows, c.own_count-rows-in-loop-rows.ensures d, next);
    }

pub returns : goal.returns
returns c =
    let tree = c.args.tree.now in
    let shape = c.dirs-count.ensures.shape in
    let rows = ap (λ (n : ℕ). nat_le n c.args.limit) c.loop-rows.invariant.rows in
    elim c.loop-rows-test.branch [
      | then-loop-rows-test+else-are_more w ↦ (let end = ltb-false c.loop-rows.seen (many tree shape c.args.id.0 c.requires) (sym w.are_more.ensures ∙ w.if-are_more.false) in
          rows ∙ ap (λ (n : ℕ). nat_le n c.args.limit) (counted_all tree shape c.args.id.0 c.requires c.loop-rows.seen end))
      | else-loop-rows-test w ↦ rows ∙ over_limit tree shape c.args.id.0 c.requires c.loop-rows.seen c.args.limit c.loop-rows.invariant.few (omega (arith, c.loop-rows.invariant.rows, w.loop-rows-test.false))
    ]
