use Rattle.std.proofs.Common.{◌+◌, ◌≤◌, length, drop, arith}
use Rattle.std.proofs.lemmas.List.{length-drop}
use Rattle.gufi_line.proofs.NearEnds.{near_end, clear_more, some_behind, none_behind}
use Rattle.gufi_line.proofs.fields.end_by_blocks.Goals as goal

pub returns-then-ends-ne0 : goal.returns-then-ends-ne0
returns-then-ends-ne0 c =
    let left : 64 ≤ length (drop c.by_blocks.at c.args.text.now) = let d = length-drop c.by_blocks.at c.args.text.now in omega (arith, c.by_blocks-test.true) in
    some_behind c.args.delim c.args.text.now c.by_blocks.at _ c.by_blocks.invariant.clear (near_end c.args.delim (drop c.by_blocks.at c.args.text.now) left c.if-ends-ne0.true)

pub by_blocks-preserved : goal.by_blocks-preserved
by_blocks-preserved c =
    let within : c.by_blocks.at + 64 ≤ length c.args.text.now = omega (arith, c.by_blocks-test.true) in
    record { within = within; clear = clear_more c.args.delim c.args.text.now c.by_blocks.at within c.by_blocks.invariant.clear c.if-ends-ne0.false }

pub returns-in-Some : goal.returns-in-Some
returns-in-Some c = some_behind c.args.delim c.args.text.now c.by_blocks.at c.in-Some.last c.by_blocks.invariant.clear (rw c.from.ensures at c.in-Some.ensures)

pub returns-in-None : goal.returns-in-None
returns-in-None c = none_behind c.args.delim c.args.text.now c.by_blocks.at c.by_blocks.invariant.clear (rw c.from.ensures at c.in-None.ensures)
