use Rattle.std.proofs.Common.{◌+◌, ◌-◌, length, arith}
use Rattle.gufi_base.proofs.SlashBlocks.{slashes_more, slashes_whole, front_few, slashes_few}
use Rattle.gufi_base.proofs.path_parts.slashes_by_blocks.Goals as goal

pub overflow_add-count : goal.overflow_add-count
overflow_add-count g c =
    let more = slashes_more c.args.text.now c.by_blocks.at g.row.N in
    let few = front_few c.args.text.now (c.by_blocks.at + g.row.N) in
    omega (arith, c.by_blocks.invariant.slashes, c.slashes_at-count.ensures, more, few)

pub by_blocks-preserved : goal.by_blocks-preserved
by_blocks-preserved g c =
    let more = slashes_more c.args.text.now c.by_blocks.at g.row.N in
    record {
      slashes = omega (arith, c.by_blocks.invariant.slashes, c.slashes_at-count.ensures, more);
      within = omega arith;
    }

pub overflow_add-result : goal.overflow_add-result
overflow_add-result g c =
    let whole = slashes_whole c.args.text.now c.by_blocks.at g.row.N (length c.args.text.now - g.row.N) (omega arith) (omega arith) in
    omega (arith, c.by_blocks.invariant.slashes, c.slashes_at.ensures, whole, slashes_few c.args.text.now)

pub returns : goal.returns
returns g c =
    let whole = slashes_whole c.args.text.now c.by_blocks.at g.row.N (length c.args.text.now - g.row.N) (omega arith) (omega arith) in
    omega (arith, c.by_blocks.invariant.slashes, c.slashes_at.ensures, whole)
