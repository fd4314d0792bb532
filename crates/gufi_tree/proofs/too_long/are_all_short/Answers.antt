use Rattle.std.proofs.Common.{◌+◌, length, ap, arith}
use Rattle.std.proofs.lemmas.Bool.{leb-true}
use Rattle.gufi_tree.proofs.TooLong.{short_rows}
use Rattle.gufi_tree.proofs.too_long.are_all_short.Goals as goal

pub returns : goal.returns
returns c = λ holds.
    let text = ap length c.text.ensures.text in
    let few = leb-true (length c.text.result.now + c.longest.result) 512 holds in
    short_rows c.args.above.now c.longest.result c.args.dirs.now c.text.ensures.names (omega arith) c.longest.ensures
