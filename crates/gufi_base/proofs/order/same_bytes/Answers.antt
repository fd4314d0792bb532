use Rattle.gufi_base.proofs.Blocks.{same_whole}
use Rattle.gufi_base.proofs.order.same_bytes.Goals as goal

pub returns : goal.returns
returns c =
    same_whole c.args.a.now c.args.b.now c.common_front.result c.if-a-b.false c.common_front.ensures.within_a c.common_front.ensures.same c.common_front.ensures.most
