use Rattle.std.proofs.Common.{arith}
use Rattle.gufi_image.proofs.NumbersThere.{meta_long}
use Rattle.gufi_image.proofs.record.fault_of_cut.Goals as goal

pub unreachable-requires : goal.unreachable-requires
unreachable-requires c =
    let long = meta_long c.args.kind c.args.bytes.now _ c.in-Ok.ensures.gives in
    omega (arith, c.requires, long)
