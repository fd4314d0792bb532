use Rattle.gufi_roll.proofs.FromFlags.{flags_all}
use Rattle.gufi_roll.proofs.known.roll_from.Goals as goal

pub returns : goal.returns
returns c = flags_all c.args.tree.now c.args.limit c.in_ok-flags.flags.items c.in_ok-flags.ensures
