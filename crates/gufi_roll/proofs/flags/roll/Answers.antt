use Rattle.gufi_roll.proofs.flags.roll.Goals as goal

pub returns-clause-known : goal.returns-clause-known
returns-clause-known c = record { limit = c.args.limit; same = c.in_ok-flags.ensures }
