use Rattle.gufi_top.specs.Reasons.{named_count}
use Rattle.gufi_top.proofs.StepLemmas.{opens_both, opens_first}
use Rattle.gufi_top.proofs.users.read_users.Goals as goal

pub returns-in-Ok-clause-opens : goal.returns-in-Ok-clause-opens
returns-in-Ok-clause-opens g c =
    opens_both g.F.Shelf c.read_groups_beside.result (named_count c.args.passwd.now) (named_count c.args.group.now) _ _ _ c.in-Ok.ensures.opens c.read_groups_beside.ensures.opens

pub returns-in-Err-clause-opens : goal.returns-in-Err-clause-opens
returns-in-Err-clause-opens g c = opens_first g.F.Shelf (named_count c.args.passwd.now) (named_count c.args.group.now) _ _ c.in-Err.ensures.opens
