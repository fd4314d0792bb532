use Rattle.gufi_ask.proofs.PrefixLemmas.{parts_put}
use Rattle.gufi_ask.proofs.prefixed.put_below_root.Goals as goal

pub returns : goal.returns
returns c of stands =
    parts_put c.args.row of c.args.out.now.items c.put.new.out.items c.put-2.new.out.items stands c.if-row-eq0.false c.in_ok-put.ensures c.in_ok-put-2.ensures
