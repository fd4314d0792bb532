use Rattle.std.specs.Option.{option_copied}
use Rattle.std.proofs.lemmas.Result.{on_ok_weaker}
use Rattle.gufi_agg.proofs.LineLemmas.{line-put}
use Rattle.gufi_agg.proofs.text.put_line.Goals as goal

pub returns : goal.returns
returns c =
    on_ok_weaker c.put.result
    (line-put (option_copied c.args.names) c.args.agg.now c.args.above c.args.group.now c.key.result c.items.result.now c.args.out.now.items c.put_key.new.out.items c.put_items.new.out.items c.put.new.out.items c.key.ensures c.items.ensures c.in_ok-put_key.ensures c.in_ok-put_items.ensures)
    c.put.ensures
