use Rattle.gufi_top.proofs.ReadingLemmas.{whole_ok}
use Rattle.gufi_top.proofs.reading.read_trace_bytes.Goals as goal

pub returns-in-Ok-clause-tree : goal.returns-in-Ok-clause-tree
returns-in-Ok-clause-tree c = whole_ok c.args.delim c.args.name.now c.args.bytes.now c.in-Ok.lines c.build_tree.result c.in-Ok.ensures.lines c.build_tree.ensures.tree
