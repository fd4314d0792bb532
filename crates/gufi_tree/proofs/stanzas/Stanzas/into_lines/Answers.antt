use Rattle.gufi_tree.proofs.Ended.{whole_few}
use Rattle.gufi_tree.proofs.stanzas.Stanzas.into_lines.Goals as goal

pub lines-requires-clause-few : goal.lines-requires-clause-few
lines-requires-clause-few c =
    let closed = c.in_ok-closed.closed in
    whole_few c.args.self closed.dirs closed.places.items closed.distinct c.in_ok-closed.ensures c.requires
