use Rattle.std.proofs.Common.{inl, arith, length, ap, ◌∙◌}
use Rattle.gufi_access.specs.Acl.{entries_left}
use Rattle.gufi_access.proofs.EntryLemmas.{length-entries}
use Rattle.gufi_access.proofs.acl.count_tag.Goals as goal

pub count-requires-clause-fits : goal.count-requires-clause-fits
count-requires-clause-fits c =
    let few = length-entries c.args.acl.now in
    let left = ap entries_left c.filter.ensures.source ∙ c.of.ensures in
    inl (omega (arith, ap length left))
