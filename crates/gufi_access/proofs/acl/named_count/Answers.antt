use Rattle.std.proofs.Common.{arith}
use Rattle.gufi_access.specs.Acl.{entries}
use Rattle.gufi_access.proofs.EntryLemmas.{length-entries, count_of-few}
use Rattle.gufi_access.proofs.acl.named_count.Goals as goal

pub overflow_add-result : goal.overflow_add-result
overflow_add-result c =
    let few = length-entries c.args.acl.now in
    let users = count_of-few 1 (entries c.args.acl.now) in
    let groups = count_of-few 3 (entries c.args.acl.now) in
    grind arith
