use Rattle.std.proofs.Common.{◌==◌, ◌&&◌, rules, tests}
use Rattle.std.proofs.lemmas.Iterator.Consumers.{YieldsList-from_first}
use Rattle.std.proofs.lemmas.Iterator.Search.{any_from_yields_List}
use Rattle.gufi_access.specs.Acl.{entries_left}
use Rattle.gufi_access.specs.Access.{is_member}
use Rattle.gufi_access.proofs.granting.names_a_group.Goals as goal

pub returns : goal.returns
returns c =
    any_from_yields_List (λ e. (e.tag == 3) && is_member c.args.groups.now e.id) c.any.new.self _ _ c.any.ensures.ran
    (YieldsList-from_first (λ x. x) entries_left {s = c.of.result} _ c.of.ensures)
    (λ x b q k. search (rules, tests))
