use Rattle.std.proofs.Common.{rules, tests}
use Rattle.std.proofs.lemmas.Iterator.Consumers.{YieldsList-from_first}
use Rattle.std.proofs.lemmas.Iterator.Search.{all_from_yields_List}
use Rattle.gufi_access.specs.Acl.{entries_left, is_entry}
use Rattle.gufi_access.proofs.acl.is_formed.Goals as goal

pub returns : goal.returns
returns c =
    all_from_yields_List (is_entry) c.all.new.self _ _ c.all.ensures.ran
    (YieldsList-from_first (λ x. x) entries_left {s = c.of.result} _ c.of.ensures)
    (λ x b q k. search (rules, tests))
