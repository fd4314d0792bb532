use Rattle.std.proofs.Common.{not, rules, tests}
use Rattle.std.proofs.lemmas.Iterator.Consumers.{YieldsList-from_first}
use Rattle.std.proofs.lemmas.Iterator.Search.{all_from_yields_List}
use Rattle.gufi_access.specs.Seen.{seen_id, named_left}
use Rattle.gufi_access.proofs.cover.admits_none.Goals as goal

pub returns-then-not-r : goal.returns-then-not-r
returns-then-not-r c =
    rw c.if-not-r.true (all_from_yields_List (λ e. not e.ok) c.all.new.self _ _ c.all.ensures.ran
    (YieldsList-from_first seen_id named_left {s = c.groups.result} _ c.groups.ensures)
    (λ x b q k. search (rules, tests)))
