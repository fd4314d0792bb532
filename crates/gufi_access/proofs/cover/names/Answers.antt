use Rattle.std.proofs.Common.{◌==◌, rules, tests}
use Rattle.std.proofs.lemmas.Iterator.Consumers.{YieldsList-from_first}
use Rattle.std.proofs.lemmas.Iterator.Search.{any_from_yields_List}
use Rattle.gufi_access.specs.Seen.{seen_id, named_left}
use Rattle.gufi_access.proofs.cover.names.Goals as goal

pub returns : goal.returns
returns c =
    any_from_yields_List (λ e. e.id == c.args.id) c.any.new.self _ _ c.any.ensures.ran
    (YieldsList-from_first (seen_id) named_left {s = c.groups.result} _ c.groups.ensures)
    (λ x b q k. search (rules, tests))
