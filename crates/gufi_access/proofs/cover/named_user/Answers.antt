use Rattle.std.proofs.Common.{◌==◌, rules, tests}
use Rattle.std.proofs.lemmas.Iterator.Consumers.{YieldsList-from_first}
use Rattle.std.proofs.lemmas.Iterator.Search.{find_from_yields_List}
use Rattle.gufi_access.specs.Seen.{seen_id, named_left}
use Rattle.gufi_access.proofs.cover.named_user.Goals as goal

pub returns : goal.returns
returns c =
    find_from_yields_List (λ e. e.id == c.args.uid) c.find.new.self _ _ c.find.ensures.ran
    (YieldsList-from_first (seen_id) named_left {s = c.users.result} _ c.users.ensures)
    (λ x b q k. search (rules, tests))
