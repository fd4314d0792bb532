use Rattle.std.proofs.Common.{refl, rules, tests}
use Rattle.std.proofs.lemmas.Iterator.Consumers.{YieldsList-from_first}
use Rattle.std.proofs.lemmas.Iterator.Search.{all_from_yields_List}
use Rattle.gufi_access.specs.Seen.{seen, seen_id, named_left, user_stays}
use Rattle.gufi_access.proofs.cover.each_stays.Goals as goal

pub returns : goal.returns
returns c =
    all_from_yields_List (λ e. user_stays c.args.none c.args.all (seen c.args.d.now) (seen c.args.c.now) e.id) c.all.new.self _ _ c.all.ensures.ran
    (YieldsList-from_first seen_id named_left {s = c.args.users} _ refl)
    (λ x b q k. search (rules, tests))
