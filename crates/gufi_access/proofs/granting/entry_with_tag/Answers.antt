use Rattle.std.proofs.Common.{◌==◌, sym, ◌∙◌, rules, tests}
use Rattle.std.proofs.lemmas.Iterator.Consumers.{YieldsList-from_first}
use Rattle.std.proofs.lemmas.Iterator.Search.{find_from_yields_List}
use Rattle.std.proofs.lemmas.Iterator.Adapters.{option_map_id}
use Rattle.gufi_access.specs.Acl.{entries_left}
use Rattle.gufi_access.proofs.granting.entry_with_tag.Goals as goal

pub returns : goal.returns
returns c =
    sym (option_map_id c.find.result) ∙ find_from_yields_List (λ e. e.tag == c.args.tag) c.find.new.self _ _ c.find.ensures.ran
    (YieldsList-from_first (λ x. x) entries_left {s = c.of.result} _ c.of.ensures)
    (λ x b q k. search (rules, tests))
