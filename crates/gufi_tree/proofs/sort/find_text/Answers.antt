use Rattle.std.proofs.Common.{rules, ◌∙◌}
use Rattle.std.proofs.lemmas.Fn.{always_returns_same}
use Rattle.gufi_base.specs.Paths.{path_cmp}
use Rattle.gufi_base.specs.PathTexts.{names}
use Rattle.gufi_tree.specs.declared.tree.Stored.{Stored}
use Rattle.gufi_tree.proofs.Searched.{searched}
use Rattle.gufi_tree.proofs.sort.find_text.Goals as goal

pub returns : goal.returns
returns c =
    c.ok.ensures.value ∙ searched c.args.stored.now (names c.args.text.now) c.binary_search_by.result c.requires.order c.binary_search_by.ensures.bound
    (c.binary_search_by.ensures.position (λ (s : Stored). path_cmp s.path (names c.args.text.now)) (always_returns_same _ _ _ (λ a r g q. search rules)))
