use Rattle.std.proofs.Common.{rules, is_lt}
use Rattle.std.proofs.lemmas.Cmp.{nat_cmp_total}
use Rattle.std.proofs.lemmas.List.Sorted.{ranks_by, answers_always}
use Rattle.gufi_base.specs.declared.record.Line.{Line}
use Rattle.gufi_tree.specs.StanzaLines.{line_cmp}
use Rattle.gufi_tree.proofs.stanzas.sort_lines.Goals as goal

pub returns-clause-order : goal.returns-clause-order
returns-clause-order c =
    c.sort_unstable_by.ensures.sorted (λ (x y : Line). is_lt (line_cmp x y)) (ranks_by nat_cmp_total (λ (l : Line). l.number)) (answers_always _ _ _ (λ f a r g q. search rules))
