-- The test of the rules tells exactly whether one directory covers another.
use Rattle.std.proofs.Common.{◌↔◌, sym, ◌∙◌, IsTrue}
use Rattle.gufi_access.specs.Access.{Rights, Covers, principal}
use Rattle.gufi_access.specs.Tried.{rule_of, covers}
use Rattle.gufi_access.proofs.Linked.{can_list_rule}
use Rattle.gufi_access.proofs.Ruled.{rules_kept, rules_kept_back}

pub covers_exactly : (d c : Rights) → IsTrue (covers d c) ↔ Covers d c
unfolding covers Covers
covers_exactly d c = (
  (λ test who listed. can_list_rule who c ∙ rules_kept (rule_of d) (rule_of c) test who.uid who.groups (sym (can_list_rule who d) ∙ listed)),
  (λ all. rules_kept_back (rule_of d) (rule_of c)
      (λ uid gs passed. sym (can_list_rule (principal uid gs) c) ∙ all (principal uid gs) (can_list_rule (principal uid gs) d ∙ passed))),
)
