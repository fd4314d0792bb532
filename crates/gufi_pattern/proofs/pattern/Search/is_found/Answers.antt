use Rattle.gufi_pattern.proofs.PatternLemmas.{found_of_reads}
use Rattle.gufi_pattern.proofs.pattern.Search.is_found.Goals as goal

pub returns-clause-found : goal.returns-clause-found
returns-clause-found c =
    rw (c.is_match.ensures.found, c.self.invariant.2, ← c.self.view_is)
    (found_of_reads _ _ _ (rw c.self.invariant.0 at c.self.invariant.1) c.args.text.now (λ k. (c.type_inv.text k).fits))
