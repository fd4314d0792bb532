use Rattle.gufi_pattern.proofs.PatternLemmas.{bad_of_no_utf8, bad_of_refuses, good_of_reads}
use Rattle.gufi_pattern.proofs.pattern.Pattern.of.Goals as goal

-- no UTF-8
pub returns-in_default-clause-bad : goal.returns-in_default-clause-bad
returns-in_default-clause-bad c = λ _. bad_of_no_utf8 _ c.in_default.ensures.cases.0

-- built, so it is read, and not too deep
pub returns-in-Ok-new-clause-good : goal.returns-in-Ok-new-clause-good
returns-in-Ok-new-clause-good c =
    let made = c.in-Ok-new.ensures in
    good_of_reads _ _ _ c.in-Ok.ensures.cases.1 (rw (made.source, made.config, c.in-Ok.ensures.cases.0) at made.read)

-- an error of syntax is no reading, or one that is too deep
pub returns-in-Err-Syntax-clause-bad : goal.returns-in-Err-Syntax-clause-bad
returns-in-Err-Syntax-clause-bad c =
    let refusal = c.in-Err-Syntax.ensures in
    let kind = rw c.in-Err-Syntax.field-0-is at refusal.kind in
    λ _. bad_of_refuses _ _ c.in-Ok.ensures.cases.1 kind (rw c.in-Ok.ensures.cases.0 at refusal.refused _ c.in-Err-Syntax.field-0-is)
