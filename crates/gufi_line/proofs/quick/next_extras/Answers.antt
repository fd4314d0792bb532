use Rattle.std.proofs.Common.{[], refl}
use Rattle.gufi_line.proofs.AttributeNames.{unmarked}
use Rattle.gufi_line.proofs.quick.next_extras.Goals as goal

pub returns-in_default-clause-names : goal.returns-in_default-clause-names
returns-in_default-clause-names c = let e = c.in_default.ensures in rw e.0 (unmarked [] refl)
