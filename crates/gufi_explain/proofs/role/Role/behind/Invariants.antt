use Rattle.std.proofs.Common.{◌≡◌, ◌+◌, drop}
use Rattle.gufi_words.specs.WordTexts.{texts}
use Rattle.gufi_explain.specs.declared.role.Role.TheVariants.{Choice}
use Rattle.gufi_explain.specs.Roles.{role_from}
use Rattle.gufi_explain.proofs.role.Role.behind.Given as goal

abbrev pub invariant-loop-at : goal.invariant-loop-at
invariant-loop-at l = role_from l.options 1 Choice (texts l.words) ≡ role_from l.options (l.at + 1) l.role (texts (drop l.at l.words))
