use Rattle.std.proofs.Common.{rules, arith}
use Rattle.std.proofs.lemmas.Grind.{common_steps}
use Rattle.gufi_glob.proofs.reader.bracket_front.Goals as goal

pub returns-else-has_class-clause-unclosed : goal.returns-else-has_class-clause-unclosed
returns-else-has_class-clause-unclosed c =
    rw (c.front_of-in-None.ensures.unclosed, c.front_of-in-None.ensures.used) (record { open_end = grind (arith, common_steps, c.in-None.ensures.value); classless = search rules })
