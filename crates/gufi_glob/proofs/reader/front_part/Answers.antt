use Rattle.std.proofs.Common.{arith}
use Rattle.std.proofs.lemmas.Bool.{ne_eqb}
use Rattle.gufi_glob.proofs.Unclosed.{unclosed_behind}
use Rattle.gufi_glob.proofs.reader.front_part.Goals as goal

pub returns-in_default-clause-unclosed : goal.returns-in_default-clause-unclosed
returns-in_default-clause-unclosed c =
    rw (c.front_of-in_default.ensures.unclosed, c.front_of-in_default.ensures.used)
    (unclosed_behind c.args.is_unclosed c.args.first c.args.rest.now (ne_eqb c.args.first 92 (λ e. omega arith)) c.requires)
