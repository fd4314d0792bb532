use Rattle.std.proofs.Common.{sym, subst}
use Rattle.gufi_formula.specs.Hints.{AreWhole}
use Rattle.gufi_select.proofs.HintLemmas.{select_whole}
use Rattle.gufi_select.proofs.select.Select.hints.Goals as goal

pub returns-clause-whole : goal.returns-clause-whole
returns-clause-whole c = subst AreWhole (sym c.in_ok-hints.ensures) (select_whole c.args.self.now)
