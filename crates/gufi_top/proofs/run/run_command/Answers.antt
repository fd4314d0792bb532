use Rattle.std.proofs.Common.{sym}
use Rattle.gufi_top.specs.Verdict.{command_over}
use Rattle.gufi_top.proofs.run.run_command.Goals as goal

pub returns-in-Session-clause-run : goal.returns-in-Session-clause-run
unfolding command_over
returns-in-Session-clause-run g c = rw (c.in-Session.is, sym c.min.ensures) c.run.ensures.run
