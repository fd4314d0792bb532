use Rattle.gufi_select.specs.States.{state_kept}
use Rattle.gufi_select.proofs.ReadLemmas.{read_faulty, read_finished}
use Rattle.gufi_select.proofs.reading.read_select.Goals as goal

pub returns-in-Ok : goal.returns-in-Ok
returns-in-Ok c = read_finished c.args.text.now (state_kept c.in-Ok.state) c.finished.result c.in-Ok.ensures c.finished.ensures

pub returns-in-Err : goal.returns-in-Err
returns-in-Err c = read_faulty c.args.text.now c.in-Err.error c.in-Err.ensures
